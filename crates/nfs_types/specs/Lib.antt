pub mod Calls
pub mod Items
pub mod Texts
pub mod Arguments
pub mod Results
pub mod Bounds
