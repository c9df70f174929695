pub mod SaidParts
pub mod Bounds
pub mod Taking
