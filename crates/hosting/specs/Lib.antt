pub mod BaseGiving
pub mod Hosting
