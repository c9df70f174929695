pub mod Audited
pub mod Shown
pub mod Books
pub mod Faulty
pub mod Served
pub mod Based
