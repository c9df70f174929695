pub mod Forms
pub mod Members
pub mod Signed
pub mod Words
