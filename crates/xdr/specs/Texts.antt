pub mod Text
pub mod TextFault
