pub mod OfSignings
pub mod OfSenders
pub mod Messages
pub mod Receipts
