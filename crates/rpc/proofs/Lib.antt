pub mod OfRecords
pub mod OfRecordLaws
pub mod Replies
pub mod Messages
