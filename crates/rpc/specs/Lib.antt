pub mod Records
pub mod Call
pub mod CallValues
pub mod Reply
