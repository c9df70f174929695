pub mod Signings
pub mod Senders
pub mod Received
pub mod Receiver
pub mod Outcomes
pub mod Kept
pub mod RefusalNumbers
