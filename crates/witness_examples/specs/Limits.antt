pub mod Audits
pub mod Forwarding
