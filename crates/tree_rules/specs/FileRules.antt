pub mod Climbs
pub mod Rules
