pub mod Timed
pub mod StreamProgress
