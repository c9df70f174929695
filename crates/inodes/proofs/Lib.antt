pub mod OfDirectories
mod Contents
pub mod FilesSeen
