pub mod Finished
pub mod OfPutBack
