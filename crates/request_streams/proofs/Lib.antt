pub mod OfServing
