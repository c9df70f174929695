-- Lemmas on marks, fragments and records in a stream. Serves: `records`.
pub mod Filling
pub mod Marks
pub mod Fragments
pub mod Streams
pub mod Parts
pub mod Passing
pub mod InFront
