-- Lemmas on answers to challenges. Serves: `answers`.
pub mod Answering
pub mod Closing
pub mod Unanswered
