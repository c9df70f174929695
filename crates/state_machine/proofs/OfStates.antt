-- Lemmas on the ordered sets and maps that a state keeps. Serves: `states`.
pub mod Kept
pub mod NumberedMessages
pub mod Again
