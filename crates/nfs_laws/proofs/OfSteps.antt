-- Lemmas on what calls that are not refused did, step by step.
-- Serves: `steps`, and by EachCall every law of calls.
pub mod Steps
pub mod Setting
pub mod Making
pub mod AfterEffects
pub mod Removing
pub mod Renaming
pub mod Reading
pub mod EachCall
