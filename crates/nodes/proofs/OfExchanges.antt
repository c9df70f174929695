-- Lemmas on what one node shows and another accepts, in a call and its reply. Serves: `exchanges`.
pub mod Texts
pub mod Shown
pub mod Fresh
pub mod Reached
pub mod Called
pub mod Answered
