-- Lemmas on a state's parts within their bounds. Serves: `parts`.
pub mod Bounded
pub mod MountsTaken
