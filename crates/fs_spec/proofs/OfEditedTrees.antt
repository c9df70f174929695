-- Lemmas on files that stay a tree where names come, go and move. Serves: `edited_trees`.
pub mod Building
pub mod PathChanges
pub mod Adding
pub mod Taking
pub mod Moving
pub mod SameShape
