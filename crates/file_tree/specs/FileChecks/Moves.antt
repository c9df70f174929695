-- RENAME of a move that was checked, for the calls.
pub use Rattle.file_tree.specs.NameChecks.Moves.{moved}
