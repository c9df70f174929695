-- Lemmas on audits, charges and what exposes a node. Serves: `evidence`.
pub mod Marks
pub mod Starts
pub mod Audits
pub mod Before
pub mod Charges
pub mod Audited
pub mod Told
pub mod Taken
