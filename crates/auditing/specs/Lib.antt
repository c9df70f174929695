pub mod AuditOutputs
pub mod Accounts
pub mod Lines
pub use Rattle.witness_calls.specs as witness_calls
pub use Rattle.witness_reports.specs as witness_reports
