pub use Rattle.node_book.specs as node_book
pub mod Reports
pub mod Audits
