pub use Rattle.authenticator.specs as authenticator
pub use Rattle.node_book.specs.witness_spec as witness_spec
pub use Rattle.node_book.specs as node_book
pub use Rattle.node_book.specs.challenge as challenge
pub mod Memory
pub mod Routing
pub mod Books
pub mod Starts
pub mod Places
pub mod Notes
pub mod Witnessed
pub mod Headline
pub mod Given
pub mod Delivering
