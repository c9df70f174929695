pub use Rattle.xdr.specs as xdr
pub mod Timeval
pub mod Handle
pub mod Terms
pub mod Attributes
pub mod Sattr
pub mod Caller
pub mod CallerOf
pub mod Credentials
pub mod CredentialRead
pub mod Programs
