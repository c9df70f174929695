pub use Rattle.secure_log.proofs as secure_log
