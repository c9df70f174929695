pub use Rattle.witness_spec.proofs as witness_spec
