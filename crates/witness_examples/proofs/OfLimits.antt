-- Lemmas on audits and forwarding after long histories. Serves: `limits`.
pub mod Audits
pub mod Digests
pub mod Forwarding
pub mod Rounds
