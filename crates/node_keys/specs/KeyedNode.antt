-- A node that has its keys and isn't made yet.
use Rattle.std.specs.Prelude.{◌≡◌, ◌≤◌, ℕ}
use Rattle.authenticator.specs.declared.member.Kind.{Kind}
use Rattle.authenticator.specs.declared.member.LogVersion.{LogVersion}
use Rattle.merkle_keys.specs.Signing.{SignerState}
use Rattle.node_keys.specs.declared.masters.Masters.{Masters}
use Rattle.node_keys.specs.Masters.{master_of}

-- its number and its kind, the version of its log, of what its master secret is made, and its keys
pub record KeyedParts : Type 0 where
  pub number : ℕ
  pub kind : Kind
  pub log_version : LogVersion
  pub masters : Masters
  pub signer : SignerState

-- Its keys are those of its master secret, and none is used.
pub record HasNewKeys (k : KeyedParts) : Type 0 where
  pub new : k.signer.used ≡ 0
  pub height : k.signer.height ≤ 16
  pub master : k.signer.master ≡ master_of k.masters k.number
