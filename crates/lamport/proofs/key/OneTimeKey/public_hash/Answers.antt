use Rattle.std.proofs.Common.{ℕ, ap, sym, ◌∙◌}
use Rattle.sha2.specs.Sha256.{sha256}
use Rattle.lamport.specs.Lamport.{public_hash}
use Rattle.lamport.proofs.key.OneTimeKey.public_hash.Goals as goal

-- the hash is that of the secret of the place and bit
pub returns : goal.returns
unfolding public_hash
returns c =
    c.digest.ensures ∙ ap sha256 (c.digest-secret.ensures ∙ sym c.secret_text.ensures)
    ∙ ap (λ (place : ℕ). public_hash c.args.self.now place c.args.bit) c.from.ensures
