use Rattle.std.proofs.Common.{◌≤◌, length, ap, ◌∙◌}
use Rattle.lamport.specs.Bound.{BoundLeaf}
use Rattle.lamport.specs.Lamport.{shown_secrets, other_hashes}
use Rattle.merkle_keys.specs.declared.signature.TheConstants.{MAX_HEIGHT}
use Rattle.merkle_keys.proofs.Paths.{length-authentication_path}
use Rattle.merkle_keys.proofs.LeafSignatures.{leaf_signature_signs, signature_of_parts}
use Rattle.merkle_keys.proofs.signer.Signer.sign_into.Goals as goal

pub invariant_of-result : goal.invariant_of-result
invariant_of-result c =
    let low : c.args.self.now.height ≤ MAX_HEIGHT = rw (← c.self.view_is) c.self.invariant.low in
    let levels = ap length c.path-path.ensures ∙ length-authentication_path _ _ _ _ in rw levels low

pub returns-clause-signature : goal.returns-clause-signature
returns-clause-signature c =
    let key = rw c.take.ensures.key at c.bind-key.ensures in
    let shown = ap (λ (k : BoundLeaf). shown_secrets k.key k.digest) key in
    let other = ap (λ (k : BoundLeaf). other_hashes k.key k.digest) key in
    let path = rw (← c.self.view_is, c.next-leaf.ensures) at c.path-path.ensures in
    rw (c.next-leaf.ensures, ← c.self.view_is) (signature_of_parts _ _ _ _ _ _ _ shown other path)

pub returns-clause-signed : goal.returns-clause-signed
returns-clause-signed c =
    let low : c.args.self.now.height ≤ MAX_HEIGHT = rw (← c.self.view_is) c.self.invariant.low in
    rw (returns-clause-signature c) (leaf_signature_signs _ _ _ _ low c.requires.left)
