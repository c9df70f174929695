use Rattle.std.proofs.Common.{◌≡◌, length, ap, sym, subst, ◌∙◌}
use Rattle.std.proofs.lemmas.Option.{same_Some}
use Rattle.lamport.specs.Bound.{BoundLeaf}
use Rattle.lamport.proofs.ShownKeys.{length-shown_secrets, length-other_hashes}
use Rattle.merkle_keys.specs.BoundTexts.{AreOf}
use Rattle.merkle_keys.proofs.texts.Texts.made.Goals as goal

pub invariant_of-result-clause-shown_size : goal.invariant_of-result-clause-shown_size
invariant_of-result-clause-shown_size c = ap length c.signature-shown.ensures.shown ∙ length-shown_secrets _ _

pub invariant_of-result-clause-other_size : goal.invariant_of-result-clause-other_size
invariant_of-result-clause-other_size c = ap length c.signature-shown.ensures.other ∙ length-other_hashes _ _

-- the texts are what the key makes of its digest
pub invariant_of-result-clause-of_key : goal.invariant_of-result-clause-of_key
invariant_of-result-clause-of_key c = λ x is.
    let same : c.args.key.now ≡ x = sym c.again.ensures ∙ same_Some _ _ is in
    subst (λ (k : BoundLeaf). AreOf c.signature-shown.result.shown.items c.signature-shown.result.other.items k)
    same (c.signature-shown.ensures.shown, c.signature-shown.ensures.other)
