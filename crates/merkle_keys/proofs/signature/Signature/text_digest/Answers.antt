use Rattle.std.proofs.Common.{[], ap, refl, ◌∙◌}
use Rattle.sha2.specs.Sha256.{sha256}
use Rattle.xdr.specs.Item.{array, fixed, number_spelling, spelling}
use Rattle.merkle_keys.specs.declared.signature.TheConstants.{MAX_HEIGHT}
use Rattle.merkle_keys.proofs.SignatureTexts.{one_by_one}
use Rattle.merkle_keys.proofs.signature.Signature.text_digest.Goals as goal

-- the parts of the text, one after the other
pub returns : goal.returns
unfolding number_spelling
returns c =
    let leaf = c.update.ensures [] c.new-text.ensures in
    let other = c.hash_into.ensures _ leaf in
    let path = ap (spelling (array MAX_HEIGHT (fixed 32))) c.deref.ensures.value in
    rw (← c.self.view_is) (c.finalize.ensures _ (c.hash_path.ensures _ other)
    ∙ ap sha256 (one_by_one _ _ _ _ _ _ _ _ c.to_be_bytes.ensures refl refl path))
