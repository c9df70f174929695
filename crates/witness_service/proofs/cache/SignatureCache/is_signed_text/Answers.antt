use Rattle.std.proofs.Common.{refl, ◌∙◌}
use Rattle.witness_service.specs.Caching.{key_item}
use Rattle.witness_service.specs.Hashing.{ref_bytes}
use Rattle.witness_service.proofs.Keys.{signed_here, text_key}
use Rattle.witness_service.proofs.cache.SignatureCache.is_signed_text.Goals as goal

-- a key that is found says that the authenticator of its text is signed
pub returns-then-is_used-clause-signed : goal.returns-then-is_used-clause-signed
returns-then-is_used-clause-signed c =
    let m = c.args.member.now in
    let a = c.args.authenticator.now in
    let fits = c.new-key.ensures.fits in (
      λ _. signed_here (ref_bytes c.new-key.result) m.root m.height a (c.if-is_used.ensures.own refl)
          (c.new-key.ensures.key ∙ text_key m.root m.height a c.args.text.now c.requires)
          (fits.0, (fits.1, c.requires.0)) (c.no_spelling_begins_another.ensures key_item),
      λ _. refl,
    )
