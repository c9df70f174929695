use Rattle.std.proofs.Common.{refl, ◌∙◌}
use Rattle.witness_service.specs.Caching.{key_item}
use Rattle.witness_service.specs.Hashing.{ref_bytes}
use Rattle.witness_service.proofs.Keys.{signed_here}
use Rattle.witness_service.proofs.cache.SignatureCache.is_signed.Goals as goal

pub returns-then-is_used-clause-signed : goal.returns-then-is_used-clause-signed
returns-then-is_used-clause-signed c = (
  λ _. signed_here (ref_bytes c.borrowed.result) c.args.member.now.root c.args.member.now.height
      (record {
        node = c.args.node;
        word = c.args.word;
        hash = c.args.hash.now;
        signature = c.args.signature.now;
      })
      (c.if-is_used.ensures.own refl) (c.borrowed.ensures ∙ c.in-Ok.ensures.text) c.in-Ok.ensures.fits
      (c.no_spelling_begins_another.ensures key_item),
  λ _. refl,
)

pub keep-requires-clause-own : goal.keep-requires-clause-own
keep-requires-clause-own c = record {
  root = c.args.member.now.root;
  height = c.args.member.now.height;
  authenticator = record {
    node = c.args.node;
    word = c.args.word;
    hash = c.args.hash.now;
    signature = c.args.signature.now;
  };
  text = c.in-Ok.ensures.text;
  fits = c.in-Ok.ensures.fits;
  signed = c.is_signed-2.ensures.0 c.if-not-is_signed.false;
}
