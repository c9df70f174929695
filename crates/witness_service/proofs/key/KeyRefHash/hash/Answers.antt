use Rattle.std.proofs.Common.{◌≡◌, List, ℕ, arith, ap, sym, ◌∙◌, take}
use Rattle.std.specs.Prelude.{fold}
use Rattle.std.proofs.lemmas.List.{take_min}
use Rattle.xdr.specs.Item.{number_spelling}
use Rattle.witness_service.specs.declared.key.TheConstants.{LOOKED_UP}
use Rattle.witness_service.proofs.Borrowed.{hashed}
use Rattle.witness_service.proofs.key.KeyRefHash.hash.Goals as goal

-- the three writes are the parts of the key's bytes
pub returns : goal.returns
unfolding number_spelling
returns g c =
    let text = c.args.self.now.text.now in
    let height : c.to_be_bytes.result ≡ number_spelling 4 c.args.self.now.height = c.to_be_bytes.ensures in
    let front : take c.min-count.result text ≡ take LOOKED_UP text =
    ap (λ (n : ℕ). take n text) c.min-count.ensures ∙ take_min LOOKED_UP text in
    (cc) ∙ ap (λ (writes : List (List ℕ)). fold g.H.Hasher.write c.args.state.now writes)
    (sym (hashed c.args.self.now (omega arith)))
