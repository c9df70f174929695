use Rattle.std.proofs.Common.{◌≡◌, ◌∷◌, ◌++◌, [], codes, rules}
use Rattle.console.specs.Checking.{words_of}
use Rattle.console.proofs.Telling.{closed_is_shown, closing, five_parts}
use Rattle.console.proofs.checking.json.Goals as goal

-- the five parts that were written are the object, and a terminal shows what follows its words as it is
pub returns : goal.returns
returns c =
    let begun : c.extend_from_slice.new.self.items ≡ (123 ∷ 34 ∷ codes "verdict") ++ (34 ∷ 58 ∷ 34 ∷ []) = search rules in
    let words : c.extend_from_slice-2.new.self.items ≡ c.extend_from_slice.new.self.items ++ words_of c.args.judgement = search rules in
    let quote : c.extend_from_slice-3.new.self.items ≡ c.extend_from_slice-2.new.self.items ++ (34 ∷ []) = search rules in
    let more : c.extend_from_slice-4.new.self.items ≡ c.extend_from_slice-3.new.self.items ++ c.args.more.now = search rules in
    let end : c.extend_from_slice-5.new.self.items ≡ c.extend_from_slice-4.new.self.items ++ closing = search rules in
    record {
      more = c.args.more.now ++ closing;
      shown = closed_is_shown _ _ c.as_bytes-2.ensures.bytes c.as_bytes-2.ensures.shown;
      whole = five_parts _ _ _ _ _ _ _ _ _ _ begun words quote more end;
    }
