use Rattle.std.proofs.Common.{◌≡◌, ℕ, ◌+◌, ◌*◌, List, take, not, ap, sym, ◌∙◌, arith, refl}
use Rattle.std.proofs.lemmas.List.{take_all}
use Rattle.lamport.specs.Lamport.{digest_bit}
use Rattle.lamport.specs.declared.key.TheConstants.{PLACES}
use Rattle.lamport.proofs.LeafTexts.{shown_front, other_front, shown_front_none, other_front_none}
use Rattle.lamport.proofs.LeafTexts.{shown_front_all, other_front_all}
use Rattle.lamport.proofs.key.OneTimeKey.texts.Goals as goal

pub loop-turn-init : goal.loop-turn-init
loop-turn-init c = record {
  shown_size = refl;
  shown = rw shown_front_none refl;
  other_size = refl;
  other = rw other_front_none refl;
}

-- a turn sets the bytes of four places of each text
pub loop-turn-preserved : goal.loop-turn-preserved
unfolding shown_front other_front
loop-turn-preserved c =
    let so_far = c.loop-turn.invariant in
    let turn = c.loop-turn.turn in
    let n : ℕ = 4 * turn in
    let key = c.args.self.now in
    let bit = digest_bit c.args.digest.now in
    let next : n + 4 ≡ 4 * (turn + 1) = omega arith in
    let end : 128 * (turn + 1) ≡ 128 * turn + 128 = omega arith in
    let secrets = c.four_secrets.ensures bit c.four_digest_bits-bits.ensures in
    let others = c.opposite.ensures bit n c.four_digest_bits-bits.ensures in
    let hashes = c.four_hashes.ensures (λ (place : ℕ). not (bit place)) others in
    record {
      shown_size = omega (arith, so_far.shown_size);
      other_size = omega (arith, so_far.other_size);
      shown = ap (λ (k : ℕ). take k c.put_four.new.text) end ∙ c.put_four.ensures _ n secrets so_far.shown
          ∙ ap (shown_front key c.args.digest.now) next;
      other = ap (λ (k : ℕ). take k c.put_four-in-loop-turn.new.text) end ∙ c.put_four-in-loop-turn.ensures _ n hashes so_far.other
          ∙ ap (other_front key c.args.digest.now) next;
    }

-- after all places each text is whole
pub returns-clause-shown : goal.returns-clause-shown
returns-clause-shown c =
    let all : 4 * c.loop-turn.turn ≡ PLACES = omega arith in
    let text : List ℕ = c.loop-turn.shown in
    let whole : text ≡ take (128 * c.loop-turn.turn) text = sym (take_all _ text (omega (arith, c.loop-turn.invariant.shown_size))) in
    rw (shown_front_all, ← all) (whole ∙ c.loop-turn.invariant.shown)

pub returns-clause-other : goal.returns-clause-other
returns-clause-other c =
    let all : 4 * c.loop-turn.turn ≡ PLACES = omega arith in
    let text : List ℕ = c.loop-turn.other in
    let whole : text ≡ take (128 * c.loop-turn.turn) text = sym (take_all _ text (omega (arith, c.loop-turn.invariant.other_size))) in
    rw (other_front_all, ← all) (whole ∙ c.loop-turn.invariant.other)
