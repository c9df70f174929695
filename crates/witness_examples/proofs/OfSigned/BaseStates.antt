-- The text of a client's state that knows no messages, and that it is what the base has.
-- Serves: bases.
use Rattle.std.proofs.Common.{◌≡◌, ℕ, List, [], ◌∷◌, length, map, sym, ap, subst, refl, ◌∙◌, arith, rules}
use Rattle.std.specs.FinMap as finite
use Rattle.std.specs.Ordering.{nat_cmp}
use Rattle.std.specs.declared.cmp.Ordering.{Ordering}
use Rattle.xdr.specs.Item.{Item, Value, Fits, number_spelling, spelling}
use Rattle.fs_spec.specs.Files.{File}
use Rattle.state_spec.specs.server_spec.FileItems.{file_item, file_value}
use Rattle.state_spec.specs.State.{ReceivedMessage, SentMessage, opening_client, received_cmp}
use Rattle.state_spec.specs.StateItems.{received_value, sent_value, state_item, state_value}
use Rattle.state_spec.specs.StateText.{IsStateText}
use Rattle.state_spec.specs.Steps.{having_read}
use Rattle.witness_examples.specs.Signed.Audited.{state_read}
use Rattle.witness_examples.specs.Signed.Based.{state_bytes}

-- a list without a length is empty
none : {A : Type 0} (xs : List A) → length xs ≡ 0 → xs ≡ []
none [] h = refl
none (x ∷ xs) h = absurd (omega arith)

nothing : {K X : Type 0} (R : K → K → Ordering) → finite.entries (finite.empty {X = X} {R = R}) ≡ []
nothing {K} {X} R =
    none (finite.entries (finite.empty {X = X} {R = R}))
    (sym (finite.len-entries (finite.empty {X = X} {R = R})) ∙ finite.len-empty R X)

-- what the text of this client's state says, of a time
abbrev pub parts : (file : Item) → List ReceivedMessage → List (ℕ × SentMessage) → (seconds : ℕ)
    → Value (state_item file)
parts file rs ss seconds =
    (1, (5, (2, ((seconds, 0), (map received_value rs, (map sent_value ss, 0))))))

-- It says no messages, whatever stands for files.
pub read_says : (file : Item) (value : ℕ × File → Value file) (seconds : ℕ)
    → state_value file value (having_read (opening_client 5) (record { seconds = seconds; microseconds = 0 }))
    ≡ parts file [] [] seconds
read_says file value seconds =
    λ i. parts file (map (λ e. e.0) (nothing {X = Unit {0}} received_cmp i))
    (nothing {X = SentMessage} nat_cmp i) seconds

parts_fit : Fits (state_item file_item) (parts file_item [] [] 1)
parts_fit = search rules

-- The bytes are the text of the state at the CHECK.
pub state_text : IsStateText state_read state_bytes
unfolding number_spelling
state_text = record {
  state = omega arith;
  fits = subst (Fits (state_item file_item)) (sym (read_says file_item file_value 1)) parts_fit;
  spelled = sym (ap (spelling (state_item file_item)) (read_says file_item file_value 1));
}
