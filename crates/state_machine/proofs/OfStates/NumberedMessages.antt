-- Messages with their numbers, by place.
-- Serves: rise and map_of of sends.
use Rattle.std.proofs.Common.{◌≡◌, ℕ, zero, suc, List, [], ◌∷◌, length, get_or, refl, ap, ◌∙◌}
use Rattle.std.specs.Map.{keys_of}
use Rattle.std.proofs.lemmas.List.{length-map}
use Rattle.state_spec.specs.State.{SentMessage}
use Rattle.state_machine.specs.declared.states.texts.NumberedSend.{NumberedSend}
use Rattle.state_machine.specs.States.Numbered.{numbered}

seq_is : (ms : List NumberedSend) (at : ℕ) (m : NumberedSend)
    → (get_or ms at m).seq ≡ get_or (keys_of (numbered ms)) at m.seq
seq_is [] at m = refl
seq_is (x ∷ ms) zero m = refl
seq_is (x ∷ ms) (suc at) m = seq_is ms at m

-- the number at a place
pub seq_at : (ms : List NumberedSend) (at : ℕ) (m : NumberedSend) → m ≡ get_or ms at m
    → m.seq ≡ get_or (keys_of (numbered ms)) at m.seq
seq_at ms at m e = ap (λ (x : NumberedSend). x.seq) e ∙ seq_is ms at m

both : NumberedSend → ℕ × SentMessage
both m = (m.seq, m.message)

entry_is : (ms : List NumberedSend) (at : ℕ) (m : NumberedSend)
    → both (get_or ms at m) ≡ get_or (numbered ms) at (both m)
unfolding both
entry_is [] at m = refl
entry_is (x ∷ ms) zero m = refl
entry_is (x ∷ ms) (suc at) m = entry_is ms at m

-- the message at a place, with its number
pub entry_at : (ms : List NumberedSend) (at : ℕ) (m : NumberedSend) → m ≡ get_or ms at m
    → ◌≡◌ {A = ℕ × SentMessage} (m.seq, m.message) (get_or (numbered ms) at (m.seq, m.message))
unfolding both
entry_at ms at m e = ap both e ∙ entry_is ms at m

-- there are as many messages with their numbers as messages
pub length-numbered : (ms : List NumberedSend) → length (numbered ms) ≡ length ms
length-numbered ms = length-map ms (λ (s : NumberedSend). (s.seq, s.message))

-- there are as many numbers as messages
pub length-numbers : (ms : List NumberedSend) → length (keys_of (numbered ms)) ≡ length ms
length-numbers ms = length-map (numbered ms) (λ (e : ℕ × SentMessage). e.0) ∙ length-numbered ms
