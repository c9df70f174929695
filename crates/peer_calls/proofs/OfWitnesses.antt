-- What is asked of a witness is read of its arguments, and of no others.
-- Serves: witness_requests_have_one_text.
use Rattle.std.proofs.Common.{◌≡◌, ℕ, List, Ok, refl, sym, subst}
use Rattle.xdr.specs.Item.{IsBytes, word}
use Rattle.peer_calls.specs.Arguments.{base_after_item, greeting_item}
use Rattle.peer_calls.specs.WitnessRequests.{IsWitnessAsk, WitnessAsk, Null, Greet, Deliver, Wanted, Told, Shown}
use Rattle.peer_calls.specs.WitnessRequests.{Base, Case}
use Rattle.peer_calls.specs.WitnessRequests.{witness_arguments, witness_ask_at, witness_procedure}
use Rattle.peer_calls.proofs.Read.{by_number, decoded, nothing_only, text_again, text_only}

-- it is read
pub read : (a : WitnessAsk) → IsWitnessAsk a → witness_ask_at (witness_procedure a) (witness_arguments a) ≡ Ok a
read Null fits = refl
read (Greet digest n) fits = rw (text_again greeting_item (digest, n) fits) refl
read (Deliver packet) fits = refl
read (Wanted n) fits = rw (text_again word n fits) refl
read (Told n) fits = rw (text_again word n fits) refl
read (Shown n) fits = rw (text_again word n fits) refl
read (Case n) fits = rw (text_again word n fits) refl
read (Base n after) fits = rw (text_again base_after_item (n, after) fits) refl

-- A procedure and its arguments are those of a request.
abbrev AreOf : ℕ → List ℕ → WitnessAsk → Type 0
AreOf procedure bytes a = (procedure ≡ witness_procedure a) × (bytes ≡ witness_arguments a) × IsWitnessAsk a

-- and of no others
pub only : (procedure : ℕ) (bytes : List ℕ) (a : WitnessAsk) → IsBytes bytes
    → witness_ask_at procedure bytes ≡ Ok a → AreOf procedure bytes a
only procedure bytes a bound e =
    by_number procedure 0 _ _ a
    (λ same e. let d = decoded _ _ a e in
    subst (AreOf procedure bytes) (sym d.2) (same, nothing_only bytes d.0 d.1, tt))
    (λ e. by_number procedure 1 _ _ a
    (λ same e. let d = decoded _ _ a e in let t = text_only greeting_item d.0 bytes bound d.1 in
    subst (AreOf procedure bytes) (sym d.2) (same, t.0, t.1))
    (λ e. by_number procedure 2 _ _ a
    (λ same e. let is : Deliver bytes ≡ a = cc in
    subst (AreOf procedure bytes) is (same, refl, tt))
    (λ e. by_number procedure 3 _ _ a
    (λ same e. let d = decoded _ _ a e in let t = text_only word d.0 bytes bound d.1 in
    subst (AreOf procedure bytes) (sym d.2) (same, t.0, t.1))
    (λ e. by_number procedure 4 _ _ a
    (λ same e. let d = decoded _ _ a e in let t = text_only word d.0 bytes bound d.1 in
    subst (AreOf procedure bytes) (sym d.2) (same, t.0, t.1))
    (λ e. by_number procedure 5 _ _ a
    (λ same e. let d = decoded _ _ a e in let t = text_only word d.0 bytes bound d.1 in
    subst (AreOf procedure bytes) (sym d.2) (same, t.0, t.1))
    (λ e. by_number procedure 6 _ _ a
    (λ same e. let d = decoded _ _ a e in let t = text_only word d.0 bytes bound d.1 in
    subst (AreOf procedure bytes) (sym d.2) (same, t.0, t.1))
    (λ e. by_number procedure 7 _ _ a
    (λ same e. let d = decoded _ _ a e in
    let t = text_only base_after_item d.0 bytes bound d.1 in
    subst (AreOf procedure bytes) (sym d.2) (same, t.0, t.1))
    (λ e. absurd cc) e) e) e) e) e) e) e) e
