-- What is asked of a node is read of its arguments, and of no others.
-- Serves: node_requests_have_one_text.
use Rattle.std.proofs.Common.{◌≡◌, ℕ, List, Ok, refl, sym, subst, arith}
use Rattle.xdr.specs.Item.{IsBytes, hyper, spelling}
use Rattle.authenticator.specs.Signed.{authenticator_item}
use Rattle.peer_calls.specs.Arguments.{base_after_item, greeting_item, numbers_item}
use Rattle.peer_calls.specs.NodeRequests.{IsNodeAsk, NodeAsk, Null, Greet, Deliver, Acknowledge, Signed, Segment}
use Rattle.peer_calls.specs.NodeRequests.{Base, Stands}
use Rattle.peer_calls.specs.NodeRequests.{node_arguments, node_ask_at, node_procedure}
use Rattle.peer_calls.proofs.Read.{by_number, decoded, nothing_only, packet_only, text_again, text_only, word_again}
use Rattle.peer_calls.proofs.Read.{word_only}

-- it is read
pub read : (a : NodeAsk) → IsNodeAsk a → node_ask_at (node_procedure a) (node_arguments a) ≡ Ok a
read Null fits = refl
read (Greet digest n) fits = rw (text_again greeting_item (digest, n) fits) refl
read (Deliver text) fits = rw (word_again 2 text (omega arith)) refl
read (Acknowledge text) fits = rw (word_again 4 text (omega arith)) refl
read (Signed after) fits = rw (text_again hyper after fits) refl
read (Segment first last) fits = rw (text_again numbers_item (first, last) fits) refl
read (Stands a) fits =
    rw (word_again 1 (spelling authenticator_item a) (omega arith)) (rw (text_again authenticator_item a fits) refl)
read (Base n after) fits = rw (text_again base_after_item (n, after) fits) refl

-- A procedure and its arguments are those of a request.
abbrev AreOf : ℕ → List ℕ → NodeAsk → Type 0
AreOf procedure bytes a = (procedure ≡ node_procedure a) × (bytes ≡ node_arguments a) × IsNodeAsk a

-- and of no others
pub only : (procedure : ℕ) (bytes : List ℕ) (a : NodeAsk) → IsBytes bytes → node_ask_at procedure bytes ≡ Ok a
    → AreOf procedure bytes a
only procedure bytes a bound e =
    by_number procedure 0 _ _ a
    (λ same e. let d = decoded _ _ a e in
    subst (AreOf procedure bytes) (sym d.2) (same, nothing_only bytes d.0 d.1, tt))
    (λ e. by_number procedure 1 _ _ a
    (λ same e. let d = decoded _ _ a e in let t = text_only greeting_item d.0 bytes bound d.1 in
    subst (AreOf procedure bytes) (sym d.2) (same, t.0, t.1))
    (λ e. by_number procedure 2 _ _ a
    (λ same e. let d = decoded _ _ a e in
    subst (AreOf procedure bytes) (sym d.2) (same, word_only 2 bytes d.0 bound d.1, tt))
    (λ e. by_number procedure 3 _ _ a
    (λ same e. let d = decoded _ _ a e in
    subst (AreOf procedure bytes) (sym d.2) (same, word_only 4 bytes d.0 bound d.1, tt))
    (λ e. by_number procedure 4 _ _ a
    (λ same e. let d = decoded _ _ a e in let t = text_only hyper d.0 bytes bound d.1 in
    subst (AreOf procedure bytes) (sym d.2) (same, t.0, t.1))
    (λ e. by_number procedure 5 _ _ a
    (λ same e. let d = decoded _ _ a e in
    let t = text_only numbers_item d.0 bytes bound d.1 in
    subst (AreOf procedure bytes) (sym d.2) (same, t.0, t.1))
    (λ e. by_number procedure 6 _ _ a
    (λ same e. let d = decoded _ _ a e in
    let t = packet_only 1 authenticator_item d.0 bytes bound d.1 in
    subst (AreOf procedure bytes) (sym d.2) (same, t.0, t.1))
    (λ e. by_number procedure 7 _ _ a
    (λ same e. let d = decoded _ _ a e in
    let t = text_only base_after_item d.0 bytes bound d.1 in
    subst (AreOf procedure bytes) (sym d.2) (same, t.0, t.1))
    (λ e. absurd cc) e) e) e) e) e) e) e) e
