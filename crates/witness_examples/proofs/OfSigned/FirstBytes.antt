-- Texts whose digests' first bytes differ have no collision.
-- Serves: premises_of_answers_are_possible, premises_with_a_base_are_possible.
use Rattle.std.proofs.Common.{◌≡◌, inl, inr, ℕ, Bool, true, not, ◌==◌, ◌&&◌, List, [], ◌∷◌, map, sym, ap, ◌∙◌}
use Rattle.std.proofs.Common.{eq-eqb}
use Rattle.std.specs.Prelude.{slice_index}
use Rattle.std.proofs.lemmas.Bool.{true≢false, and_parts}
use Rattle.sha2.specs.Sha256.{sha256}
use Rattle.secure_log.specs.LogEntries.Chain.{IsAmong, NoCollision, chain_text}

-- a number is none of these
abbrev is_none : ℕ → List ℕ → Bool
is_none n [] = true
is_none n (m ∷ ms) = not (n == m) && is_none n ms

-- no two of these numbers are the same
abbrev pub all_differ : List ℕ → Bool
all_differ [] = true
all_differ (n ∷ ns) = is_none n ns && all_differ ns

-- the first byte of a text's digest
abbrev pub first_byte : List ℕ → ℕ
first_byte t = slice_index (sha256 t) 0

is_other : (n : ℕ) (ts : List (List ℕ)) (t : List ℕ) → is_none n (map first_byte ts) ≡ true → IsAmong t ts
    → n ≡ first_byte t → ⊥
is_other n [] t none i e = absurd i
is_other n (x ∷ ts) t none (inl a) e =
    let apart = and_parts (not (n == first_byte x)) (is_none n (map first_byte ts)) none in
    absurd (true≢false (sym apart.0 ∙ ap not (eq-eqb n (first_byte x) (e ∙ ap first_byte a))))
is_other n (x ∷ ts) t none (inr i) e =
    let apart = and_parts (not (n == first_byte x)) (is_none n (map first_byte ts)) none in
    is_other n ts t apart.1 i e

-- Where they all differ no two of the texts have one digest.
pub no_two : (ts : List (List ℕ)) → all_differ (map first_byte ts) ≡ true → NoCollision ts
no_two [] h s t i j e = absurd i
no_two (x ∷ ts) h s t (inl a) (inl b) e = a ∙ sym b
no_two (x ∷ ts) h s t (inl a) (inr j) e =
    let apart = and_parts (is_none (first_byte x) (map first_byte ts)) (all_differ (map first_byte ts)) h in
    absurd (is_other (first_byte x) ts t apart.0 j
    (ap first_byte (sym a) ∙ ap (λ d. slice_index d 0) e))
no_two (x ∷ ts) h s t (inr i) (inl b) e =
    let apart = and_parts (is_none (first_byte x) (map first_byte ts)) (all_differ (map first_byte ts)) h in
    absurd (is_other (first_byte x) ts s apart.0 i
    (ap first_byte (sym b) ∙ ap (λ d. slice_index d 0) (sym e)))
no_two (x ∷ ts) h s t (inr i) (inr j) e =
    let apart = and_parts (is_none (first_byte x) (map first_byte ts)) (all_differ (map first_byte ts)) h in
    no_two ts apart.1 s t i j e

-- the text of a link, from the hash before it, its number and kind and the digest of its content
abbrev pub link_text : List ℕ → ℕ → ℕ → List ℕ → List ℕ
link_text before number kind digest =
    chain_text before (record { skipped = 0; number = number; kind = kind; content = digest })
