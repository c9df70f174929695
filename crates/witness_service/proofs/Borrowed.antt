-- Keys whose text is borrowed: which are the same, and what is hashed of them.
-- Serves: KeyRef::eq, KeyRef::hash.
use Rattle.std.proofs.Common.{◌≡◌, ℕ, true, false, List, [], ◌∷◌, ◌++◌, length, take, drop, nat_eq}
use Rattle.std.proofs.Common.{refl, sym, ap, ◌∙◌, append-nil, append_assoc, eq-eqb, arith}
use Rattle.std.proofs.lemmas.List.{length-append}
use Rattle.std.proofs.Math.Seq.{take-append_seam, drop-append_seam}
use Rattle.std.specs.Cmp.Lexicographic.{pointwise}
use Rattle.xdr.specs.Item.{Fits, Item, Value, fixed, number_spelling, pair, spelling, word}
use Rattle.xdr.proofs.Front.{length-number_spelling}
use Rattle.authenticator.proofs.Signed.{is_false, list_same, same_list}
use Rattle.witness_service.specs.declared.key.KeyRef.{KeyRef}
use Rattle.witness_service.specs.declared.key.TheConstants.{LOOKED_UP}
use Rattle.witness_service.specs.Hashing.{looked_up, ref_bytes}

-- what stands before a key's text
abbrev pub start_item : Item
start_item = pair (fixed 32) word

-- what stands before this key's text
abbrev pub start : KeyRef → Value start_item
start key = (key.root, key.height)

-- ---- which are the same

-- the same front may be left out of a comparison
cancel_front : (front x y : List ℕ) → pointwise nat_eq (front ++ x) (front ++ y) ≡ pointwise nat_eq x y
cancel_front [] x y = refl
cancel_front (n ∷ front) x y = rw (eq-eqb n n refl) (cancel_front front x y)

-- under one root and height, keys are the same exactly where their texts are
pub same_by_text : (a b : KeyRef) → pointwise nat_eq a.root b.root ≡ true → a.height ≡ b.height
    → pointwise nat_eq a.text.now b.text.now ≡ pointwise nat_eq (ref_bytes a) (ref_bytes b)
same_by_text a b same_root same_height =
    rw (same_list a.root b.root same_root, same_height)
    (sym (cancel_front (b.root ++ number_spelling 4 b.height) a.text.now b.text.now))

-- under another root or height, no keys are the same
pub not_same : (a b : KeyRef)
    → ((v w : Value start_item) (x y : List ℕ) → Fits start_item v → Fits start_item w
    → spelling start_item v ++ x ≡ spelling start_item w ++ y → (v ≡ w) × (x ≡ y))
    → Fits start_item (start a) → Fits start_item (start b)
    → (pointwise nat_eq a.root b.root ≡ true → a.height ≡ b.height → ⊥)
    → false ≡ pointwise nat_eq (ref_bytes a) (ref_bytes b)
not_same a b one fits_a fits_b other = sym (is_false (pointwise nat_eq (ref_bytes a) (ref_bytes b)) (λ same.
    let bytes : ref_bytes a ≡ ref_bytes b = same_list (ref_bytes a) (ref_bytes b) same in
    let starts : start a ≡ start b =
    (one (start a) (start b) a.text.now b.text.now fits_a fits_b
    (rw (append-nil a.root, append-nil b.root) bytes)).0 in
    other (list_same a.root b.root (ap (λ (v : Value start_item). v.0) starts))
    (ap (λ (v : Value start_item). v.1) starts)))

-- ---- what is hashed

-- the front of a list whose length is known, and what follows it
front : (n : ℕ) (xs ys : List ℕ) → length xs ≡ n → take n (xs ++ ys) ≡ xs
front n xs ys long = rw (← long) (take-append_seam xs ys)

behind : (n : ℕ) (xs ys : List ℕ) → length xs ≡ n → drop n (xs ++ ys) ≡ ys
behind n xs ys long = rw (← long) (drop-append_seam xs ys)

-- what is hashed of a key are its root, its height and the front of its text
pub hashed : (key : KeyRef) → length key.root ≡ 32
    → looked_up (ref_bytes key) ≡ key.root ∷ number_spelling 4 key.height ∷ take LOOKED_UP key.text.now ∷ []
hashed key is_root =
    let height : List ℕ = number_spelling 4 key.height in
    let text : List ℕ = key.text.now in
    let four : length height ≡ 4 = length-number_spelling 4 key.height in
    let apart : ref_bytes key ≡ key.root ++ (height ++ text) = append_assoc key.root height text in
    let first : take 32 (ref_bytes key) ≡ key.root =
    ap (take 32) apart ∙ front 32 key.root (height ++ text) is_root in
    let second : take 4 (drop 32 (ref_bytes key)) ≡ height =
    ap (λ (bytes : List ℕ). take 4 (drop 32 bytes)) apart
    ∙ (ap (take 4) (behind 32 key.root (height ++ text) is_root) ∙ front 4 height text four) in
    let third : drop 36 (ref_bytes key) ≡ text =
    behind 36 (key.root ++ height) text (omega (arith, length-append key.root height)) in
    λ i. first i ∷ second i ∷ take LOOKED_UP (third i) ∷ []
