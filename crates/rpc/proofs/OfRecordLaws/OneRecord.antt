-- A text is one record at most: the marks and the fragments of two readings agree from the front on.
-- Serves: one_list_of_records by way of OneList; one_reading, which compares fragments with what stops them.
use Rattle.std.proofs.Common.{◌≡◌, ℕ, ◌+◌, ◌<◌, List, [], ◌∷◌, ◌++◌, arith, length, take, drop, sym, ap, ◌∙◌}
use Rattle.std.proofs.Common.{refl, length-append, append_assoc, take_at, drop_at, Bool, true, false, cond}
use Rattle.std.specs.List.{concat, AllByRecursion}
use Rattle.std.proofs.lemmas.List.Concat.{flat_map-cons}
use Rattle.xdr.specs.Item.{word, number_spelling}
use Rattle.xdr.proofs.Exact.{one_meaning}
use Rattle.rpc.specs.Records.Record.{mark, fragment, fragments, IsRecord}
use Rattle.rpc.proofs.OfRecords.Marks.{one_mark}

-- equal texts cut after as many bytes have equal parts
pub one_split : (a b x y : List ℕ) → length a ≡ length b → a ++ x ≡ b ++ y → (a ≡ b) × (x ≡ y)
one_split a b x y size e = (
  sym (take_at a x (length b) size) ∙ ap (take (length b)) e ∙ take_at b y (length b) refl,
  sym (drop_at a x (length b) size) ∙ ap (drop (length b)) e ∙ drop_at b y (length b) refl,
)

-- a fragment at the front tells its bytes and what follows
pub one_fragment : (b c : Bool) (p q x y : List ℕ) → length p < 2147483648 → length q < 2147483648
    → fragment b p ++ x ≡ fragment c q ++ y → (b ≡ c) × (p ≡ q) × (x ≡ y)
one_fragment b c p q x y lt lt' e =
    let first = one_mark b c (length p) (length q) (p ++ x) (q ++ y) lt lt'
    (sym (append_assoc (mark b (length p)) p x) ∙ e ∙ append_assoc (mark c (length q)) q y) in
    let second = one_split p q x y first.1 first.2 in
    (first.0, second.0, second.1)

-- each fragment's length fits a mark
abbrev pub AreShort : List (List ℕ) → Type 0
AreShort pieces = AllByRecursion (λ p. length p < 2147483648) pieces

-- the text of a record, from its first fragment on
front_of : (p : List ℕ) (ps : List (List ℕ)) (l x : List ℕ)
    → (fragments (p ∷ ps) ++ fragment true l) ++ x
    ≡ fragment false p ++ ((fragments ps ++ fragment true l) ++ x)
front_of p ps l x =
    ap (λ (t : List ℕ). (t ++ fragment true l) ++ x) (flat_map-cons (fragment false) p ps)
    ∙ ap (λ (t : List ℕ). t ++ x) (append_assoc (fragment false p) (fragments ps) (fragment true l))
    ∙ append_assoc (fragment false p) (fragments ps ++ fragment true l) x

-- two cuts of one text are the same
pub one_cut : (ps qs : List (List ℕ)) (l m x y : List ℕ) → AreShort ps → AreShort qs → length l < 2147483648
    → length m < 2147483648
    → (fragments ps ++ fragment true l) ++ x ≡ (fragments qs ++ fragment true m) ++ y
    → (ps ≡ qs) × (l ≡ m) × (x ≡ y)
one_cut [] [] l m x y hp hq hl hm e = let one = one_fragment true true l m x y hl hm e in (refl, one.1, one.2)
one_cut [] (q ∷ qs) l m x y hp hq hl hm e =
    let one = one_fragment true false l q x ((fragments qs ++ fragment true m) ++ y) hl hq.0
    (e ∙ front_of q qs m y) in
    let never : true ≡ false = one.0 in absurd cc
one_cut (p ∷ ps) [] l m x y hp hq hl hm e =
    let one = one_fragment false true p m ((fragments ps ++ fragment true l) ++ x) y hp.0 hm
    (sym (front_of p ps l x) ∙ e) in
    let never : false ≡ true = one.0 in absurd cc
one_cut (p ∷ ps) (q ∷ qs) l m x y hp hq hl hm e =
    let one = one_fragment false false p q ((fragments ps ++ fragment true l) ++ x)
    ((fragments qs ++ fragment true m) ++ y) hp.0 hq.0
    (sym (front_of p ps l x) ∙ e ∙ front_of q qs m y) in
    let rest = one_cut ps qs l m x y hp.1 hq.1 hl hm one.2 in
    let heads : p ∷ ps ≡ q ∷ qs = let a = one.1 in let b = rest.0 in cc in
    (heads, rest.1, rest.2)

-- fragments of a record are short
short_pieces : (pieces : List (List ℕ)) → length (concat pieces) < 2147483648 → AreShort pieces
short_pieces [] lt = tt
short_pieces (p ∷ ps) lt =
    (omega (arith, length-append p (concat ps)), short_pieces ps (omega (arith, length-append p (concat ps))))

-- No text of a record begins another, and each is of one record.
pub one_record : (t u r s x y : List ℕ) → IsRecord t r → IsRecord u s → t ++ x ≡ u ++ y → (r ≡ s) × (x ≡ y)
one_record t u r s x y a b e =
    let size = ap length a.bytes_are ∙ length-append (concat a.pieces) a.last in
    let size' = ap length b.bytes_are ∙ length-append (concat b.pieces) b.last in
    let whole : (fragments a.pieces ++ fragment true a.last) ++ x
    ≡ (fragments b.pieces ++ fragment true b.last) ++ y =
    ap (λ (z : List ℕ). z ++ x) (sym a.text_is) ∙ e ∙ ap (λ (z : List ℕ). z ++ y) b.text_is in
    let one = one_cut a.pieces b.pieces a.last b.last x y
    (short_pieces a.pieces (omega (arith, a.fits.length_fits, size)))
    (short_pieces b.pieces (omega (arith, b.fits.length_fits, size')))
    (omega (arith, a.fits.length_fits, size)) (omega (arith, b.fits.length_fits, size')) whole in (
      a.bytes_are ∙ ap (λ (z : List (List ℕ)). concat z ++ a.last) one.0
          ∙ ap (λ (z : List ℕ). concat b.pieces ++ z) one.1 ∙ sym b.bytes_are,
      one.2,
    )
