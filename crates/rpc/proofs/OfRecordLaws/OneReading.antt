-- Of some bytes one reading holds at most. Each reading is told by where the fragments that aren't the last
-- stop (`Stop`), and this is told by the bytes (`same_cut`).
-- Serves: one_reading.
use Rattle.std.proofs.Common.{◌≡◌, ℕ, ◌+◌, ◌<◌, ◌≤◌, ◌⊎◌, List, [], ◌∷◌, ◌++◌, arith, length, sym, ap, ◌∙◌}
use Rattle.std.proofs.Common.{refl, inl, inr, length-append, append_assoc, Bool, true, false}
use Rattle.std.specs.List.{concat}
use Rattle.std.proofs.lemmas.List.Concat.{flat_map-cons}
use Rattle.rpc.specs.Records.Record.{mark, fragment, fragments, AreWithin, IsRecord, IsUnfinished}
use Rattle.rpc.specs.Records.Record.{PassesLimit, Front, nothing, a_record, unfinished, too_long, BeginsWith}
use Rattle.rpc.proofs.OfRecords.Marks.{length-mark}
use Rattle.rpc.proofs.OfRecords.Marks.{one_mark}
use Rattle.rpc.proofs.OfRecordLaws.OneRecord.{one_split, one_fragment}
use Rattle.rpc.specs.declared.records.record.TheConstants.{MAX_RECORD, MAX_FRAGMENTS}

-- what a mark says: a limit is passed, the bytes end within the fragment, or the record is whole
data Kind : Type 0 where
  over : Kind
  cut : Kind
  whole : Kind

-- where the fragments that aren't the last end: at part of a mark, or at a mark
data Stop : Type 0 where
  short : Stop
  at_mark : Bool → ℕ → List ℕ → Kind → Stop

-- after count fragments of size bytes
abbrev IsKind : ℕ → ℕ → Bool → ℕ → List ℕ → Kind → Type 0
IsKind count size is_last len more over = (MAX_RECORD < size + len) ⊎ (MAX_FRAGMENTS ≤ count)
IsKind count size is_last len more cut =
    (size + len ≤ MAX_RECORD) × (count < MAX_FRAGMENTS) × (length more < len)
IsKind count size is_last len more whole =
    (size + len ≤ MAX_RECORD) × (count < MAX_FRAGMENTS) × (len ≤ length more) × (is_last ≡ true)

abbrev StopsAt : ℕ → ℕ → List ℕ → Stop → Type 0
StopsAt count size tail short = length tail < 4
StopsAt count size tail (at_mark is_last len more kind) =
    (tail ≡ mark is_last len ++ more) × (len < 2147483648) × IsKind count size is_last len more kind

-- a mark that passes a limit has no room
over_not : {A : Type 0} (count size len : ℕ) → (MAX_RECORD < size + len) ⊎ (MAX_FRAGMENTS ≤ count)
    → size + len ≤ MAX_RECORD → count < MAX_FRAGMENTS → A
over_not count size len (inl long) fits few = absurd (omega arith)
over_not count size len (inr many) fits few = absurd (omega arith)

-- what a mark says is told by the bytes
same_kind : (count size : ℕ) (b c : Bool) (m n : ℕ) (x y : List ℕ) (k l : Kind) → m ≡ n → x ≡ y
    → IsKind count size b m x k → IsKind count size c n y l → k ≡ l
same_kind count size b c m n x y over over e f p q = refl
same_kind count size b c m n x y over cut e f p q = over_not count size m p (omega (arith, q.0)) q.1
same_kind count size b c m n x y over whole e f p q = over_not count size m p (omega (arith, q.0)) q.1
same_kind count size b c m n x y cut over e f p q = over_not count size n q (omega (arith, p.0)) p.1
same_kind count size b c m n x y cut cut e f p q = refl
same_kind count size b c m n x y cut whole e f p q = absurd (omega (arith, p.2, q.2, ap length f))
same_kind count size b c m n x y whole over e f p q = over_not count size n q (omega (arith, p.0)) p.1
same_kind count size b c m n x y whole cut e f p q = absurd (omega (arith, p.2, q.2, ap length f))
same_kind count size b c m n x y whole whole e f p q = refl

-- fewer than four bytes don't begin with a mark
mark_is_long : (x : List ℕ) (b : Bool) (n : ℕ) (more : List ℕ) → x ≡ mark b n ++ more → length x < 4 → ⊥
mark_is_long x b n more e lt = omega (arith, ap length e, length-append (mark b n) more, length-mark b n)

-- what stops the fragments is told by the bytes after them
same_stop : (count size : ℕ) (x y : List ℕ) (s t : Stop) → x ≡ y → StopsAt count size x s
    → StopsAt count size y t → s ≡ t
same_stop count size x y short short e p q = refl
same_stop count size x y short (at_mark c n more l) e p q = absurd (mark_is_long x c n more (e ∙ q.0) p)
same_stop count size x y (at_mark b m more k) short e p q = absurd (mark_is_long y b m more (sym e ∙ p.0) q)
same_stop count size x y (at_mark b m u k) (at_mark c n v l) e p q =
    let one = one_mark b c m n u v p.1 q.1 (sym p.0 ∙ e ∙ q.0) in
    let kinds = same_kind count size b c m n u v k l one.1 one.2 p.2 q.2 in
    let same : b ≡ c = one.0 in
    let lens : m ≡ n = one.1 in
    let mores : u ≡ v = one.2 in
    cc

-- A stop isn't a fragment that goes on.
goes_on : (count size : ℕ) (x q z : List ℕ) (s : Stop) → count < MAX_FRAGMENTS → size + length q ≤ MAX_RECORD
    → StopsAt count size x s → x ≡ fragment false q ++ z → ⊥
goes_on count size x q z short few fits p e =
    mark_is_long x false (length q) (q ++ z) (e ∙ append_assoc (mark false (length q)) q z) p
goes_on count size x q z (at_mark b m more k) few fits p e =
    let one = one_mark b false m (length q) more (q ++ z) p.1 (omega arith)
    (sym p.0 ∙ e ∙ append_assoc (mark false (length q)) q z) in
    by_kind k one.0 one.1 one.2 p.2
  where
    by_kind : (k : Kind) → b ≡ false → m ≡ length q → more ≡ q ++ z → IsKind count size b m more k → ⊥
    by_kind over last len is h = over_not count size m h (omega arith) few
    by_kind cut last len is h = omega (arith, h.2, ap length is, length-append q z)
    by_kind whole last len is h = let never : true ≡ false = sym h.3 ∙ last in cc

-- the text of fragments, from the first on
front_of : (p : List ℕ) (ps : List (List ℕ)) (x : List ℕ)
    → fragments (p ∷ ps) ++ x ≡ fragment false p ++ (fragments ps ++ x)
front_of p ps x =
    ap (λ (t : List ℕ). t ++ x) (flat_map-cons (fragment false) p ps)
    ∙ append_assoc (fragment false p) (fragments ps) x

-- The fragments up to a stop are told by the bytes: ps and qs follow count fragments of size bytes.
same_cut : (count size i j k l : ℕ) (ps qs : List (List ℕ)) (x y : List ℕ) (s t : Stop)
    → i ≡ count + length ps → j ≡ size + length (concat ps) → k ≡ count + length qs
    → l ≡ size + length (concat qs)
    → i ≤ MAX_FRAGMENTS → j ≤ MAX_RECORD → k ≤ MAX_FRAGMENTS → l ≤ MAX_RECORD → StopsAt i j x s
    → StopsAt k l y t → fragments ps ++ x ≡ fragments qs ++ y → (ps ≡ qs) × (s ≡ t)
same_cut count size i j k l [] [] x y s t ei ej ek el fi fj fk fl p q e =
    let ik : i ≡ k = omega arith in
    let jl : j ≡ l = omega arith in
    (refl, same_stop k l x y s t e (rw (← ik, ← jl) p) q)
same_cut count size i j k l [] (h ∷ qs) x y s t ei ej ek el fi fj fk fl p q e =
    absurd (goes_on i j x h (fragments qs ++ y) s (omega arith) (omega (arith, length-append h (concat qs))) p
    (e ∙ front_of h qs y))
same_cut count size i j k l (h ∷ ps) [] x y s t ei ej ek el fi fj fk fl p q e =
    absurd (goes_on k l y h (fragments ps ++ x) t (omega arith) (omega (arith, length-append h (concat ps))) q
    (sym e ∙ front_of h ps x))
same_cut count size i j k l (h ∷ ps) (h' ∷ qs) x y s t ei ej ek el fi fj fk fl p q e =
    let a = length-append h (concat ps) in
    let b = length-append h' (concat qs) in
    let one = one_fragment false false h h' (fragments ps ++ x) (fragments qs ++ y) (omega arith)
    (omega arith) (sym (front_of h ps x) ∙ e ∙ front_of h' qs y) in
    let size' = ap length one.1 in
    let rest = same_cut (count + 1) (size + length h) i j k l ps qs x y s t (omega arith) (omega arith)
    (omega arith) (omega arith) fi fj fk fl p q one.2 in
    let head : h ≡ h' = one.1 in
    let tails : ps ≡ qs = rest.0 in
    let heads : h ∷ ps ≡ h' ∷ qs = cc in
    (heads, rest.1)

-- some fragments, and then a stop
record StopsBytes (bytes : List ℕ) (pieces : List (List ℕ)) (stop : Stop) : Type 0 where
  tail : List ℕ
  bytes_are : bytes ≡ fragments pieces ++ tail
  within : AreWithin pieces
  stops : StopsAt (length pieces) (length (concat pieces)) tail stop

-- the same with nothing before: the fragments and the stop are told by the bytes
same : (bytes : List ℕ) (ps qs : List (List ℕ)) (s t : Stop) → StopsBytes bytes ps s → StopsBytes bytes qs t
    → (ps ≡ qs) × (s ≡ t)
same bytes ps qs s t p q =
    same_cut 0 0 (length ps) (length (concat ps)) (length qs) (length (concat qs)) ps qs p.tail q.tail s t
    (omega arith) (omega arith) (omega arith) (omega arith)
    p.within.count_fits p.within.length_fits q.within.count_fits q.within.length_fits p.stops q.stops
    (sym p.bytes_are ∙ q.bytes_are)

-- which of the faults a stop is, or none
abbrev fault_of : Stop → ℕ
fault_of short = 0
fault_of (at_mark b len more cut) = 0
fault_of (at_mark b len more over) = 1
fault_of (at_mark b len more whole) = 2

-- a record stops at the mark of its last fragment
of_record : (bytes text r rest : List ℕ) (a : IsRecord text r) → bytes ≡ text ++ rest
    → StopsBytes bytes a.pieces (at_mark true (length a.last) (a.last ++ rest) whole)
of_record bytes text r rest a e = record {
  tail = fragment true a.last ++ rest;
  bytes_are = e ∙ ap (λ (t : List ℕ). t ++ rest) a.text_is
      ∙ append_assoc (fragments a.pieces) (fragment true a.last) rest;
  within = record {
    length_fits = omega (arith, a.fits.length_fits);
    count_fits =
        omega (arith, a.fits.count_fits);
  };
  stops = (
    append_assoc (mark true (length a.last)) a.last rest,
    omega (arith, a.fits.length_fits),
    (a.fits.length_fits, a.fits.count_fits, omega (arith, length-append a.last rest), refl),
  );
}

-- where a limit is passed, the fragments stop at the mark that passes it
of_too_long : (bytes : List ℕ) (a : PassesLimit bytes)
    → StopsBytes bytes a.pieces (at_mark a.is_last a.len a.more over)
of_too_long bytes a =
    record {
      tail = mark a.is_last a.len ++ a.more;
      bytes_are = a.bytes_are;
      within = a.within;
      stops =
          (refl, a.len_fits, a.passes);
    }

-- an unfinished record stops in a mark, or at one with too few bytes after it
of_unfinished : (bytes : List ℕ) (a : IsUnfinished bytes)
    → (s : Stop) × StopsBytes bytes a.pieces s × (fault_of s ≡ 0)
of_unfinished bytes a =
    elim a.tail_is [
      | inl part ↦
          (short, record { tail = a.tail; bytes_are = a.bytes_are; within = a.within; stops = part }, refl)
      | inr part ↦ (
        at_mark part.is_last part.len part.front cut,
        record {
          tail = a.tail;
          bytes_are = a.bytes_are;
          within = a.within;
          stops = (
            part.bytes_are,
            omega (arith, part.fits.length_fits),
            (part.fits.length_fits, part.fits.count_fits, part.is_short),
          );
        },
        refl,
      )
    ]

-- two faults of different kinds don't stand in the same bytes
kinds_differ : {A : Type 0} (bytes : List ℕ) (ps qs : List (List ℕ)) (s t : Stop) (m n : ℕ)
    → StopsBytes bytes ps s → StopsBytes bytes qs t → fault_of s ≡ m → fault_of t ≡ n → m < n ⊎ n < m → A
kinds_differ bytes ps qs s t m n p q e f (inl lt) = let both = same bytes ps qs s t p q in
    absurd (omega (arith, ap fault_of both.1))
kinds_differ bytes ps qs s t m n p q e f (inr lt) = let both = same bytes ps qs s t p q in
    absurd (omega (arith, ap fault_of both.1))

-- what the mark at a stop says
mark_of : Stop → ℕ × List ℕ
mark_of short = (0, [])
mark_of (at_mark b len more kind) = (len, more)

-- equal parts make equal records
same_parts : (t r x u s y : List ℕ) → t ≡ u → r ≡ s → x ≡ y → a_record t r x ≡ a_record u s y
same_parts t r x u s y texts records rests = cc

-- two records at the front are one
same_record : (bytes t r x u s y : List ℕ) → BeginsWith bytes (a_record t r x)
    → BeginsWith bytes (a_record u s y) → a_record t r x ≡ a_record u s y
unfolding mark_of
same_record bytes t r x u s y (a, e) (b, f) =
    let both =
    same bytes a.pieces b.pieces (at_mark true (length a.last) (a.last ++ x) whole)
    (at_mark true (length b.last) (b.last ++ y) whole) (of_record bytes t r x a e)
    (of_record bytes u s y b f) in
    let marks : (length a.last, a.last ++ x) ≡ (length b.last, b.last ++ y) = ap mark_of both.1 in
    let sizes : length a.last ≡ length b.last = ap (λ (m : ℕ × List ℕ). m.0) marks in
    let bodies : a.last ++ x ≡ b.last ++ y = ap (λ (m : ℕ × List ℕ). m.1) marks in
    let one = one_split a.last b.last x y sizes bodies in
    let texts : t ≡ u = a.text_is ∙ ap (λ (z : List (List ℕ)). fragments z ++ fragment true a.last) both.0
    ∙ ap (λ (z : List ℕ). fragments b.pieces ++ fragment true z) one.0 ∙ sym b.text_is in
    let records : r ≡ s = a.bytes_are ∙ ap (λ (z : List (List ℕ)). concat z ++ a.last) both.0
    ∙ ap (λ (z : List ℕ). concat b.pieces ++ z) one.0 ∙ sym b.bytes_are in
    same_parts t r x u s y texts records one.1

-- a record has bytes
record_is_some : (bytes t r x : List ℕ) → BeginsWith bytes (a_record t r x) → 0 < length bytes
record_is_some bytes t r x (a, e) = omega (
  arith,
  ap length e,
  length-append t x,
  ap length a.text_is,
  length-append (fragments a.pieces) (fragment true a.last),
  length-append (mark true (length a.last)) a.last,
  length-mark true (length a.last),
)

-- so has one that passes a limit
too_long_is_some : (bytes : List ℕ) (a : PassesLimit bytes) → 0 < length bytes
too_long_is_some bytes a =
    omega (
      arith,
      ap length a.bytes_are,
      length-append (fragments a.pieces) (mark a.is_last a.len ++ a.more),
      length-append (mark a.is_last a.len) a.more,
      length-mark a.is_last a.len,
    )

-- where there are bytes, they aren't none
not_none : {A : Type 0} (bytes : List ℕ) → bytes ≡ [] → 0 < length bytes → A
not_none bytes e some = absurd (omega (arith, ap length e))

-- the law
pub one_reading : (bytes : List ℕ) (a b : Front) → BeginsWith bytes a → BeginsWith bytes b → a ≡ b
one_reading bytes nothing nothing p q = refl
one_reading bytes nothing (a_record u s y) p q = not_none bytes p (record_is_some bytes u s y q)
one_reading bytes nothing unfinished p q = not_none bytes p q.some
one_reading bytes nothing too_long p q = not_none bytes p (too_long_is_some bytes q)
one_reading bytes (a_record t r x) nothing p q = not_none bytes q (record_is_some bytes t r x p)
one_reading bytes (a_record t r x) (a_record u s y) p q = same_record bytes t r x u s y p q
one_reading bytes (a_record t r x) unfinished p q = let b = of_unfinished bytes q in
    kinds_differ bytes _ _ _ _ 2 0 (of_record bytes t r x p.0 p.1) b.1 refl b.2 (inr (omega arith))
one_reading bytes (a_record t r x) too_long p q =
    kinds_differ bytes _ _ _ _ 2 1 (of_record bytes t r x p.0 p.1) (of_too_long bytes q) refl refl
    (inr (omega arith))
one_reading bytes unfinished nothing p q = not_none bytes q p.some
one_reading bytes unfinished (a_record u s y) p q = let a = of_unfinished bytes p in
    kinds_differ bytes _ _ _ _ 0 2 a.1 (of_record bytes u s y q.0 q.1) a.2 refl (inl (omega arith))
one_reading bytes unfinished unfinished p q = refl
one_reading bytes unfinished too_long p q = let a = of_unfinished bytes p in
    kinds_differ bytes _ _ _ _ 0 1 a.1 (of_too_long bytes q) a.2 refl (inl (omega arith))
one_reading bytes too_long nothing p q = not_none bytes q (too_long_is_some bytes p)
one_reading bytes too_long (a_record u s y) p q =
    kinds_differ bytes _ _ _ _ 1 2 (of_too_long bytes p) (of_record bytes u s y q.0 q.1) refl refl
    (inl (omega arith))
one_reading bytes too_long unfinished p q = let b = of_unfinished bytes q in
    kinds_differ bytes _ _ _ _ 1 0 (of_too_long bytes p) b.1 refl b.2 (inr (omega arith))
one_reading bytes too_long too_long p q = refl
