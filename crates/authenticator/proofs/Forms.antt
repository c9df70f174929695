-- The two forms of a roster's text: what they say of members, and that members are a roster exactly where the
-- text that lists them passes.
-- Serves: ListedRoster, Roster::read, Roster::write by add_members, rosters_without_gaps.
use Rattle.std.proofs.Common.{◌≡◌, ◌==◌, ◌≤◌, ◌<◌, ◌^◌, ℕ, Bool, true, false, List, [], ◌∷◌, ◌++◌, length}
use Rattle.std.proofs.Common.{map, Result, Ok, Err, refl, sym, ap, ap₂, subst, ◌∙◌, arith, append_assoc}
use Rattle.std.proofs.Common.{zero, suc, cond, ltb, ltb-false}
use Rattle.std.specs.Prelude.{IsTrue, ◌&&◌, ◌||◌, not, nat_lt}
use Rattle.std.specs.List.{AllByRecursion, flat_map, list_any}
use Rattle.std.proofs.lemmas.Bool.{and_parts, and_from, le-leb, ne_eqb, true≢false}
use Rattle.std.proofs.lemmas.List.{length-map}
use Rattle.xdr.specs.declared.fault.XdrFault.TheVariants.{TooLong}
use Rattle.xdr.specs.Item.{Item, Value, Fits, array, repeated, number_spelling, spelling}
use Rattle.xdr.specs.Reading.{Read, ◌>>=◌, number_at, items_at, read_at}
use Rattle.xdr.proofs.Front.{bind_ok, guard_ok, ok_is}
use Rattle.xdr.specs.Writing.{Adds}
use Rattle.authenticator.specs.declared.member.LogVersion.{LogVersion}
use Rattle.authenticator.specs.declared.member.LogVersion.TheVariants.{One, Two}
use Rattle.authenticator.specs.declared.member.Member.{Member}
use Rattle.authenticator.specs.declared.roster.TheConstants.{MAX_MEMBERS, SECOND_FORM}
use Rattle.authenticator.specs.Roster.{IsRoster, ListedParts, has_gaps, is_log, is_roster_value, listed_value}
use Rattle.authenticator.specs.Roster.{log_number, member_item, member_value, member_values, members_item}
use Rattle.authenticator.specs.Roster.{members_pass, members_value, rises_above, roster_item, roster_value}
use Rattle.authenticator.specs.Roster.{some_gaps, versioned_item, versioned_value}
use Rattle.authenticator.proofs.Members.{texts, members_text}

-- ---- versions

-- the word of version 2 is the one that allows gaps
log_gaps : (v : LogVersion) → (log_number v == 2) ≡ has_gaps v
log_gaps One = refl
log_gaps Two = refl

log_fits : (v : LogVersion) → (log_number v < 2 ^ 32) × IsTrue (is_log (log_number v))
log_fits One = (omega arith, refl)
log_fits Two = (omega arith, refl)

-- ---- the second form

versioned_rise : (low : ℕ) (ms : List Member)
    → rises_above low (map (λ v. v.0) (map versioned_value ms)) ≡ rises_above low (member_values ms)
versioned_rise low [] = refl
versioned_rise low (m ∷ ms) = ap (λ b. nat_lt low m.node && b) (versioned_rise m.node ms)

versioned_gaps : (ms : List Member) → list_any (λ v. v.1 == 2) (map versioned_value ms) ≡ some_gaps ms
versioned_gaps [] = refl
versioned_gaps (m ∷ ms) = ap₂ (λ a b. a || b) (log_gaps m.log_version) (versioned_gaps ms)

versioned_fit : (ms : List Member) → AllByRecursion (Fits member_item) (member_values ms)
    → AllByRecursion (Fits versioned_item) (map versioned_value ms)
versioned_fit [] fit = tt
versioned_fit (m ∷ ms) fit = ((fit.0, log_fits m.log_version), versioned_fit ms fit.1)

of_versioned_fit : (ms : List Member) → AllByRecursion (Fits versioned_item) (map versioned_value ms)
    → AllByRecursion (Fits member_item) (member_values ms)
of_versioned_fit [] fit = tt
of_versioned_fit (m ∷ ms) fit = (fit.0.0, of_versioned_fit ms fit.1)

-- ---- the first form

-- so few members are counted by no word of the second form
pub no_second : (n : ℕ) → n ≤ MAX_MEMBERS → (n == SECOND_FORM) ≡ false
no_second n few = ne_eqb n SECOND_FORM (λ e. omega (arith, e, few))

item_first : (c : Bool) (n : ℕ) → c ≡ false → members_item c n ≡ repeated n member_item
item_first true n e = absurd cc
item_first false n e = refl

-- so of few members their number stands first, and then each of them
pub first_item : (n : ℕ) → n ≤ MAX_MEMBERS → members_item (n == SECOND_FORM) n ≡ repeated n member_item
first_item n few = item_first (n == SECOND_FORM) n (no_second n few)

first_fits : (c : Bool) (n : ℕ) (ms : List Member) → c ≡ false → length ms ≡ n
    → AllByRecursion (Fits member_item) (member_values ms)
    → Fits (members_item c n) (members_value c n ms)
first_fits true n ms e count fit = absurd cc
first_fits false n ms e count fit = (length-map ms member_value ∙ count, fit)

of_first_fits : (c : Bool) (n : ℕ) (ms : List Member) → c ≡ false
    → Fits (members_item c n) (members_value c n ms) → AllByRecursion (Fits member_item) (member_values ms)
of_first_fits true n ms e fit = absurd cc
of_first_fits false n ms e fit = fit.1

first_passes : (c : Bool) (n : ℕ) (ms : List Member) → c ≡ false
    → members_pass c n (members_value c n ms) ≡ rises_above 0 (member_values ms)
first_passes true n ms e = absurd cc
first_passes false n ms e = refl

first_spelling : (c : Bool) (n : ℕ) (ms : List Member) → c ≡ false
    → spelling (members_item c n) (members_value c n ms) ≡ texts ms
first_spelling true n ms e = absurd cc
first_spelling false n ms e = sym (members_text ms)

first_read : (c : Bool) (n : ℕ) (ms : List Member) (bytes rest : List ℕ) → c ≡ false
    → read_at (repeated n member_item) bytes ≡ Ok (member_values ms, rest)
    → read_at (members_item c n) bytes ≡ Ok (members_value c n ms, rest)
first_read true n ms bytes rest e h = absurd cc
first_read false n ms bytes rest e h = h

-- ---- both

and_true : (b : Bool) → (b && true) ≡ b
and_true true = refl
and_true false = refl

-- what a text says passes exactly where the numbers rise and, in the second form, some log is of version 2
pub passes : (second : Bool) (ms : List Member) → length ms ≤ MAX_MEMBERS
    → (rises_above 0 (member_values ms) && (not second || some_gaps ms))
    ≡ is_roster_value (listed_value (record { second = second; members = ms }))
passes true ms few =
    sym (ap₂ (λ a b. a && b) (versioned_rise 0 ms) (versioned_gaps ms))
passes false ms few =
    and_true (rises_above 0 (member_values ms))
    ∙ sym (first_passes (length ms == SECOND_FORM) (length ms) ms (no_second (length ms) few))

-- a text in the second form that lists no log of version 2 is none
pub no_gaps_no_text : (second : Bool) (ms : List Member) → length ms ≤ MAX_MEMBERS → second ≡ true
    → some_gaps ms ≡ false → ¬ IsTrue (is_roster_value (listed_value (record { second = second; members = ms })))
no_gaps_no_text second ms few form none h =
    let both = and_parts (rises_above 0 (member_values ms)) (not second || some_gaps ms) (passes second ms few ∙ h) in
    let no : (not second || some_gaps ms) ≡ false = rw (form, none) refl in
    absurd (true≢false (sym both.1 ∙ no))

-- members that are few are listed in either form
pub listed_fits : (second : Bool) (ms : List Member) → Fits (array MAX_MEMBERS member_item) (member_values ms)
    → Fits roster_item (listed_value (record { second = second; members = ms }))
listed_fits true ms fit =
    let count = length-map ms versioned_value in
    let same = length-map ms member_value in (
      omega arith,
      refl,
      (omega (arith, count, same, fit.0), omega (arith, count, same, fit.1), versioned_fit ms fit.2),
    )
listed_fits false ms fit =
    let same = length-map ms member_value in
    let few : length ms ≤ MAX_MEMBERS = omega (arith, same, fit.1) in (
      omega (arith, few),
      rw (le-leb (length ms) MAX_MEMBERS few) refl,
      first_fits (length ms == SECOND_FORM) (length ms) ms (no_second (length ms) few) refl fit.2,
    )

of_listed_fits : (second : Bool) (ms : List Member) → length ms ≤ MAX_MEMBERS
    → Fits roster_item (listed_value (record { second = second; members = ms }))
    → Fits (array MAX_MEMBERS member_item) (member_values ms)
of_listed_fits true ms few fit =
    let same = length-map ms member_value in
    (omega (arith, same, few), omega (arith, same, few), of_versioned_fit ms fit.2.2)
of_listed_fits false ms few fit =
    let same = length-map ms member_value in (
      omega (arith, same, few),
      omega (arith, same, few),
      of_first_fits (length ms == SECOND_FORM) (length ms) ms (no_second (length ms) few) fit.2,
    )

-- members that a text lists are a roster
pub listed_roster : (second : Bool) (ms : List Member) → length ms ≤ MAX_MEMBERS
    → Fits roster_item (listed_value (record { second = second; members = ms }))
    → IsTrue (is_roster_value (listed_value (record { second = second; members = ms }))) → IsRoster ms
listed_roster second ms few fit h = (
  of_listed_fits second ms few fit,
  (and_parts (rises_above 0 (member_values ms)) (not second || some_gaps ms) (passes second ms few ∙ h)).0,
)

-- a roster has a text
pub roster_passes : (ms : List Member) → IsRoster ms → IsTrue (is_roster_value (roster_value ms))
roster_passes ms roster =
    let same = length-map ms member_value in
    sym (passes (some_gaps ms) ms (omega (arith, same, roster.0.1)))
    ∙ and_from (rises_above 0 (member_values ms)) (not (some_gaps ms) || some_gaps ms) roster.1
    (either (some_gaps ms))
  where
    either : (b : Bool) → (not b || b) ≡ true
    either true = refl
    either false = refl

-- ---- what is read

-- as many items as were counted
items_count : {A : Type 0} (read : List ℕ → Read A) (n : ℕ) (bytes : List ℕ) (x : List A × List ℕ)
    → items_at read n bytes ≡ Ok x → length x.0 ≡ n
unfolding items_at
items_count read zero bytes x e = ap (λ (y : List _ × List ℕ). length y.0) (sym (ok_is ([], bytes) x e))
items_count {A} read (suc n) bytes x e =
    let a = bind_ok (read bytes)
    (λ first. items_at read n first.1 >>= λ others. Ok (first.0 ∷ others.0, others.1)) x e in
    let b = bind_ok (items_at read n a.0.1) (λ others. Ok (a.0.0 ∷ others.0, others.1)) x a.2 in
    ap (λ (y : List A × List ℕ). length y.0) (sym (ok_is (a.0.0 ∷ b.0.0, b.0.1) x b.2))
    ∙ ap suc (items_count read n a.0.1 b.0 b.1)

-- an array has no more items than it may
pub array_few : (a : Item) (max : ℕ) (bytes : List ℕ) (x : List (Value a) × List ℕ)
    → read_at (array max a) bytes ≡ Ok x → length x.0 ≤ max
array_few a max bytes x e =
    let p = bind_ok (number_at 4 bytes)
    (λ n. cond (ltb max n.0) (Err TooLong) (items_at (read_at a) n.0 n.1)) x e in
    let g = guard_ok (ltb max p.0.0) TooLong (items_at (read_at a) p.0.0 p.0.1) x p.2 in
    omega (arith, ltb-false max p.0.0 g.0, items_count (read_at a) p.0.0 p.0.1 x g.1)

-- one more member, whose log is of version 1
pub one_more : (ms : List Member) (m : Member) → some_gaps ms ≡ false → m.log_version ≡ One
    → some_gaps (ms ++ m ∷ []) ≡ false
one_more [] m none one = rw one refl
one_more (x ∷ ms) m none one = more (has_gaps x.log_version) (some_gaps ms) (some_gaps (ms ++ m ∷ [])) none
    (λ h. one_more ms m h one)
  where
    more : (a b c : Bool) → (a || b) ≡ false → (b ≡ false → c ≡ false) → (a || c) ≡ false
    more true b c h rest = absurd cc
    more false b c h rest = rest h

-- in the first form
pub first_is_read : (n : ℕ) (ms : List Member) (bytes rest : List ℕ) → n ≤ MAX_MEMBERS → length ms ≡ n
    → read_at (repeated n member_item) bytes ≡ Ok (member_values ms, rest)
    → read_at (members_item (n == SECOND_FORM) n) bytes
    ≡ Ok (members_value (n == SECOND_FORM) n ms, rest)
first_is_read n ms bytes rest few count h =
    first_read (n == SECOND_FORM) n ms bytes rest (no_second n few) h

-- ---- what is written

versioned_texts : List Member → List ℕ
versioned_texts ms = flat_map (λ m. spelling versioned_item (versioned_value m)) ms

versioned_text : (ms : List Member)
    → versioned_texts ms ≡ flat_map (spelling versioned_item) (map versioned_value ms)
unfolding versioned_texts
versioned_text [] = refl
versioned_text (m ∷ ms) = ap (λ x. spelling versioned_item (versioned_value m) ++ x) (versioned_text ms)

-- the text of a roster in the second form
second_spelling : (ms : List Member) → some_gaps ms ≡ true
    → spelling roster_item (roster_value ms)
    ≡ number_spelling 4 SECOND_FORM
    ++ (number_spelling 4 (length ms) ++ flat_map (λ m. spelling versioned_item (versioned_value m)) ms)
unfolding versioned_texts
second_spelling ms gaps =
    let count : length (map versioned_value ms) ≡ length ms = length-map ms versioned_value in
    rw (gaps, count, ← versioned_text ms) refl

-- the text of a roster in the first form
pub first_form_spelling : (ms : List Member) → length ms ≤ MAX_MEMBERS → some_gaps ms ≡ false
    → spelling roster_item (roster_value ms) ≡ number_spelling 4 (length ms) ++ texts ms
first_form_spelling ms few gaps =
    rw gaps
    (ap (λ x. number_spelling 4 (length ms) ++ x)
    (first_spelling (length ms == SECOND_FORM) (length ms) ms (no_second (length ms) few)))

-- so it is the text of the array of its members
pub without_gaps : (ms : List Member) → IsRoster ms → some_gaps ms ≡ false
    → spelling roster_item (roster_value ms) ≡ spelling (array MAX_MEMBERS member_item) (member_values ms)
without_gaps ms roster gaps =
    let count : length (member_values ms) ≡ length ms = length-map ms member_value in
    first_form_spelling ms (omega (arith, count, roster.0.1)) gaps ∙ rw (count, ← members_text ms) refl

-- a text that is added in two parts
two_parts : {E : Type 0} (front rest old first new : List ℕ) (r : Result (Unit {0}) E)
    → first ≡ old ++ front → Adds rest first r new → Adds (front ++ rest) old r new
two_parts front rest old first new (Ok x) e h =
    h ∙ ap (λ a. a ++ rest) e ∙ append_assoc old front rest
two_parts front rest old first new (Err x) e h =
    (front ++ h.0, h.1 ∙ ap (λ a. a ++ h.0) e ∙ append_assoc old front h.0)

-- what is written in the first form
pub adds_first : {E : Type 0} (ms : List Member) (old first new : List ℕ) (r : Result (Unit {0}) E)
    → length ms ≤ MAX_MEMBERS → some_gaps ms ≡ false → first ≡ old ++ number_spelling 4 (length ms)
    → Adds (texts ms) first r new → Adds (spelling roster_item (roster_value ms)) old r new
adds_first ms old first new r few gaps e h =
    subst (λ t. Adds t old r new) (sym (first_form_spelling ms few gaps))
    (two_parts (number_spelling 4 (length ms)) (texts ms) old first new r e h)

-- what is written in the second form
pub adds_second : {E : Type 0} (ms : List Member) (old word first new : List ℕ) (r : Result (Unit {0}) E)
    → some_gaps ms ≡ true → word ≡ old ++ number_spelling 4 SECOND_FORM
    → first ≡ word ++ number_spelling 4 (length ms)
    → Adds (flat_map (λ m. spelling versioned_item (versioned_value m)) ms) first r new
    → Adds (spelling roster_item (roster_value ms)) old r new
adds_second ms old word first new r gaps w e h =
    let texts = flat_map (λ m. spelling versioned_item (versioned_value m)) ms in
    subst (λ t. Adds t old r new) (sym (second_spelling ms gaps))
    (two_parts (number_spelling 4 SECOND_FORM) (number_spelling 4 (length ms) ++ texts) old word new r w
    (two_parts (number_spelling 4 (length ms)) texts word first new r e h))
