-- What the first words of bytes tell of all bytes that begin so.
-- Serves: may_accuse, may_hold; judge_base by way of BaseFiles.
use Rattle.std.proofs.Common.{◌≡◌, ◌∙◌, ℕ, zero, suc, ◌+◌, ◌*◌, ◌<◌, ◌≤◌, Bool, true, false, cond}
use Rattle.std.proofs.Common.{ltb, List}
use Rattle.std.proofs.Common.{[], ◌∷◌, ◌++◌, ◌==◌, length, drop, Ok, Err, Some, None, refl, sym, ap, ap₂}
use Rattle.std.proofs.Common.{subst, arith}
use Rattle.std.specs.Prelude.{Option}
use Rattle.std.proofs.lemmas.Bool.{ltb-false, le-ltb}
use Rattle.std.proofs.lemmas.List.{length-append, length-drop, drop-drop, drop-append-le}
use Rattle.byteorder.specs.Endian.{big_number}
use Rattle.byteorder.specs.Numbers.{big_from-append}
use Rattle.xdr.specs.declared.fault.XdrFault.TheVariants.{Short, TooLong, BadEnum}
use Rattle.xdr.specs.Item.{Item, choice, pair, word_where, Value}
use Rattle.xdr.specs.Reading.{Read, ◌>>=◌, number_at, items_at, read_at}
use Rattle.xdr.specs.Texts.Text.{Text, text_at, whole}
use Rattle.xdr.proofs.Front.{bind_ok, guard_ok, guard_true, ok_is}
use Rattle.authenticator.specs.declared.roster.TheConstants.{SECOND_FORM}
use Rattle.authenticator.specs.Roster.{member_item, members_item, roster_item, roster_text, versioned_item}
use Rattle.authenticator.specs.Roster.{is_node, is_kind, is_height, is_log, is_roster_word}
use Rattle.challenge.specs.evidence_spec.Evidence.{is_charge, charge_item, evidence_item}
use Rattle.challenge.specs.Cases.{case_item, case_text}
use Rattle.console.specs.Checking.{HoldsNone}
use Rattle.console.specs.Contents.{longest_case, count_place, member_size, IsWordAt}
use Rattle.console.proofs.Lengths.{TakesJust, number_just, tested_just, fixed_just, few_members, roster_up}
use Rattle.console.proofs.Lengths.{case_up}

-- a number is the same with more bytes after it
pub number_more : (len : ℕ) (bytes more : List ℕ) (x : ℕ × List ℕ) → number_at len bytes ≡ Ok x
    → number_at len (bytes ++ more) ≡ Ok (x.0, x.1 ++ more)
unfolding number_at
number_more len bytes more x e =
    let g = guard_ok (ltb (length bytes) len) Short (Ok (big_number len bytes, drop len bytes)) x e in
    let long : len ≤ length bytes = ltb-false _ _ g.0 in
    let same = ok_is (big_number len bytes, drop len bytes) x g.1 in
    let number : big_number len bytes ≡ x.0 = ap (λ (p : ℕ × List ℕ). p.0) same in
    let left : drop len bytes ≡ x.1 = ap (λ (p : ℕ × List ℕ). p.1) same in
    rw (
      le-ltb (length (bytes ++ more)) len (omega (arith, long, length-append bytes more)),
      big_from-append len bytes more long,
      drop-append-le len bytes more long,
      number,
      left,
    ) refl

-- ---- items that take just so many bytes

pair_just : (a b : Item) (m n : ℕ) → TakesJust m (read_at a) → TakesJust n (read_at b)
    → TakesJust (m + n) (read_at (pair a b))
pair_just a b m n left right bytes x e =
    let p = bind_ok (read_at a bytes) (λ y. read_at b y.1 >>= λ z. Ok ((y.0, z.0), z.1)) x e in
    let q = bind_ok (read_at b p.0.1) (λ z. Ok ((p.0.0, z.0), z.1)) x p.2 in
    let same = ap (λ (r : (Value a × Value b) × List ℕ). r.1) (ok_is ((p.0.0, q.0.0), q.0.1) x q.2) in
    let first = left bytes p.0 p.1 in
    let second = right p.0.1 q.0 q.1 in (
      omega (arith, first.0, second.0, ap length first.1, length-drop m bytes),
      sym same ∙ second.1 ∙ ap (drop n) first.1 ∙ drop-drop n m bytes,
    )

items_just : {A : Type 0} (read : List ℕ → Read A) (n : ℕ) → TakesJust n read
    → (count : ℕ) → TakesJust (count * n) (items_at read count)
unfolding items_at
items_just {A} read n just zero bytes x e =
    let same = ap (λ (r : List A × List ℕ). r.1) (ok_is ([], bytes) x e) in
    let none : 0 ≡ 0 * n = omega arith in
    (omega arith, sym same ∙ ap (λ k. drop k bytes) none)
items_just {A} read n just (suc count) bytes x e =
    let p = bind_ok (read bytes)
    (λ first. items_at read count first.1 >>= λ others. Ok (first.0 ∷ others.0, others.1)) x e in
    let q = bind_ok (items_at read count p.0.1) (λ others. Ok (p.0.0 ∷ others.0, others.1)) x p.2 in
    let same = ap (λ (r : List A × List ℕ). r.1) (ok_is (p.0.0 ∷ q.0.0, q.0.1) x q.2) in
    let first = just bytes p.0 p.1 in
    let second = items_just read n just count p.0.1 q.0 q.1 in
    let sum : n + count * n ≡ suc count * n = omega arith in (
      omega (arith, first.0, second.0, ap length first.1, length-drop n bytes, sum),
      sym same ∙ second.1 ∙ ap (drop (count * n)) first.1 ∙ drop-drop (count * n) n bytes
          ∙ ap (λ k. drop k bytes) sum,
    )

-- an item takes just so many bytes
record IsJust (n : ℕ) (a : Item) : Type 0 where
  takes : TakesJust n (read_at a)

just_pair : {a b : Item} (m n : ℕ) → IsJust m a → IsJust n b → IsJust (m + n) (pair a b)
just_pair {a} {b} m n left right = record { takes = pair_just a b m n left.takes right.takes }

just_word : (test : ℕ → Bool) → IsJust 4 (word_where test)
just_word test = record { takes = tested_just 4 test }

member_just : IsJust 44 member_item
member_just =
    just_pair 4 40 (just_word is_node) (just_pair 4 36 (just_word is_kind)
    (just_pair 32 4 (record { takes = fixed_just 32 }) (just_word is_height)))

versioned_just : IsJust 48 versioned_item
versioned_just = just_pair 44 4 member_just (just_word is_log)

-- ---- what is left of a text is nothing

-- where a value was read as a whole, the reading left nothing
pub whole_read : {A : Type 0} (test : A → Bool) (read : Read A) (v : A) → whole test read ≡ Some v
    → (w : A) × (read ≡ Ok (w, []))
whole_read {A} test (Ok (w, [])) v e = (w, refl)
whole_read test (Ok (w, x ∷ xs)) v e = absurd cc
whole_read test (Err d) v e = absurd cc

-- where bytes are a text, reading its item leaves nothing
pub text_read : (t : Text) (bytes : List ℕ) (v : Value t.item) → text_at t bytes ≡ Some v
    → (w : Value t.item) × (read_at t.item bytes ≡ Ok (w, []))
unfolding text_at
text_read t bytes v e = whole_read t.test (read_at t.item bytes) v e

-- ---- rosters

-- So many members stand in front of bytes, 64 at most, which have so many bytes each. Their count stands at a
-- place just before them.
pub record Counted (bytes rest : List ℕ) (place size : ℕ) : Type 0 where
  -- the count of the members
  pub count : ℕ
  -- what stands after it
  pub after : List ℕ
  -- it is the word at its place
  pub counted : number_at 4 (drop place bytes) ≡ Ok (count, after)
  -- it is 64 at most
  pub few : count ≤ 64
  -- the bytes hold that word and all members
  pub long : place + 4 + count * size ≤ length bytes
  -- what stands after the members is left
  pub left : rest ≡ drop (place + 4 + count * size) bytes

-- A roster was read: its first word says in which form.
pub record OfRoster (bytes rest : List ℕ) : Type 0 where
  -- its first word
  pub first : ℕ
  -- what stands after it
  pub after : List ℕ
  -- it is the first word of the bytes
  pub begins : number_at 4 bytes ≡ Ok (first, after)
  -- the members of that form
  pub members : Counted bytes rest (count_place first) (member_size first)

-- members that stand from a place on
counted_members : {a : Item} (size : ℕ) → IsJust size a → (place count : ℕ) (bytes after : List ℕ)
    (x : List (Value a) × List ℕ) → count ≤ 64 → place + 4 ≤ length bytes → after ≡ drop (place + 4) bytes
    → number_at 4 (drop place bytes) ≡ Ok (count, after) → items_at (read_at a) count after ≡ Ok x
    → Counted bytes x.1 place size
counted_members {a} size just place count bytes after x few inside same counted e =
    let members = items_just (read_at a) size just.takes count after x e in
    record {
      count = count;
      after = after;
      counted = counted;
      few = few;
      long = omega (arith, inside, members.0, ap length same, length-drop (place + 4) bytes);
      left = members.1 ∙ ap (drop (count * size)) same ∙ drop-drop (count * size) (place + 4) bytes;
    }

-- so it is in each form
members_read : (second : Bool) (first : ℕ) (bytes after : List ℕ) (x : Value (members_item second first) × List ℕ)
    → is_roster_word first ≡ true → (first == SECOND_FORM) ≡ second → 4 ≤ length bytes → after ≡ drop 4 bytes
    → number_at 4 bytes ≡ Ok (first, after) → read_at (members_item second first) after ≡ Ok x
    → Counted bytes x.1 (cond second 4 0) (cond second 48 44)
members_read true first bytes after x known form inside same begins e =
    let p = bind_ok (number_at 4 after)
    (λ count. cond (ltb 64 count.0) (Err TooLong) (items_at (read_at versioned_item) count.0 count.1)) x e in
    let g = guard_ok (ltb 64 p.0.0) TooLong (items_at (read_at versioned_item) p.0.0 p.0.1) x p.2 in
    let second = number_just 4 after p.0 p.1 in
    counted_members 48 versioned_just 4 p.0.0 bytes p.0.1 x (ltb-false _ _ g.0)
    (omega (arith, inside, second.0, ap length same, length-drop 4 bytes))
    (second.1 ∙ ap (drop 4) same ∙ drop-drop 4 4 bytes)
    (ap (number_at 4) (sym same) ∙ p.1) g.1
members_read false first bytes after x known form inside same begins e =
    counted_members 44 member_just 0 first bytes after x (few_members first known form) inside same begins e

-- so it is with each roster that is read from the front of bytes
pub roster_read : (bytes : List ℕ) (x : Value roster_item × List ℕ) → read_at roster_item bytes ≡ Ok x
    → OfRoster bytes x.1
roster_read bytes x e =
    let p = bind_ok (number_at 4 bytes)
    (λ k. cond (is_roster_word k.0)
    (read_at (members_item (k.0 == SECOND_FORM) k.0) k.1 >>= λ v. Ok ((k.0, v.0), v.1)) (Err BadEnum)) x e in
    let first : ℕ = p.0.0 in
    let g = guard_true (is_roster_word first) BadEnum
    (read_at (members_item (first == SECOND_FORM) first) p.0.1 >>= λ v. Ok ((first, v.0), v.1)) x p.2 in
    let q = bind_ok (read_at (members_item (first == SECOND_FORM) first) p.0.1) (λ v. Ok ((first, v.0), v.1)) x
    g.1 in
    let left : q.0.1 ≡ x.1 =
    ap (λ (r : Value roster_item × List ℕ). r.1) (ok_is ((first, q.0.0), q.0.1) x q.2) in
    let front = number_just 4 bytes p.0 p.1 in
    record {
      first = first;
      after = p.0.1;
      begins = p.1;
      members =
          subst (λ rest. Counted bytes rest (count_place first) (member_size first)) left
          (members_read (first == SECOND_FORM) first bytes p.0.1 q.0 g.0 refl front.0 front.1 p.1 q.1);
    }

-- ---- bytes that hold nothing

pub none_unless : {A : Type 0} (o : Option A) → ((v : A) → o ≡ Some v → ⊥) → o ≡ None
none_unless (Some v) never = absurd (never v refl)
none_unless None never = refl

-- a roster's text has no more bytes than its members
roster_of_text : (bytes : List ℕ) (v : Value roster_item) → text_at roster_text bytes ≡ Some v
    → (r : OfRoster bytes []) × (length bytes ≡ count_place r.first + 4 + r.members.count * member_size r.first)
roster_of_text bytes v e =
    let t = text_read roster_text bytes v e in
    let r = roster_read bytes (t.0, []) t.1 in
    let m = r.members in
    let end : ℕ = count_place r.first + 4 + m.count * member_size r.first in
    (r, omega (arith, m.long, ap length m.left, length-drop end bytes))

-- the words that a case's text has
record OfCase (bytes : List ℕ) : Type 0 where
  left : List ℕ
  roster : OfRoster bytes left
  charge : ℕ
  rest : List ℕ
  charged : number_at 4 (drop (count_place roster.first + roster.members.count * member_size roster.first + 8) bytes)
      ≡ Ok (charge, rest)
  known : is_charge charge ≡ true

case_of_text : (bytes : List ℕ) (v : Value case_item) → text_at case_text bytes ≡ Some v → OfCase bytes
case_of_text bytes v e =
    let t = text_read case_text bytes v e in
    let p = bind_ok (read_at roster_item bytes) (λ y. read_at evidence_item y.1 >>= λ z. Ok ((y.0, z.0), z.1))
    (t.0, []) t.1 in
    let q = bind_ok (read_at evidence_item p.0.1) (λ z. Ok ((p.0.0, z.0), z.1)) (t.0, []) p.2 in
    let r = roster_read bytes p.0 p.1 in
    let n = bind_ok (number_at 4 p.0.1)
    (λ y. read_at (choice is_charge charge_item) y.1 >>= λ z. Ok ((y.0, z.0), z.1)) q.0 q.1 in
    let c = bind_ok (read_at (choice is_charge charge_item) n.0.1) (λ z. Ok ((n.0.0, z.0), z.1)) q.0 n.2 in
    let k = bind_ok (number_at 4 n.0.1)
    (λ k. cond (is_charge k.0) (read_at (charge_item k.0) k.1 >>= λ w. Ok ((k.0, w.0), w.1)) (Err BadEnum))
    c.0 c.1 in
    let g = guard_true (is_charge k.0.0) BadEnum
    (read_at (charge_item k.0.0) k.0.1 >>= λ w. Ok ((k.0.0, w.0), w.1)) c.0 k.2 in
    let after = (number_just 4 p.0.1 n.0 n.1).1 in
    let place : ℕ = count_place r.first in
    let members : ℕ = r.members.count * member_size r.first in
    let at : drop 4 (drop (place + 4 + members) bytes) ≡ drop (place + members + 8) bytes =
    drop-drop 4 (place + 4 + members) bytes ∙ ap (λ i. drop i bytes) (omega arith) in
    record {
      left = p.0.1;
      roster = r;
      charge = k.0.0;
      rest = k.0.1;
      charged = ap (number_at 4) (sym (after ∙ ap (drop 4) r.members.left ∙ at)) ∙ k.1;
      known = g.0;
    }

-- a word of bytes is one of all that begin with them
word_more : (front more : List ℕ) (at n m : ℕ) (rest : List ℕ) → IsWordAt front at n
    → number_at 4 (drop at (front ++ more)) ≡ Ok (m, rest) → n ≡ m
word_more front more at n m rest is e =
    let whole : number_at 4 (drop at (front ++ more)) ≡ Ok (n, is.rest ++ more) =
    ap (number_at 4) (drop-append-le at front more is.inside)
    ∙ number_more 4 (drop at front) more (n, is.rest) is.word in
    ap (λ (p : ℕ × List ℕ). p.0) (ok_is (n, is.rest ++ more) (m, rest) (sym whole ∙ e))

-- Bytes begin with a word that says where the count of members stands, and have that count.
pub record BeginsWith (front : List ℕ) (first count : ℕ) : Type 0 where
  -- the first word
  pub begins : IsWordAt front 0 first
  -- the count
  pub counted : IsWordAt front (count_place first) count

-- a roster in front of all bytes that begin so has that first word
first_more : (front more rest : List ℕ) (first count : ℕ) → BeginsWith front first count
    → (r : OfRoster (front ++ more) rest) → first ≡ r.first
first_more front more rest first count b r = word_more front more 0 first r.first r.after b.begins r.begins

-- and so many members
count_more : (front more rest : List ℕ) (first count : ℕ) → BeginsWith front first count
    → (r : OfRoster (front ++ more) rest) → count ≡ r.members.count
count_more front more rest first count b r =
    let at : count_place first ≡ count_place r.first =
    ap count_place (first_more front more rest first count b r) in
    word_more front more (count_place first) count r.members.count r.members.after b.counted
    (ap (λ i. number_at 4 (drop i (front ++ more))) at ∙ r.members.counted)

-- so the members end at one place
end_more : (front more rest : List ℕ) (first count : ℕ) → BeginsWith front first count
    → (r : OfRoster (front ++ more) rest)
    → count_place first + count * member_size first
    ≡ count_place r.first + r.members.count * member_size r.first
end_more front more rest first count b r =
    ap₂ (λ i n. count_place i + n * member_size i) (first_more front more rest first count b r)
    (count_more front more rest first count b r)

-- a count of more than 64 members
pub too_many : (front more : List ℕ) (first count : ℕ) → BeginsWith front first count → 64 < count
    → HoldsNone (front ++ more)
too_many front more first count b many = (
  none_unless _ (λ v e. more_than_few (roster_of_text (front ++ more) v e).0),
  none_unless _ (λ v e. more_than_few (case_of_text (front ++ more) v e).roster),
)
  where
    more_than_few : {rest : List ℕ} → OfRoster (front ++ more) rest → ⊥
    more_than_few {rest} r =
        omega (arith, count_more front more rest first count b r, r.members.few, many)

-- a charge that is none, after the members and the node
pub no_charge : (front more : List ℕ) (first count charge : ℕ) → BeginsWith front first count
    → IsWordAt front (count_place first + count * member_size first + 8) charge
    → is_charge charge ≡ false → HoldsNone (front ++ more)
no_charge front more first count charge b there none = (
  none_unless _ (λ v e.
      let r = roster_of_text (front ++ more) v e in
      let same = end_more front more [] first count b r.0 in
      let there : count_place first + count * member_size first + 8 ≤ length front = there.inside in
      omega (arith, same, r.1, there, length-append front more)),
  none_unless _ (λ v e.
      let r = case_of_text (front ++ more) v e in
      let end : ℕ = count_place first + count * member_size first in
      let at = ap (λ i. i + 8) (end_more front more r.left first count b r.roster) in
      let charged = ap (λ i. number_at 4 (drop i (front ++ more))) at ∙ r.charged in
      let its = word_more front more (end + 8) charge r.charge r.rest there charged in
      let known : is_charge charge ≡ true = ap is_charge its ∙ r.known in
      absurd (true_is_not_false (sym known ∙ none))),
)
  where
    true_is_not_false : true ≡ false → ⊥
    true_is_not_false e = absurd cc

-- more bytes than evidence has
pub too_long : (front more : List ℕ) → longest_case < length front → HoldsNone (front ++ more)
too_long front more long = (
  none_unless _ (λ v e.
      let t = text_read roster_text (front ++ more) v e in
      let short = roster_up.takes (front ++ more) (t.0, []) t.1 in
      omega (arith, short, long, length-append front more)),
  none_unless _ (λ v e.
      let t = text_read case_text (front ++ more) v e in
      let short = case_up.takes (front ++ more) (t.0, []) t.1 in
      omega (arith, short, long, length-append front more)),
)
