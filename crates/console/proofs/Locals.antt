-- What is read of a roster depends on its own bytes alone, whatever stands after them.
-- Serves: judge_base by way of BaseFiles.
use Rattle.std.proofs.Common.{◌≡◌, ◌∙◌, ℕ, zero, suc, ◌+◌, ◌-◌, ◌*◌, ◌%◌, ◌≤◌, Bool, true, false, cond, ltb, eqb}
use Rattle.std.proofs.Common.{List, [], ◌∷◌, ◌++◌, ◌==◌, length, take, drop, Ok, Err, refl, sym, ap, arith}
use Rattle.std.specs.List.{list_all}
use Rattle.std.proofs.lemmas.Bool.{ltb-false, le-ltb}
use Rattle.std.proofs.lemmas.List.{length-drop, take-append-le, drop-append-le}
use Rattle.std.proofs.lemmas.Nat.{mul-le}
use Rattle.byteorder.specs.Endian.{big_number}
use Rattle.byteorder.specs.Numbers.{big_from-append}
use Rattle.xdr.specs.declared.fault.XdrFault.TheVariants.{Short, Padding, TooLong, BadEnum}
use Rattle.xdr.specs.Item.{Item, fixed, pair, array, choice, word_where, Value}
use Rattle.xdr.specs.Reading.{Read, ◌>>=◌, number_at, fixed_at, items_at, tested_at, read_at}
use Rattle.xdr.proofs.Front.{bind_ok, guard_ok, guard_true, ok_is}
use Rattle.authenticator.specs.declared.roster.TheConstants.{SECOND_FORM}
use Rattle.authenticator.specs.Roster.{member_item, members_item, roster_item, versioned_item, is_node, is_kind}
use Rattle.authenticator.specs.Roster.{is_height, is_log, is_roster_word}
use Rattle.console.proofs.Lengths.{TakesUpTo, at_most, number_just, tested_just, fixed_just, pair_up}
use Rattle.console.proofs.Lengths.{few_members}

-- Where so many bytes are there, reading gives the same value with more bytes after them, and leaves those, too.
abbrev pub IsLocal : {A : Type 0} → ℕ → (List ℕ → Read A) → Type 0
IsLocal {A} n read =
    (bytes more : List ℕ) (x : A × List ℕ) → n ≤ length bytes → read (bytes ++ more) ≡ Ok x
    → (rest : List ℕ) × (read bytes ≡ Ok (x.0, rest)) × (x.1 ≡ rest ++ more)

-- a number
number_local : (len : ℕ) → IsLocal len (number_at len)
unfolding number_at
number_local len bytes more x long e =
    let g = guard_ok (ltb (length (bytes ++ more)) len) Short
    (Ok (big_number len (bytes ++ more), drop len (bytes ++ more))) x e in
    let same = ok_is (big_number len (bytes ++ more), drop len (bytes ++ more)) x g.1 in
    let number : big_number len bytes ≡ x.0 =
    sym (big_from-append len bytes more long) ∙ ap (λ (p : ℕ × List ℕ). p.0) same in (
      drop len bytes,
      rw (le-ltb (length bytes) len long, number) refl,
      sym (ap (λ (p : ℕ × List ℕ). p.1) same) ∙ drop-append-le len bytes more long,
    )

-- one that must pass a test
tested_local : (len : ℕ) (test : ℕ → Bool) → IsLocal len (tested_at len test)
unfolding tested_at
tested_local len test bytes more x long e =
    let a = bind_ok (number_at len (bytes ++ more)) (λ n. cond (test n.0) (Ok n) (Err BadEnum)) x e in
    let g = guard_true (test a.0.0) BadEnum (Ok a.0) x a.2 in
    let same = ok_is a.0 x g.1 in
    let number = number_local len bytes more a.0 long a.1 in
    let value : a.0.0 ≡ x.0 = ap (λ (p : ℕ × List ℕ). p.0) same in (
      number.0,
      rw (number.1, g.0) (ap (λ n. Ok (n, number.0)) value),
      sym (ap (λ (p : ℕ × List ℕ). p.1) same) ∙ number.2,
    )

-- opaque data of a fixed length
fixed_local : (len : ℕ) → IsLocal (len + (4 - len % 4) % 4) (fixed_at len)
unfolding fixed_at
fixed_local len bytes more x long e =
    let pad : ℕ = (4 - len % 4) % 4 in
    let whole : List ℕ = bytes ++ more in
    let after : List ℕ = drop len bytes in
    let inside : len ≤ length bytes = omega (arith, long) in
    let room : pad ≤ length after = omega (arith, long, length-drop len bytes) in
    let g = guard_ok (ltb (length whole) (len + pad)) Short
    (cond (list_all (λ b. eqb b 0) (take pad (drop len whole))) (Ok (take len whole, drop pad (drop len whole)))
    (Err Padding)) x e in
    let h = guard_true (list_all (λ b. eqb b 0) (take pad (drop len whole))) Padding
    (Ok (take len whole, drop pad (drop len whole))) x g.1 in
    let same = ok_is (take len whole, drop pad (drop len whole)) x h.1 in
    let left : drop len whole ≡ after ++ more = drop-append-le len bytes more inside in
    let zeros : list_all (λ b. eqb b 0) (take pad after) ≡ true =
    ap (λ t. list_all (λ b. eqb b 0) t)
    (sym (take-append-le pad after more room) ∙ ap (take pad) (sym left))
    ∙ h.0 in
    let value : take len bytes ≡ x.0 =
    sym (take-append-le len bytes more inside) ∙ ap (λ (p : List ℕ × List ℕ). p.0) same in (
      drop pad after,
      rw (le-ltb (length bytes) (len + pad) long, zeros, value) refl,
      sym (ap (λ (p : List ℕ × List ℕ). p.1) same) ∙ ap (drop pad) left
          ∙ drop-append-le pad after more room,
    )

-- where more bytes are there, too
local_of_more : {A : Type 0} (m n : ℕ) (read : List ℕ → Read A) → m ≤ n → IsLocal m read → IsLocal n read
local_of_more m n read le local bytes more x long e = local bytes more x (omega (arith, le, long)) e

pair_local : (a b : Item) (m n : ℕ) → TakesUpTo m (read_at a) → IsLocal m (read_at a) → IsLocal n (read_at b)
    → IsLocal (m + n) (read_at (pair a b))
pair_local a b m n up left right bytes more x long e =
    let p = bind_ok (read_at a (bytes ++ more)) (λ y. read_at b y.1 >>= λ z. Ok ((y.0, z.0), z.1)) x e in
    let q = bind_ok (read_at b p.0.1) (λ z. Ok ((p.0.0, z.0), z.1)) x p.2 in
    let same = ok_is ((p.0.0, q.0.0), q.0.1) x q.2 in
    let first = left bytes more p.0 (omega (arith, long)) p.1 in
    let room : n ≤ length first.0 = omega (arith, long, up bytes (p.0.0, first.0) first.1) in
    let second = right first.0 more q.0 room (ap (read_at b) (sym first.2) ∙ q.1) in (
      second.0,
      rw (first.1, second.1)
          (ap (λ (v : Value a × Value b). Ok (v, second.0)) (ap (λ (r : (Value a × Value b) × List ℕ). r.0) same)),
      sym (ap (λ (r : (Value a × Value b) × List ℕ). r.1) same) ∙ second.2,
    )

items_local : {A : Type 0} (read : List ℕ → Read A) (n : ℕ) → TakesUpTo n read → IsLocal n read
    → (count : ℕ) → IsLocal (count * n) (items_at read count)
unfolding items_at
items_local {A} read n up local zero bytes more x long e =
    let same = ok_is ([], bytes ++ more) x e in (
      bytes,
      ap (λ (vs : List A). Ok (vs, bytes)) (ap (λ (r : List A × List ℕ). r.0) same),
      sym (ap (λ (r : List A × List ℕ). r.1) same),
    )
items_local {A} read n up local (suc count) bytes more x long e =
    let p = bind_ok (read (bytes ++ more))
    (λ first. items_at read count first.1 >>= λ others. Ok (first.0 ∷ others.0, others.1)) x e in
    let q = bind_ok (items_at read count p.0.1) (λ others. Ok (p.0.0 ∷ others.0, others.1)) x p.2 in
    let same = ok_is (p.0.0 ∷ q.0.0, q.0.1) x q.2 in
    let sum : n + count * n ≡ suc count * n = omega arith in
    let first = local bytes more p.0 (omega (arith, long, sum)) p.1 in
    let room : count * n ≤ length first.0 = omega (arith, long, sum, up bytes (p.0.0, first.0) first.1) in
    let others = items_local read n up local count first.0 more q.0 room
    (ap (items_at read count) (sym first.2) ∙ q.1) in (
      others.0,
      rw (first.1, others.1)
          (ap (λ (vs : List A). Ok (vs, others.0)) (ap (λ (r : List A × List ℕ). r.0) same)),
      sym (ap (λ (r : List A × List ℕ). r.1) same) ∙ others.2,
    )

-- an array is read by its count and its items
array_is : (max : ℕ) (a : Item) (bytes after : List ℕ) (count : ℕ) (r : Read (List (Value a)))
    → number_at 4 bytes ≡ Ok (count, after) → ltb max count ≡ false → items_at (read_at a) count after ≡ r
    → read_at (array max a) bytes ≡ r
array_is max a bytes after count r number few items = rw (number, few) items

array_local : (max : ℕ) (a : Item) (n : ℕ) → TakesUpTo n (read_at a) → IsLocal n (read_at a)
    → IsLocal (4 + max * n) (read_at (array max a))
array_local max a n up local bytes more x long e =
    let p = bind_ok (number_at 4 (bytes ++ more))
    (λ count. cond (ltb max count.0) (Err TooLong) (items_at (read_at a) count.0 count.1)) x e in
    let g = guard_ok (ltb max p.0.0) TooLong (items_at (read_at a) p.0.0 p.0.1) x p.2 in
    let first = number_local 4 bytes more p.0 (omega (arith, long)) p.1 in
    let few = mul-le p.0.0 n max n (ltb-false _ _ g.0) (omega arith) in
    let front = at_most 4 (number_at 4) (number_just 4) bytes (p.0.0, first.0) first.1 in
    let room : p.0.0 * n ≤ length first.0 = omega (arith, long, few, front) in
    let items = items_local (read_at a) n up local p.0.0 first.0 more x room
    (ap (items_at (read_at a) p.0.0) (sym first.2) ∙ g.1) in
    (items.0, array_is max a bytes first.0 p.0.0 (Ok (x.0, items.0)) first.1 g.0 items.1, items.2)

-- a choice by its number and what stands after it
choice_is : (known : ℕ → Bool) (body : ℕ → Item) (bytes after rest : List ℕ) (k : ℕ) (v : Value (body k))
    → number_at 4 bytes ≡ Ok (k, after) → known k ≡ true → read_at (body k) after ≡ Ok (v, rest)
    → read_at (choice known body) bytes ≡ Ok ((k, v), rest)
choice_is known body bytes after rest k v number is_known read = rw (number, is_known, read) refl

choice_local : (known : ℕ → Bool) (body : ℕ → Item) (n : ℕ)
    → ((k : ℕ) → known k ≡ true → IsLocal n (read_at (body k)))
    → IsLocal (4 + n) (read_at (choice known body))
choice_local known body n local bytes more x long e =
    let p = bind_ok (number_at 4 (bytes ++ more))
    (λ k. cond (known k.0) (read_at (body k.0) k.1 >>= λ v. Ok ((k.0, v.0), v.1)) (Err BadEnum)) x e in
    let g = guard_true (known p.0.0) BadEnum (read_at (body p.0.0) p.0.1 >>= λ v. Ok ((p.0.0, v.0), v.1)) x
    p.2 in
    let q = bind_ok (read_at (body p.0.0) p.0.1) (λ v. Ok ((p.0.0, v.0), v.1)) x g.1 in
    let same = ok_is ((p.0.0, q.0.0), q.0.1) x q.2 in
    let first = number_local 4 bytes more p.0 (omega (arith, long)) p.1 in
    let front = at_most 4 (number_at 4) (number_just 4) bytes (p.0.0, first.0) first.1 in
    let room : n ≤ length first.0 = omega (arith, long, front) in
    let second = local p.0.0 g.0 first.0 more q.0 room (ap (read_at (body p.0.0)) (sym first.2) ∙ q.1) in (
      second.0,
      choice_is known body bytes first.0 second.0 p.0.0 q.0.0 first.1 g.0 second.1
          ∙ ap (λ (v : Value (choice known body)). Ok (v, second.0))
          (ap (λ (r : Value (choice known body) × List ℕ). r.0) same),
      sym (ap (λ (r : Value (choice known body) × List ℕ). r.1) same) ∙ second.2,
    )

-- ---- rosters

-- an item takes at most so many bytes, and depends on them alone
record IsNear (n : ℕ) (a : Item) : Type 0 where
  takes : TakesUpTo n (read_at a)
  local : IsLocal n (read_at a)

near_pair : {a b : Item} (m n : ℕ) → IsNear m a → IsNear n b → IsNear (m + n) (pair a b)
near_pair {a} {b} m n left right =
    record {
      takes = pair_up a b m n left.takes right.takes;
      local = pair_local a b m n left.takes left.local right.local;
    }

near_word : (test : ℕ → Bool) → IsNear 4 (word_where test)
near_word test = record { takes = at_most 4 (tested_at 4 test) (tested_just 4 test); local = tested_local 4 test }

near_hash : IsNear 32 (fixed 32)
near_hash = record { takes = at_most 32 (fixed_at 32) (fixed_just 32); local = fixed_local 32 }

near_member : IsNear 44 member_item
near_member =
    near_pair 4 40 (near_word is_node) (near_pair 4 36 (near_word is_kind)
    (near_pair 32 4 near_hash (near_word is_height)))

near_versioned : IsNear 48 versioned_item
near_versioned = near_pair 44 4 near_member (near_word is_log)

members_local : (second : Bool) (n : ℕ) → is_roster_word n ≡ true → (n == SECOND_FORM) ≡ second
    → IsLocal 3076 (read_at (members_item second n))
members_local true n known form = array_local 64 versioned_item 48 near_versioned.takes near_versioned.local
members_local false n known form =
    local_of_more (n * 44) 3076 (items_at (read_at member_item) n) (omega (arith, few_members n known form))
    (items_local (read_at member_item) 44 near_member.takes near_member.local n)

-- a roster is one by its first 3,080 bytes
pub roster_local : IsLocal 3080 (read_at roster_item)
roster_local =
    choice_local is_roster_word (λ n. members_item (n == SECOND_FORM) n) 3076
    (λ n known. members_local (n == SECOND_FORM) n known refl)
