-- How many bytes the parts of a file of evidence take at most.
-- Serves: may_accuse and may_hold by way of Fronts; judge_base by way of BaseFiles.
use Rattle.std.proofs.Common.{◌≡◌, ◌∙◌, ℕ, zero, suc, ◌+◌, ◌-◌, ◌*◌, ◌/◌, ◌%◌, ◌≤◌, Bool, true, false, cond}
use Rattle.std.proofs.Common.{ltb}
use Rattle.std.proofs.Common.{eqb, List, [], ◌∷◌, length, take, drop, Ok, Err, Some, None, sym, ap, arith}
use Rattle.std.proofs.Common.{lit≤, leb, leb-true, refl, ◌==◌}
use Rattle.std.specs.Prelude.{Option, ◌||◌}
use Rattle.std.specs.List.{list_all}
use Rattle.std.proofs.lemmas.Bool.{ltb-false}
use Rattle.std.proofs.lemmas.List.{length-drop, drop-drop}
use Rattle.std.proofs.lemmas.Nat.{mul-le}
use Rattle.byteorder.specs.Endian.{big_number}
use Rattle.xdr.specs.declared.fault.XdrFault.TheVariants.{Short, Padding, BadBool, TooLong, BadEnum}
use Rattle.xdr.specs.Item.{Item, word, hyper, opaque, fixed, pair, array, choice}
use Rattle.xdr.specs.Item.{word_where, Value}
use Rattle.xdr.specs.Reading.{Read, ◌>>=◌, number_at, flag_at, fixed_at, opaque_at, items_at, optional_at}
use Rattle.xdr.specs.Reading.{tested_at, read_at}
use Rattle.xdr.proofs.Front.{bind_ok, guard_ok, guard_true, ok_is}
use Rattle.authenticator.specs.merkle_keys.Signing.{signature_item}
use Rattle.authenticator.specs.Numbers.{number_item}
use Rattle.authenticator.specs.Signed.{authenticator_item}
use Rattle.secure_log.specs.LogEntries.Entry.{entry_item, is_kind, kind_item, send_item, recv_item, ack_item}
use Rattle.secure_log.specs.LogEntries.Entry.{clock_item, check_item}
use Rattle.secure_log.specs.Versioned.{logged_item}
use Rattle.secure_log.specs.Versioned as logs
use Rattle.authenticator.specs.Roster as rosters
use Rattle.authenticator.specs.Roster.{member_item, members_item, roster_item, versioned_item, is_node}
use Rattle.authenticator.specs.Roster.{is_height, is_log, is_roster_word}
use Rattle.authenticator.specs.declared.roster.TheConstants.{SECOND_FORM}
use Rattle.authenticator.specs.declared.member.LogVersion.TheVariants.{One, Two}
use Rattle.challenge.specs.evidence_spec.Base.{base_item, begun_item}
use Rattle.challenge.specs.evidence_spec.Showing.{link_item, showing_item}
use Rattle.challenge.specs.evidence_spec.Evidence.{based_item, begun_replay, fork_item, is_charge, charge_item}
use Rattle.challenge.specs.evidence_spec.Evidence.{evidence_item}
use Rattle.challenge.specs.Cases.{case_item}

-- reading takes at most so many bytes
abbrev pub TakesUpTo : {A : Type 0} → ℕ → (List ℕ → Read A) → Type 0
TakesUpTo {A} n read =
    (bytes : List ℕ) (x : A × List ℕ) → read bytes ≡ Ok x → length bytes ≤ n + length x.1

-- reading takes just so many bytes
abbrev pub TakesJust : {A : Type 0} → ℕ → (List ℕ → Read A) → Type 0
TakesJust {A} n read =
    (bytes : List ℕ) (x : A × List ℕ) → read bytes ≡ Ok x → (n ≤ length bytes) × (x.1 ≡ drop n bytes)

-- what takes just so many bytes takes at most so many
pub at_most : {A : Type 0} (n : ℕ) (read : List ℕ → Read A) → TakesJust n read → TakesUpTo n read
at_most n read just bytes x e =
    let t = just bytes x e in
    omega (arith, t.0, ap length t.1, length-drop n bytes)

-- ---- numbers

-- a number of `len` bytes takes just these
pub number_just : (len : ℕ) → TakesJust len (number_at len)
unfolding number_at
number_just len bytes x e =
    let g = guard_ok (ltb (length bytes) len) Short (Ok (big_number len bytes, drop len bytes)) x e in (
      ltb-false _ _ g.0,
      sym (ap (λ (p : ℕ × List ℕ). p.1) (ok_is (big_number len bytes, drop len bytes) x g.1)),
    )

-- so does one that must pass a test
pub tested_just : (len : ℕ) (test : ℕ → Bool) → TakesJust len (tested_at len test)
unfolding tested_at
tested_just len test bytes x e =
    let a = bind_ok (number_at len bytes) (λ n. cond (test n.0) (Ok n) (Err BadEnum)) x e in
    let g = guard_true (test a.0.0) BadEnum (Ok a.0) x a.2 in
    let t = number_just len bytes a.0 a.1 in
    (t.0, sym (ap (λ (p : ℕ × List ℕ). p.1) (ok_is a.0 x g.1)) ∙ t.1)

flag_rest : (z o : Bool) (after : List ℕ) (x : Bool × List ℕ)
    → cond {A = Read Bool} z (Ok (false, after))
    (cond {A = Read Bool} o (Ok (true, after)) (Err BadBool)) ≡ Ok x
    → x.1 ≡ after
flag_rest true o after x e = sym (ap (λ (p : Bool × List ℕ). p.1) (ok_is (false, after) x e))
flag_rest false true after x e = sym (ap (λ (p : Bool × List ℕ). p.1) (ok_is (true, after) x e))
flag_rest false false after x e = absurd cc

flag_just : TakesJust 4 flag_at
unfolding flag_at
flag_just bytes x e =
    let a = bind_ok (number_at 4 bytes)
    (λ n. cond {A = Read Bool} (eqb n.0 0) (Ok (false, n.1))
    (cond {A = Read Bool} (eqb n.0 1) (Ok (true, n.1)) (Err BadBool))) x e in
    let t = number_just 4 bytes a.0 a.1 in
    (t.0, flag_rest (eqb a.0.0 0) (eqb a.0.0 1) a.0.1 x a.2 ∙ t.1)

-- ---- opaque data

fixed_rest : (len : ℕ) (bytes : List ℕ) (x : List ℕ × List ℕ) → fixed_at len bytes ≡ Ok x
    → (len + (4 - len % 4) % 4 ≤ length bytes) × (x.1 ≡ drop ((4 - len % 4) % 4) (drop len bytes))
unfolding fixed_at
fixed_rest len bytes x e =
    let pad : ℕ = (4 - len % 4) % 4 in
    let after : List ℕ = drop len bytes in
    let g = guard_ok (ltb (length bytes) (len + pad)) Short
    (cond (list_all (λ b. eqb b 0) (take pad after)) (Ok (take len bytes, drop pad after)) (Err Padding))
    x e in
    let h = guard_true (list_all (λ b. eqb b 0) (take pad after)) Padding
    (Ok (take len bytes, drop pad after)) x g.1 in (
      ltb-false _ _ g.0,
      sym (ap (λ (p : List ℕ × List ℕ). p.1) (ok_is (take len bytes, drop pad after) x h.1)),
    )

-- `len` bytes of fixed opaque data take just these, and the padding to a multiple of four
pub fixed_just : (len : ℕ) → TakesJust (len + (4 - len % 4) % 4) (fixed_at len)
fixed_just len bytes x e =
    let t = fixed_rest len bytes x e in
    (t.0, t.1 ∙ drop-drop ((4 - len % 4) % 4) len bytes)

-- its length, and the bytes up to a multiple of four
opaque_up : (max : ℕ) → TakesUpTo (4 + 4 * ((max + 3) / 4)) (opaque_at max)
unfolding opaque_at
opaque_up max bytes x e =
    let a = bind_ok (number_at 4 bytes) (λ len. cond (ltb max len.0) (Err TooLong) (fixed_at len.0 len.1)) x
    e in
    let g = guard_ok (ltb max a.0.0) TooLong (fixed_at a.0.0 a.0.1) x a.2 in
    let first = at_most 4 (number_at 4) (number_just 4) bytes a.0 a.1 in
    let len : ℕ = a.0.0 in
    let second = at_most (len + (4 - len % 4) % 4) (fixed_at len) (fixed_just len) a.0.1 x g.1 in
    omega (arith, first, second, ltb-false _ _ g.0)

-- ---- items of others

-- a pair takes at most as many bytes as its two parts take at most
pub pair_up : (a b : Item) (m n : ℕ) → TakesUpTo m (read_at a) → TakesUpTo n (read_at b)
    → TakesUpTo (m + n) (read_at (pair a b))
pair_up a b m n left right bytes x e =
    let p = bind_ok (read_at a bytes) (λ y. read_at b y.1 >>= λ z. Ok ((y.0, z.0), z.1)) x e in
    let q = bind_ok (read_at b p.0.1) (λ z. Ok ((p.0.0, z.0), z.1)) x p.2 in
    let same = ap (λ (r : (Value a × Value b) × List ℕ). length r.1) (ok_is ((p.0.0, q.0.0), q.0.1) x q.2) in
    omega (arith, left bytes p.0 p.1, right p.0.1 q.0 q.1, same)

pub items_up : {A : Type 0} (read : List ℕ → Read A) (n : ℕ) → TakesUpTo n read
    → (count : ℕ) → TakesUpTo (count * n) (items_at read count)
unfolding items_at
items_up {A} read n up zero bytes x e =
    let same = ap (λ (r : List A × List ℕ). length r.1) (ok_is ([], bytes) x e) in
    omega (arith, same)
items_up {A} read n up (suc count) bytes x e =
    let p = bind_ok (read bytes)
    (λ first. items_at read count first.1 >>= λ others. Ok (first.0 ∷ others.0, others.1)) x e in
    let q = bind_ok (items_at read count p.0.1) (λ others. Ok (p.0.0 ∷ others.0, others.1)) x p.2 in
    let same = ap (λ (r : List A × List ℕ). length r.1) (ok_is (p.0.0 ∷ q.0.0, q.0.1) x q.2) in
    omega (arith, up bytes p.0 p.1, items_up read n up count p.0.1 q.0 q.1, same)

array_up : (max : ℕ) (a : Item) (n : ℕ) → TakesUpTo n (read_at a)
    → TakesUpTo (4 + max * n) (read_at (array max a))
array_up max a n up bytes x e =
    let p = bind_ok (number_at 4 bytes)
    (λ count. cond (ltb max count.0) (Err TooLong) (items_at (read_at a) count.0 count.1)) x e in
    let g = guard_ok (ltb max p.0.0) TooLong (items_at (read_at a) p.0.0 p.0.1) x p.2 in
    let first = at_most 4 (number_at 4) (number_just 4) bytes p.0 p.1 in
    let few = mul-le p.0.0 n max n (ltb-false _ _ g.0) (omega arith) in
    omega (arith, first, items_up (read_at a) n up p.0.0 p.0.1 x g.1, few)

choice_up : (known : ℕ → Bool) (body : ℕ → Item) (n : ℕ)
    → ((k : ℕ) → known k ≡ true → TakesUpTo n (read_at (body k)))
    → TakesUpTo (4 + n) (read_at (choice known body))
choice_up known body n up bytes x e =
    let p = bind_ok (number_at 4 bytes)
    (λ k. cond (known k.0) (read_at (body k.0) k.1 >>= λ v. Ok ((k.0, v.0), v.1)) (Err BadEnum)) x e in
    let g = guard_true (known p.0.0) BadEnum (read_at (body p.0.0) p.0.1 >>= λ v. Ok ((p.0.0, v.0), v.1)) x
    p.2 in
    let q = bind_ok (read_at (body p.0.0) p.0.1) (λ v. Ok ((p.0.0, v.0), v.1)) x g.1 in
    let same = ap (λ (r : Value (choice known body) × List ℕ). length r.1)
    (ok_is ((p.0.0, q.0.0), q.0.1) x q.2) in
    omega (arith, at_most 4 (number_at 4) (number_just 4) bytes p.0 p.1, up p.0.0 g.0 p.0.1 q.0 q.1, same)

wider : {A : Type 0} (m n : ℕ) (read : List ℕ → Read A) → m ≤ n → TakesUpTo m read → TakesUpTo n read
wider m n read le up bytes x e = omega (arith, le, up bytes x e)

-- ---- the parts of evidence

-- an item takes at most so many bytes
pub record IsWithin (n : ℕ) (a : Item) : Type 0 where
  -- reading the item takes at most so many
  pub takes : TakesUpTo n (read_at a)

within_pair : {a b : Item} (m n : ℕ) → IsWithin m a → IsWithin n b → IsWithin (m + n) (pair a b)
within_pair {a} {b} m n left right = record { takes = pair_up a b m n left.takes right.takes }

within_array : {a : Item} (max n : ℕ) → IsWithin n a → IsWithin (4 + max * n) (array max a)
within_array {a} max n item = record { takes = array_up max a n item.takes }

within : {a : Item} (m n : ℕ) → m ≤ n → IsWithin m a → IsWithin n a
within {a} m n le item = record { takes = wider m n (read_at a) le item.takes }

word_up : IsWithin 4 word
word_up = record { takes = at_most 4 (number_at 4) (number_just 4) }

number_up : IsWithin 8 number_item
number_up = record { takes = at_most 8 (read_at number_item) (tested_just 8 _) }

hash_up : IsWithin 32 (fixed 32)
hash_up = record { takes = at_most 32 (fixed_at 32) (fixed_just 32) }

half_up : IsWithin 8192 (fixed 8192)
half_up = record { takes = at_most 8192 (fixed_at 8192) (fixed_just 8192) }

signature_up : IsWithin 16904 signature_item
signature_up =
    within_pair 4 16900 word_up (within_pair 8192 8708 half_up
    (within_pair 8192 516 half_up (within_array 16 32 hash_up)))

authenticator_up : IsWithin 16948 authenticator_item
authenticator_up =
    within_pair 4 16944 word_up (within_pair 8 16936 number_up (within_pair 32 16904 hash_up signature_up))

body_up : IsWithin 12292 (opaque 12288)
body_up = record { takes = opaque_up 12288 }

recv_up : IsWithin 29240 recv_item
recv_up =
    within_pair 4 29236 word_up (within_pair 8 29228 number_up
    (within_pair 32 29196 hash_up (within_pair 12292 16904 body_up signature_up)))

ack_up : IsWithin 16988 ack_item
ack_up =
    within_pair 4 16984 word_up (within_pair 8 16976 number_up (within_pair 32 16944 hash_up
    (within_pair 8 16936 number_up (within_pair 32 16904 hash_up signature_up))))

kinds_up : (one two three four : Bool) → IsWithin 29240 (cond one send_item
    (cond two recv_item (cond three ack_item (cond four clock_item check_item))))
kinds_up true two three four = within 12296 29240 (lit≤ tt) (within_pair 4 12292 word_up body_up)
kinds_up false true three four = recv_up
kinds_up false false true four = within 16988 29240 (lit≤ tt) ack_up
kinds_up false false false true = within 8 29240 (lit≤ tt) (within_pair 4 4 word_up word_up)
kinds_up false false false false = within 32 29240 (lit≤ tt) hash_up

entry_up : IsWithin 29244 entry_item
entry_up =
    record {
      takes =
          choice_up is_kind kind_item 29240
          (λ k known. (kinds_up (eqb k 1) (eqb k 2) (eqb k 3) (eqb k 4)).takes);
    }

-- a log of version 1 of at most 65,536 entries takes 1,916,551,780 bytes at most
log_up : IsWithin 1916551780 (logs.versioned_item One 65536)
log_up =
    within_pair 4 1916551776 word_up (within_pair 8 1916551768 number_up (within_pair 32 1916551736 hash_up
    (within_pair 1916534788 16948 (within_array 65536 29244 entry_up) authenticator_up)))

worded_entry_up : IsWithin 29252 (logged_item Two)
worded_entry_up = within_pair 8 29244 number_up entry_up

-- one of version 2 takes 1,917,076,068 bytes at most
worded_log_up : IsWithin 1917076068 (logs.versioned_item Two 65536)
worded_log_up =
    within_pair 4 1917076064 word_up (within_pair 8 1917076056 number_up (within_pair 32 1917076024 hash_up
    (within_pair 1917059076 16948 (within_array 65536 29252 worded_entry_up) authenticator_up)))

-- ---- evidence

optional_up : {A : Type 0} (read : List ℕ → Read A) (n : ℕ) → TakesUpTo n read
    → TakesUpTo (4 + n) (optional_at read)
unfolding optional_at
optional_up {A} read n up bytes x e =
    let p = bind_ok (flag_at bytes)
    (λ more. cond {A = Read (Option A)} more.0 (read more.1 >>= λ v. Ok (Some v.0, v.1)) (Ok (None, more.1)))
    x e in
    let first = at_most 4 flag_at flag_just bytes p.0 p.1 in
    omega (arith, first, optional_rest read n up p.0.0 p.0.1 x p.2)
  where
    optional_rest : {A : Type 0} (read : List ℕ → Read A) (n : ℕ) → TakesUpTo n read
        → (more : Bool) (after : List ℕ) (x : Option A × List ℕ)
        → cond {A = Read (Option A)} more (read after >>= λ v. Ok (Some v.0, v.1)) (Ok (None, after)) ≡ Ok x
        → length after ≤ n + length x.1
    optional_rest {A} read n up true after x e =
        let q = bind_ok (read after) (λ v. Ok (Some v.0, v.1)) x e in
        let same = ap (λ (r : Option A × List ℕ). length r.1) (ok_is (Some q.0.0, q.0.1) x q.2) in
        omega (arith, up after q.0 q.1, same)
    optional_rest {A} read n up false after x e =
        let same = ap (λ (r : Option A × List ℕ). length r.1) (ok_is (None, after) x e) in
        omega (arith, same)

link_up : IsWithin 36 (link_item One)
link_up = within_pair 4 32 (record { takes = at_most 4 (tested_at 4 is_kind) (tested_just 4 is_kind) })
    hash_up

worded_link_up : IsWithin 44 (link_item Two)
worded_link_up = within_pair 8 36 number_up link_up

hyper_up : IsWithin 8 hyper
hyper_up = record { takes = at_most 8 (number_at 8) (number_just 8) }

showing_up : IsWithin 164452 (showing_item One)
showing_up =
    within_pair 4 164448 word_up (within_pair 8 164440 hyper_up (within_pair 32 164408 hash_up
    (within_pair 147460 16948 (within_array 4096 36 link_up) authenticator_up)))

worded_showing_up : IsWithin 197220 (showing_item Two)
worded_showing_up =
    within_pair 4 197216 word_up (within_pair 8 197208 number_up (within_pair 32 197176 hash_up
    (within_pair 180228 16948 (within_array 4096 44 worded_link_up) authenticator_up)))

fork_up : IsWithin 328916 (fork_item One)
fork_up =
    within_pair 8 328908 number_up
    (within_pair 164452 164456 showing_up
    (record { takes = optional_up (read_at (showing_item One)) 164452 showing_up.takes }))

worded_fork_up : IsWithin 394452 (fork_item Two)
worded_fork_up =
    within_pair 8 394444 number_up
    (within_pair 197220 197224 worded_showing_up
    (record { takes = optional_up (read_at (showing_item Two)) 197220 worded_showing_up.takes }))

-- what stands after a base's version
begun_up : IsWithin 67273328 (begun_item One)
begun_up =
    within_pair 164452 67108876 showing_up
    (within_pair 8 67108868 number_up (record { takes = opaque_up 67108864 }))

worded_begun_up : IsWithin 67306096 (begun_item Two)
worded_begun_up =
    within_pair 197220 67108876 worded_showing_up
    (within_pair 8 67108868 number_up (record { takes = opaque_up 67108864 }))

bases_up : (is_one : Bool) → IsWithin 67306096 (cond is_one (begun_item One) (begun_item Two))
bases_up true = within 67273328 67306096 (lit≤ tt) begun_up
bases_up false = worded_begun_up

-- a base takes 67,306,100 bytes at most
pub base_up : IsWithin 67306100 base_item
base_up =
    record {
      takes = choice_up is_log (λ n. cond (eqb n 1) (begun_item One) (begun_item Two)) 67306096
          (λ n known. (bases_up (eqb n 1)).takes);
    }

-- and the segment after it
begun_replay_up : IsWithin 1983825108 (begun_replay One)
begun_replay_up = within_pair 67273328 1916551780 begun_up log_up

worded_begun_replay_up : IsWithin 1984382164 (begun_replay Two)
worded_begun_replay_up = within_pair 67306096 1917076068 worded_begun_up worded_log_up

versions_up : (is_one : Bool) → IsWithin 1984382164 (cond is_one (begun_replay One) (begun_replay Two))
versions_up true = within 1983825108 1984382164 (lit≤ tt) begun_replay_up
versions_up false = worded_begun_replay_up

-- a base with a segment takes 1,984,382,168 bytes at most
based_up : IsWithin 1984382168 based_item
based_up =
    record {
      takes = choice_up is_log (λ n. cond (eqb n 1) (begun_replay One) (begun_replay Two)) 1984382164
          (λ n known. (versions_up (eqb n 1)).takes);
    }

charge_up : (is_fork is_replay is_worded_fork is_worded_replay : Bool)
    → IsWithin 1984382168
    (cond is_fork (fork_item One) (cond is_replay (logs.versioned_item One 65536)
    (cond is_worded_fork (fork_item Two) (cond is_worded_replay (logs.versioned_item Two 65536) based_item))))
charge_up true is_replay is_worded_fork is_worded_replay = within 328916 1984382168 (lit≤ tt) fork_up
charge_up false true is_worded_fork is_worded_replay = within 1916551780 1984382168 (lit≤ tt) log_up
charge_up false false true is_worded_replay = within 394452 1984382168 (lit≤ tt) worded_fork_up
charge_up false false false true = within 1917076068 1984382168 (lit≤ tt) worded_log_up
charge_up false false false false = based_up

evidence_up : IsWithin 1984382176 evidence_item
evidence_up =
    within_pair 4 1984382172 word_up
    (record {
      takes =
          choice_up is_charge charge_item 1984382168
          (λ n known. (charge_up (eqb n 1) (eqb n 2) (eqb n 3) (eqb n 4)).takes);
    })

-- ---- rosters

pub test_up : (test : ℕ → Bool) → IsWithin 4 (word_where test)
test_up test = record { takes = at_most 4 (tested_at 4 test) (tested_just 4 test) }

member_up : IsWithin 44 member_item
member_up =
    within_pair 4 40 (test_up is_node) (within_pair 4 36 (test_up rosters.is_kind)
    (within_pair 32 4 hash_up (test_up is_height)))

versioned_up : IsWithin 48 versioned_item
versioned_up = within_pair 44 4 member_up (test_up is_log)

-- in the first form the first word counts the members, 64 at most
pub few_members : (n : ℕ) → is_roster_word n ≡ true → (n == SECOND_FORM) ≡ false → n ≤ 64
few_members n known first = leb-true n 64 (left_one (leb n 64) (n == SECOND_FORM) known first)
  where
    left_one : (a b : Bool) → (a || b) ≡ true → b ≡ false → a ≡ true
    left_one true b either none = refl
    left_one false b either none = absurd cc

members_up : (second : Bool) (n : ℕ) → is_roster_word n ≡ true → (n == SECOND_FORM) ≡ second
    → IsWithin 3076 (members_item second n)
members_up true n known form = within_array 64 48 versioned_up
members_up false n known form =
    within (n * 44) 3076 (omega (arith, few_members n known form))
    (record { takes = items_up (read_at member_item) 44 member_up.takes n })

-- a roster takes 3,080 bytes at most
pub roster_up : IsWithin 3080 roster_item
roster_up =
    record {
      takes =
          choice_up is_roster_word (λ n. members_item (n == SECOND_FORM) n) 3076
          (λ n known. (members_up (n == SECOND_FORM) n known refl).takes);
    }

-- a roster with evidence after it takes 1,984,385,256 bytes at most
pub case_up : IsWithin 1984385256 case_item
case_up = within_pair 3080 1984382176 roster_up evidence_up
