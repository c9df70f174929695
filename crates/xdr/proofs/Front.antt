-- Numbers, bools and opaque data at the front of bytes: what reading takes is the spelling (`_takes`), and
-- a spelling is read again (`_again`).
-- Serves: reads_what_is_spelled and no_spelling_begins_another by way of Exact; mark_of in rpc::records,
-- some_reading in rpc::record_laws; the proofs on calls, arguments and entries in rpc, nfs_types and
-- secure_log.
use Rattle.std.proofs.Common.{◌≡◌, ℕ, zero, suc, ◌+◌, ◌-◌, ◌%◌, ◌^◌, ◌<◌, ◌≤◌, Bool, true, false, cond, ◌&&◌}
use Rattle.std.proofs.Common.{ltb, eqb, List, [], ◌∷◌, ◌++◌, length, take, drop, replicate, Ok, Err, refl}
use Rattle.std.proofs.Common.{sym, ap, subst, ◌∙◌, append_assoc, arith, inl, inr}
use Rattle.std.specs.List.{list_all}
use Rattle.std.proofs.lemmas.Bool.{cases_lt, eqb-true, ltb-false, le-ltb}
use Rattle.std.proofs.lemmas.List.{take_at, drop_at, take-append-drop, length-append, length-take}
use Rattle.std.proofs.lemmas.List.{length-drop, length-replicate, get_or-drop, get_or-take, get_or_past}
use Rattle.std.proofs.lemmas.Nat.{be_bytes_4, be_bytes_8}
use Rattle.byteorder.specs.Endian.{big_number, big_bytes}
use Rattle.byteorder.specs.Numbers.{big_from-append, big_from-lt, big_number-reads_back}
use Rattle.byteorder.specs.Numbers.{length-bytes_high_first}
use Rattle.xdr.specs.declared.fault.XdrFault.{XdrFault}
use Rattle.xdr.specs.declared.fault.XdrFault.TheVariants.{Short, Padding, BadBool, TooLong}
use Rattle.xdr.specs.Item.{IsBytes, number_spelling, padding}
use Rattle.xdr.specs.Reading.{Read, ◌>>=◌, number_at, flag_at, fixed_at, opaque_at}

-- what is left of bytes is bytes
pub IsBytes-drop : (n : ℕ) (bytes : List ℕ) → IsBytes bytes → IsBytes (drop n bytes)
IsBytes-drop n bytes h i = rw get_or-drop (h (n + i))

-- the front of bytes is bytes
pub IsBytes-take : (n : ℕ) (bytes : List ℕ) → IsBytes bytes → IsBytes (take n bytes)
IsBytes-take n bytes h i =
    elim (cases_lt i n) [
      | inl lt ↦ rw (get_or-take n bytes i 0 lt) (h i)
      | inr le ↦ rw (get_or_past (take n bytes) i 0 (omega (arith, length-take n bytes))) (omega arith)
    ]

-- a chain that gave a value: so did its first step, and the rest from there
pub bind_ok : {A B : Type 0} (r : Read A) (f : A × List ℕ → Read B) (y : B × List ℕ) → (r >>= f) ≡ Ok y
    → (x : A × List ℕ) × (r ≡ Ok x) × (f x ≡ Ok y)
bind_ok (Ok x) f y e = (x, refl, e)
bind_ok (Err d) f y e = absurd cc

-- a test with a fault in its `then`, which gave a value: the test is false
pub guard_ok : {A : Type 0} (b : Bool) (d : XdrFault) (r : Read A) (y : A × List ℕ) → cond b (Err d) r ≡ Ok y
    → (b ≡ false) × (r ≡ Ok y)
guard_ok true d r y e = absurd cc
guard_ok false d r y e = (refl, e)

-- a test with a fault in its `else`, which gave a value: the test is true
pub guard_true : {A : Type 0} (b : Bool) (d : XdrFault) (r : Read A) (y : A × List ℕ)
    → cond b r (Err d) ≡ Ok y → (b ≡ true) × (r ≡ Ok y)
guard_true true d r y e = (refl, e)
guard_true false d r y e = absurd cc

-- a value that was read, and what follows it
abbrev pub done : {A : Type 0} → A × List ℕ → Read A
done x = Ok x

-- equal values, and equal bytes after them
pub ok_is : {A : Type 0} (x y : A × List ℕ) → done x ≡ done y → x ≡ y
ok_is x y e = cc

-- A text was taken from the front of bytes, and bytes are left.
pub record InFront (bytes text rest : List ℕ) : Type 0 where
  -- the text stands at the front
  pub parts : bytes ≡ text ++ rest
  -- what is left is bytes
  pub rest_fits : IsBytes rest

-- one after the other
pub InFront-then : (a x b y c : List ℕ) → InFront a x b → InFront b y c → InFront a (x ++ y) c
InFront-then a x b y c p q =
    record {
      parts = p.parts ∙ ap (λ (t : List ℕ). x ++ t) q.parts ∙ sym (append_assoc x y c);
      rest_fits =
          q.rest_fits;
    }

-- a number: `back` says that its bytes are told by it
pub number_takes : (len : ℕ)
    → ((bytes : List ℕ) → length bytes ≡ len → IsBytes bytes → big_bytes len (big_number len bytes) ≡ bytes)
    → (bytes : List ℕ) (n : ℕ) (rest : List ℕ) → IsBytes bytes → number_at len bytes ≡ Ok (n, rest)
    → InFront bytes (number_spelling len n) rest × (n < 256 ^ len)
unfolding number_at number_spelling
number_takes len back bytes n rest fits e =
    let g = guard_ok (ltb (length bytes) len) Short (Ok (big_number len bytes, drop len bytes)) (n, rest) e in
    let long : len ≤ length bytes = ltb-false _ _ g.0 in
    let both = ok_is (big_number len bytes, drop len bytes) (n, rest) g.1 in
    let n-is : big_number len bytes ≡ n = ap (λ (p : ℕ × List ℕ). p.0) both in
    let rest-is : drop len bytes ≡ rest = ap (λ (p : ℕ × List ℕ). p.1) both in
    let same : big_number len bytes ≡ big_number len (take len bytes) =
    ap (big_number len) (sym (take-append-drop len bytes))
    ∙ big_from-append len (take len bytes) (drop len bytes) (omega (arith, length-take len bytes)) in
    let front : big_bytes len n ≡ take len bytes =
    rw (← n-is, same) (back (take len bytes) (omega (arith, length-take len bytes))
    (IsBytes-take len bytes fits)) in (
      record {
        parts = rw (front, ← rest-is) (sym (take-append-drop len bytes));
        rest_fits =
            rw (← rest-is) (IsBytes-drop len bytes fits);
      },
      rw (← n-is) (big_from-lt 0 len bytes fits),
    )

-- four bytes are the spelling of their number
pub back4 : (bytes : List ℕ) → length bytes ≡ 4 → IsBytes bytes → big_bytes 4 (big_number 4 bytes) ≡ bytes
back4 bytes len fits = be_bytes_4 bytes _ len fits (omega arith)

-- eight bytes are the spelling of their number
pub back8 : (bytes : List ℕ) → length bytes ≡ 8 → IsBytes bytes → big_bytes 8 (big_number 8 bytes) ≡ bytes
back8 bytes len fits = be_bytes_8 bytes _ len fits (omega arith)

-- a number's spelling is read as the number
pub number_again : (len n : ℕ) (rest : List ℕ) → n < 256 ^ len
    → number_at len (number_spelling len n ++ rest) ≡ Ok (n, rest)
unfolding number_at number_spelling
number_again len n rest lt =
    let size = length-bytes_high_first len n in
    let long : ltb (length (big_bytes len n ++ rest)) len ≡ false =
    le-ltb _ _ (omega (arith, length-append (big_bytes len n) rest)) in
    rw (long, big_number-reads_back len n rest lt, drop_at (big_bytes len n) rest len size) refl

-- the length of a number's spelling
pub length-number_spelling : (len n : ℕ) → length (number_spelling len n) ≡ len
unfolding number_spelling
length-number_spelling len n = length-bytes_high_first len n

-- ---- bools

-- what is read as a bool is its spelling
pub flag_takes : (bytes : List ℕ) (b : Bool) (rest : List ℕ) → IsBytes bytes → flag_at bytes ≡ Ok (b, rest)
    → InFront bytes (number_spelling 4 (cond b 1 0)) rest
unfolding flag_at
flag_takes bytes b rest fits e =
    let a = bind_ok (number_at 4 bytes)
    (λ n. cond {A = Read Bool} (eqb n.0 0) (Ok (false, n.1))
    (cond {A = Read Bool} (eqb n.0 1) (Ok (true, n.1)) (Err BadBool))) (b, rest) e in
    let t = number_takes 4 back4 bytes a.0.0 a.0.1 fits a.1 in
    flag_cases (eqb a.0.0 0) (eqb a.0.0 1) bytes a.0.0 a.0.1 b rest t.0 (eqb-true _ _) (eqb-true _ _) a.2
  where
    flag_cases : (zeroed oned : Bool) (bytes : List ℕ) (n : ℕ) (after : List ℕ) (b : Bool) (rest : List ℕ)
        → InFront bytes (number_spelling 4 n) after
        → (zeroed ≡ true → n ≡ 0) → (oned ≡ true → n ≡ 1)
        → cond {A = Read Bool} zeroed (Ok (false, after))
        (cond {A = Read Bool} oned (Ok (true, after)) (Err BadBool)) ≡ Ok (b, rest)
        → InFront bytes (number_spelling 4 (cond b 1 0)) rest
    flag_cases true oned bytes n after b rest t z o e =
        let p = ok_is (false, after) (b, rest) e in
        let n-is : n ≡ 0 = z refl in
        let P : Bool × List ℕ → Type 0 = λ x. InFront bytes (number_spelling 4 (cond x.0 1 0)) x.1 in
        subst P p (subst (λ (k : ℕ). InFront bytes (number_spelling 4 k) after) n-is t)
    flag_cases false true bytes n after b rest t z o e =
        let p = ok_is (true, after) (b, rest) e in
        let n-is : n ≡ 1 = o refl in
        let P : Bool × List ℕ → Type 0 = λ x. InFront bytes (number_spelling 4 (cond x.0 1 0)) x.1 in
        subst P p (subst (λ (k : ℕ). InFront bytes (number_spelling 4 k) after) n-is t)
    flag_cases false false bytes n after b rest t z o e = absurd cc

-- a bool's spelling is read as the bool
pub flag_again : (b : Bool) (rest : List ℕ) → flag_at (number_spelling 4 (cond b 1 0) ++ rest) ≡ Ok (b, rest)
unfolding flag_at
flag_again true rest = rw (number_again 4 1 rest (omega arith)) refl
flag_again false rest = rw (number_again 4 0 rest (omega arith)) refl

-- ---- bytes and their padding

-- a list of bytes that are all zero is a list of zeros
all_zero_cons : (is_zero : Bool) (x : ℕ) (xs : List ℕ) → (is_zero ≡ true → x ≡ 0)
    → (list_all (λ b. eqb b 0) xs ≡ true → xs ≡ replicate (length xs) 0)
    → (is_zero && list_all (λ b. eqb b 0) xs) ≡ true → x ∷ xs ≡ 0 ∷ replicate (length xs) 0
all_zero_cons true x xs z rest e = let a = z refl in let b = rest e in cc
all_zero_cons false x xs z rest e = absurd cc

all_zero : (xs : List ℕ) → list_all (λ b. eqb b 0) xs ≡ true → xs ≡ replicate (length xs) 0
all_zero [] e = refl
all_zero (x ∷ xs) e = all_zero_cons (eqb x 0) x xs (eqb-true _ _) (all_zero xs) e

-- and a list of zeros passes the test
zero_all : (n : ℕ) → list_all (λ b. eqb b 0) (replicate n 0) ≡ true
zero_all zero = refl
zero_all (suc n) = zero_all n

-- what is read as opaque data of a known length is its spelling
pub fixed_takes : (len : ℕ) (bytes body rest : List ℕ) → IsBytes bytes → fixed_at len bytes ≡ Ok (body, rest)
    → InFront bytes (body ++ padding len) rest × (length body ≡ len)
unfolding fixed_at
fixed_takes len bytes body rest fits e =
    let pad : ℕ = (4 - len % 4) % 4 in
    let after : List ℕ = drop len bytes in
    let g = guard_ok (ltb (length bytes) (len + pad)) Short
    (cond (list_all (λ b. eqb b 0) (take pad after)) (Ok (take len bytes, drop pad after)) (Err Padding))
    (body, rest) e in
    let long : len + pad ≤ length bytes = ltb-false _ _ g.0 in
    let h = guard_true (list_all (λ b. eqb b 0) (take pad after)) Padding
    (Ok (take len bytes, drop pad after)) (body, rest) g.1 in
    let both = ok_is (take len bytes, drop pad after) (body, rest) h.1 in
    let size : length (take pad after) ≡ pad = omega (arith, length-take pad after, length-drop len bytes) in
    let zeros : take pad after ≡ padding len = all_zero (take pad after) h.0
    ∙ ap (λ (k : ℕ). replicate k 0) size in
    let first : InFront bytes (take len bytes) after =
    record { parts = sym (take-append-drop len bytes); rest_fits = IsBytes-drop len bytes fits } in
    let second : InFront after (padding len) (drop pad after) =
    record {
      parts =
          sym (take-append-drop pad after) ∙ ap (λ (t : List ℕ). t ++ drop pad after) zeros;
      rest_fits =
          IsBytes-drop pad after (IsBytes-drop len bytes fits);
    } in
    let P : List ℕ × List ℕ → Type 0 = λ x. InFront bytes (x.0 ++ padding len) x.1 × (length x.0 ≡ len) in
    subst P both (
      InFront-then bytes (take len bytes) after (padding len) (drop pad after) first second,
      omega (arith, length-take len bytes),
    )

-- and its spelling is read
pub fixed_again : (len : ℕ) (body rest : List ℕ) → length body ≡ len
    → fixed_at len ((body ++ padding len) ++ rest) ≡ Ok (body, rest)
unfolding fixed_at
fixed_again len body rest size =
    let pad : ℕ = (4 - len % 4) % 4 in
    let regrouped : (body ++ padding len) ++ rest ≡ body ++ (padding len ++ rest) =
    append_assoc body (padding len) rest in
    let zeros : length (padding len) ≡ pad = length-replicate pad 0 in
    let long : ltb (length (body ++ (padding len ++ rest))) (len + pad) ≡ false =
    le-ltb _ _ (omega (
      arith,
      length-append body (padding len ++ rest),
      length-append (padding len) rest,
    )) in
    ap (fixed_at len) regrouped
    ∙ rw (
      long,
      take_at body (padding len ++ rest) len size,
      drop_at body (padding len ++ rest) len size,
      take_at (padding len) rest pad zeros,
      drop_at (padding len) rest pad zeros,
      zero_all pad,
    ) refl

-- what is read as opaque data after its length is its spelling
pub opaque_takes : (max : ℕ) (bytes body rest : List ℕ) → IsBytes bytes
    → opaque_at max bytes ≡ Ok (body, rest)
    → InFront bytes (number_spelling 4 (length body) ++ (body ++ padding (length body))) rest
    × ((length body < 2 ^ 32) × (length body ≤ max))
unfolding opaque_at
opaque_takes max bytes body rest fits e =
    let a = bind_ok (number_at 4 bytes) (λ len. cond (ltb max len.0) (Err TooLong) (fixed_at len.0 len.1))
    (body, rest) e in
    let t = number_takes 4 back4 bytes a.0.0 a.0.1 fits a.1 in
    let g = guard_ok (ltb max a.0.0) TooLong (fixed_at a.0.0 a.0.1) (body, rest) a.2 in
    let u = fixed_takes a.0.0 a.0.1 body rest t.0.rest_fits g.1 in
    let both = InFront-then bytes (number_spelling 4 a.0.0) a.0.1 (body ++ padding a.0.0) rest t.0 u.0 in
    let le : a.0.0 ≤ max = ltb-false _ _ g.0 in (
      subst (λ (k : ℕ). InFront bytes (number_spelling 4 k ++ (body ++ padding k)) rest) (sym u.1) both,
      (omega (arith, t.1, u.1), omega (arith, u.1)),
    )

-- and its spelling is read, where the length is within the bound
pub opaque_again : (max : ℕ) (body rest : List ℕ) → length body < 2 ^ 32 → length body ≤ max
    → opaque_at max ((number_spelling 4 (length body) ++ (body ++ padding (length body))) ++ rest)
    ≡ Ok (body, rest)
unfolding opaque_at
opaque_again max body rest small le =
    let regrouped = append_assoc (number_spelling 4 (length body)) (body ++ padding (length body)) rest in
    let fits : ltb max (length body) ≡ false = le-ltb _ _ le in
    ap (opaque_at max) regrouped
    ∙ rw (
      number_again 4 (length body) ((body ++ padding (length body)) ++ rest) (omega arith),
      fits,
      fixed_again (length body) body rest refl,
    ) refl
