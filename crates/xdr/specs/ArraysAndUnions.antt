-- Reading items one after the other, as a loop does; a union by its number.
-- Serves: read_array here, and in crates above the functions that read arrays and unions by hand
-- (read_nodes in merkle_keys, read_entry in log_entries).
use Rattle.std.proofs.Common.{◌≡◌, ℕ, suc, ◌-◌, ◌+◌, ◌≤◌, ◌<◌, List, [], ◌∷◌, ◌++◌, Ok, Err, refl, sym, ap}
use Rattle.std.proofs.Common.{◌∙◌, append_assoc, arith, ltb, false, true, Bool}
use Rattle.std.proofs.lemmas.List.{append-nil}
use Rattle.xdr.specs.declared.fault.XdrFault.{XdrFault}
use Rattle.std.specs.Prelude.{Option, Some, None, IfSome}
use Rattle.std.proofs.lemmas.Bool.{le-ltb}
use Rattle.xdr.specs.Item.{Item, array, choice, Value}
use Rattle.xdr.specs.Reading.{Read, ◌>>=◌, number_at, items_at, read_at}

-- what was read before, and what is still read
abbrev pub with_front : {A : Type 0} → List A → Read (List A) → Read (List A)
with_front front read = read >>= λ x. Ok (front ++ x.0, x.1)

-- The loop's invariant: `front` holds the first `done` of `count` items, and with the items that `bytes` go
-- on with it is what reading gives from `start`.
abbrev pub Continues : {A : Type 0} (read : List ℕ → Read A) → List A → ℕ → ℕ → List ℕ → List ℕ → Type 0
Continues read front count done bytes start =
    with_front front (items_at read (count - done) bytes) ≡ items_at read count start

-- an item goes from what is still read to what was read
regroup : {A : Type 0} (front : List A) (v : A) (read : Read (List A))
    → with_front front (read >>= λ x. Ok (v ∷ x.0, x.1)) ≡ with_front (front ++ v ∷ []) read
regroup {A} front v (Ok x) = ap {B = Read (List A)} (λ (vs : List A). Ok (vs, x.1)) (simp append_assoc)
regroup front v (Err f) = refl

-- before the first item
pub begins : {A : Type 0} (read : List ℕ → Read A) (count : ℕ) (bytes : List ℕ)
    → Continues read [] count 0 bytes bytes
begins read count bytes =
    let same : count - 0 ≡ count = omega arith in
    rw same (nothing_before (items_at read count bytes))
  where
    nothing_before : {A : Type 0} (read : Read (List A)) → with_front [] read ≡ read
    nothing_before (Ok x) = refl
    nothing_before (Err f) = refl

-- after one more item
pub goes_on : {A : Type 0} (read : List ℕ → Read A) (front : List A) (count done : ℕ)
    (bytes start : List ℕ) (v : A) (after : List ℕ) → done < count → read bytes ≡ Ok (v, after)
    → Continues read front count done bytes start
    → Continues read (front ++ v ∷ []) count (done + 1) after start
unfolding items_at
goes_on read front count done bytes start v after lt h so_far =
    let k : count - done ≡ suc (count - (done + 1)) = omega arith in
    let one : with_front front (items_at read (count - done) bytes)
    ≡ with_front (front ++ v ∷ []) (items_at read (count - (done + 1)) after) =
    rw (k, h) (regroup front v (items_at read (count - (done + 1)) after)) in
    sym one ∙ so_far

-- the first fault of an item is the fault of the whole
pub fails : {A : Type 0} (read : List ℕ → Read A) (front : List A) (count done : ℕ)
    (bytes start : List ℕ) (f : XdrFault) → done < count → read bytes ≡ Err f
    → Continues read front count done bytes start → items_at read count start ≡ Err f
unfolding items_at
fails read front count done bytes start f lt h so_far =
    let k : count - done ≡ suc (count - (done + 1)) = omega arith in
    let one : with_front front (items_at read (count - done) bytes) ≡ Err f = rw k (rw h refl) in
    sym so_far ∙ one

-- after the last item
pub ends : {A : Type 0} (read : List ℕ → Read A) (front : List A) (count done : ℕ) (bytes start : List ℕ)
    → count ≤ done → Continues read front count done bytes start
    → items_at read count start ≡ Ok (front, bytes)
unfolding items_at
ends {A} read front count done bytes start le so_far =
    let k : count - done ≡ 0 = omega arith in
    let one : with_front front (items_at read (count - done) bytes) ≡ Ok (front, bytes) =
    rw k (ap {B = Read (List A)} (λ (vs : List A). Ok (vs, bytes)) (append-nil front)) in
    sym so_far ∙ one

-- the same as `fails` where an item's error may be no fault of the bytes
pub fails_unless : {A : Type 0} (read : List ℕ → Read A) (front : List A) (count done : ℕ)
    (bytes start : List ℕ) (fault : Option XdrFault) → done < count → IfSome fault (λ f. read bytes ≡ Err f)
    → Continues read front count done bytes start → IfSome fault (λ f. items_at read count start ≡ Err f)
fails_unless read front count done bytes start None lt h so_far = tt
fails_unless read front count done bytes start (Some f) lt h so_far =
    fails read front count done bytes start f lt h so_far

-- an array is its count, and then that many items
pub array_at : (a : Item) (max count : ℕ) (bytes start : List ℕ) → number_at 4 bytes ≡ Ok (count, start)
    → count ≤ max → read_at (array max a) bytes ≡ items_at (read_at a) count start
array_at a max count bytes start e le =
    let small : ltb max count ≡ false = le-ltb _ _ le in
    rw (e, small) refl

-- a union is its number, and then the item of that number
pub choice_ok : (known : ℕ → Bool) (body : ℕ → Item) (bytes : List ℕ) (n : ℕ) (after : List ℕ)
    (v : Value (body n)) (rest : List ℕ) → number_at 4 bytes ≡ Ok (n, after) → known n ≡ true
    → read_at (body n) after ≡ Ok (v, rest) → read_at (choice known body) bytes ≡ Ok ((n, v), rest)
choice_ok known body bytes n after v rest e k h = rw (e, k, h) refl

-- the fault of a union's item is the fault of the union, where it is a fault of the bytes
pub choice_err_unless : (known : ℕ → Bool) (body : ℕ → Item) (bytes : List ℕ) (n : ℕ) (after : List ℕ)
    (fault : Option XdrFault) → number_at 4 bytes ≡ Ok (n, after) → known n ≡ true
    → IfSome fault (λ f. read_at (body n) after ≡ Err f)
    → IfSome fault (λ f. read_at (choice known body) bytes ≡ Err f)
choice_err_unless known body bytes n after None e k h = tt
choice_err_unless known body bytes n after (Some f) e k h = rw (e, k, h) refl
