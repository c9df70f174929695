-- Reading and spelling are the same, for each type of item: `takes` is the one direction and `again` the
-- other, both by induction on the type, with a pair of lemmas for each way to make a type of others.
-- Serves: reads_what_is_spelled, no_spelling_begins_another; reads_each_text (texts), and in crates above
-- one_list_of_records (rpc::record_laws), the laws of rpc, nfs_types, nfs_items and secure_log.
use Rattle.std.proofs.Common.{◌≡◌, ℕ, zero, suc, ◌^◌, ◌<◌, ◌≤◌, Bool, true, false, cond, ltb, List, [], ◌∷◌}
use Rattle.std.proofs.Common.{◌++◌, length, Ok, Err, refl, sym, ap, subst, ◌∙◌, append_assoc, arith}
use Rattle.std.specs.Prelude.{IsTrue, ◌↔◌, Option, Some, None, IfSome}
use Rattle.std.specs.List.{flat_map, AllByRecursion}
use Rattle.std.proofs.lemmas.Bool.{ltb-false, le-ltb}
use Rattle.std.proofs.lemmas.List.{length-append}
use Rattle.std.proofs.lemmas.List.Concat.{flat_map-cons}
use Rattle.xdr.specs.declared.fault.XdrFault.TheVariants.{TooLong, BadEnum}
use Rattle.xdr.specs.Item.{Item, word, hyper, flag, opaque, fixed, empty, pair, array, choice, optional}
use Rattle.xdr.specs.Item.{linked, repeated, word_where, hyper_where, Value, number_spelling}
use Rattle.xdr.specs.Item.{optional_spelling, linked_spelling, spelling, Fits, IsBytes}
use Rattle.xdr.specs.Reading.{Read, ◌>>=◌, number_at, flag_at, optional_at, linked_at, tested_at, items_at}
use Rattle.xdr.specs.Reading.{read_at}
use Rattle.xdr.proofs.Front.{bind_ok, guard_ok, guard_true, done, ok_is, InFront, InFront-then, number_takes}
use Rattle.xdr.proofs.Front.{number_again, length-number_spelling, back4, back8, flag_takes, flag_again}
use Rattle.xdr.proofs.Front.{fixed_takes, fixed_again, opaque_takes, opaque_again}

-- what is read is spelled so
abbrev pub TakesAll : {A : Type 0} (read : List ℕ → Read A) (text : A → List ℕ) (fits : A → Type 0) → Type 0
TakesAll {A} read text fits =
    (bytes : List ℕ) (x : A × List ℕ) → IsBytes bytes → read bytes ≡ Ok x
    → InFront bytes (text x.0) x.1 × fits x.0

-- what is spelled so is read, whatever follows
abbrev pub ReadsAgain : {A : Type 0} (read : List ℕ → Read A) (text : A → List ℕ) (fits : A → Type 0) → Type 0
ReadsAgain {A} read text fits = (v : A) (rest : List ℕ) → fits v → read (text v ++ rest) ≡ Ok (v, rest)

-- items one after the other, as many as are known
items_take : {A : Type 0} (read : List ℕ → Read A) (text : A → List ℕ) (fits : A → Type 0)
    → TakesAll read text fits
    → (n : ℕ) (bytes : List ℕ) (x : List A × List ℕ) → IsBytes bytes → items_at read n bytes ≡ Ok x
    → InFront bytes (flat_map text x.0) x.1 × (length x.0 ≡ n) × AllByRecursion fits x.0
unfolding items_at
items_take {A} read text fits exact zero bytes x bound e =
    let P : List A × List ℕ → Type 0 = λ y. InFront bytes (flat_map text y.0) y.1 × (length y.0 ≡ 0)
    × AllByRecursion fits y.0 in
    subst P (ok_is ([], bytes) x e) (record { parts = refl; rest_fits = bound }, refl, tt)
items_take {A} read text fits exact (suc n) bytes x bound e =
    let a = bind_ok (read bytes)
    (λ first. items_at read n first.1 >>= λ others. Ok (first.0 ∷ others.0, others.1)) x e in
    let b = bind_ok (items_at read n a.0.1) (λ others. Ok (a.0.0 ∷ others.0, others.1)) x a.2 in
    let first = exact bytes a.0 bound a.1 in
    let second = items_take read text fits exact n a.0.1 b.0 first.0.rest_fits b.1 in
    let both = InFront-then bytes (text a.0.0) a.0.1 (flat_map text b.0.0) b.0.1 first.0 second.0 in
    let P : List A × List ℕ → Type 0 = λ y. InFront bytes (flat_map text y.0) y.1 × (length y.0 ≡ suc n)
    × AllByRecursion fits y.0 in
    subst P (ok_is (a.0.0 ∷ b.0.0, b.0.1) x b.2) (rw flat_map-cons both, ap suc second.1, (first.1, second.2))

-- and their spellings are read
items_again : {A : Type 0} (read : List ℕ → Read A) (text : A → List ℕ) (fits : A → Type 0)
    → ReadsAgain read text fits
    → (vs : List A) (rest : List ℕ) → AllByRecursion fits vs
    → items_at read (length vs) (flat_map text vs ++ rest) ≡ Ok (vs, rest)
unfolding items_at
items_again read text fits exact [] rest all = refl
items_again read text fits exact (v ∷ vs) rest all =
    let regrouped : flat_map text (v ∷ vs) ++ rest ≡ text v ++ (flat_map text vs ++ rest) =
    ap (λ (x : List ℕ). x ++ rest) (flat_map-cons text v vs)
    ∙ append_assoc (text v) (flat_map text vs) rest in
    ap (items_at read (suc (length vs))) regrouped
    ∙ rw (exact v (flat_map text vs ++ rest) all.0, items_again read text fits exact vs rest all.1) refl

-- by cases on a bool that was read
flag_goes : {A : Type 0} (text : A → List ℕ) (fits : A → Type 0) (more : Bool) (bytes after : List ℕ)
    (some none : Read A) (x : A × List ℕ)
    → InFront bytes (number_spelling 4 (cond more 1 0)) after → cond more some none ≡ Ok x
    → (InFront bytes (number_spelling 4 1) after → some ≡ Ok x → InFront bytes (text x.0) x.1 × fits x.0)
    → (InFront bytes (number_spelling 4 0) after → none ≡ Ok x → InFront bytes (text x.0) x.1 × fits x.0)
    → InFront bytes (text x.0) x.1 × fits x.0
flag_goes text fits true bytes after some none x t e is_more is_end = is_more t e
flag_goes text fits false bytes after some none x t e is_more is_end = is_end t e

-- a bool, and after TRUE an item
optional_takes : {A : Type 0} (read : List ℕ → Read A) (text : A → List ℕ) (fits : A → Type 0)
    → TakesAll read text fits
    → TakesAll (optional_at read) (optional_spelling text) (λ v. IfSome v fits)
unfolding optional_at
optional_takes {A} read text fits exact bytes x bound e =
    let some : List ℕ → Read (Option A) = λ after. read after >>= λ v. Ok (Some v.0, v.1) in
    let p = bind_ok (flag_at bytes)
    (λ more. cond {A = Read (Option A)} more.0 (some more.1) (Ok (None, more.1))) x e in
    let after = p.0.1 in
    let first = flag_takes bytes p.0.0 after bound p.1 in
    let P : Option A × List ℕ
    → Type 0 = λ y. InFront bytes (optional_spelling text y.0) y.1 × IfSome y.0 fits in
    flag_goes (optional_spelling text) (λ v. IfSome v fits) p.0.0 bytes after (some after)
    (Ok (None, after)) x first p.2
    (λ t f.
    let q = bind_ok (read after) (λ v. Ok (Some v.0, v.1)) x f in
    let second = exact after q.0 t.rest_fits q.1 in
    subst P (ok_is (Some q.0.0, q.0.1) x q.2)
    (InFront-then bytes (number_spelling 4 1) after (text q.0.0) q.0.1 t second.0, second.1))
    (λ t f. subst P (ok_is (None, after) x f) (t, tt))

-- and its spelling is read
optional_again : {A : Type 0} (read : List ℕ → Read A) (text : A → List ℕ) (fits : A → Type 0)
    → ReadsAgain read text fits
    → ReadsAgain (optional_at read) (optional_spelling text) (λ v. IfSome v fits)
unfolding optional_at
optional_again read text fits exact None rest h = rw (flag_again false rest) refl
optional_again read text fits exact (Some v) rest h =
    let regrouped = append_assoc (number_spelling 4 1) (text v) rest in
    ap (optional_at read) regrouped ∙ rw (flag_again true (text v ++ rest), exact v rest h) refl

-- the spelling of a list by optional data, from its first item on
linked-cons : {A : Type 0} (text : A → List ℕ) (v : A) (vs : List A)
    → linked_spelling text (v ∷ vs) ≡ (number_spelling 4 1 ++ text v) ++ linked_spelling text vs
linked-cons text v vs =
    ap (λ (x : List ℕ). x ++ number_spelling 4 0) (flat_map-cons (λ w. number_spelling 4 1 ++ text w) v vs)
    ∙ append_assoc (number_spelling 4 1 ++ text v) (flat_map (λ w. number_spelling 4 1 ++ text w) vs)
    (number_spelling 4 0)

-- a list by optional data, within its fuel
linked_takes : {A : Type 0} (read : List ℕ → Read A) (text : A → List ℕ) (fits : A → Type 0)
    → TakesAll read text fits
    → (fuel : ℕ) → TakesAll (linked_at read fuel) (linked_spelling text) (AllByRecursion fits)
unfolding linked_at
linked_takes read text fits exact zero bytes x bound e = absurd cc
linked_takes {A} read text fits exact (suc fuel) bytes x bound e =
    let some : List ℕ → Read (List A) = λ after. read after >>= λ v. linked_at read fuel v.1
    >>= λ vs. Ok (v.0 ∷ vs.0, vs.1) in
    let p = bind_ok (flag_at bytes)
    (λ more. cond {A = Read (List A)} more.0 (some more.1) (Ok ([], more.1))) x e in
    let after = p.0.1 in
    let first = flag_takes bytes p.0.0 after bound p.1 in
    let P : List A × List ℕ → Type 0 = λ y. InFront bytes (linked_spelling text y.0) y.1
    × AllByRecursion fits y.0 in
    flag_goes (linked_spelling text) (AllByRecursion fits) p.0.0 bytes after (some after)
    (Ok ([], after)) x first p.2
    (λ t f.
    let q = bind_ok (read after) (λ v. linked_at read fuel v.1 >>= λ vs. Ok (v.0 ∷ vs.0, vs.1)) x f in
    let r = bind_ok (linked_at read fuel q.0.1) (λ vs. Ok (q.0.0 ∷ vs.0, vs.1)) x q.2 in
    let second = exact after q.0 t.rest_fits q.1 in
    let third = linked_takes read text fits exact fuel q.0.1 r.0 second.0.rest_fits r.1 in
    let both = InFront-then bytes (number_spelling 4 1 ++ text q.0.0) q.0.1 (linked_spelling text r.0.0) r.0.1
    (InFront-then bytes (number_spelling 4 1) after (text q.0.0) q.0.1 t second.0) third.0 in
    subst P (ok_is (q.0.0 ∷ r.0.0, r.0.1) x r.2) (rw linked-cons both, (second.1, third.1)))
    (λ t f. subst P (ok_is ([], after) x f) (t, tt))

-- its spelling is longer than the list, so that the fuel suffices
linked_long : {A : Type 0} (text : A → List ℕ) (vs : List A) → length vs < length (linked_spelling text vs)
linked_long text [] = omega (arith, length-number_spelling 4 0)
linked_long text (v ∷ vs) =
    let whole = ap length (linked-cons text v vs) in
    omega (
      arith,
      whole,
      length-append (number_spelling 4 1 ++ text v) (linked_spelling text vs),
      length-append (number_spelling 4 1) (text v),
      length-number_spelling 4 1,
      linked_long text vs,
    )

-- and its spelling is read
linked_again : {A : Type 0} (read : List ℕ → Read A) (text : A → List ℕ) (fits : A → Type 0)
    → ReadsAgain read text fits
    → (vs : List A) (fuel : ℕ) (rest : List ℕ) → length vs < fuel → AllByRecursion fits vs
    → linked_at read fuel (linked_spelling text vs ++ rest) ≡ Ok (vs, rest)
unfolding linked_at
linked_again read text fits exact vs zero rest lt all = absurd (omega arith)
linked_again read text fits exact [] (suc fuel) rest lt all = rw (flag_again false rest) refl
linked_again read text fits exact (v ∷ vs) (suc fuel) rest lt all =
    let others : List ℕ = linked_spelling text vs ++ rest in
    let regrouped : linked_spelling text (v ∷ vs) ++ rest ≡ number_spelling 4 1 ++ (text v ++ others) =
    ap (λ (x : List ℕ). x ++ rest) (linked-cons text v vs)
    ∙ append_assoc (number_spelling 4 1 ++ text v) (linked_spelling text vs) rest
    ∙ append_assoc (number_spelling 4 1) (text v) others in
    ap (linked_at read (suc fuel)) regrouped
    ∙ rw (
      flag_again true (text v ++ others),
      exact v others all.0,
      linked_again read text fits exact vs fuel rest (omega arith) all.1,
    ) refl

tested_takes : (len : ℕ) (test : ℕ → Bool) (bytes : List ℕ) (n : ℕ) (rest : List ℕ)
    → tested_at len test bytes ≡ Ok (n, rest) → (number_at len bytes ≡ Ok (n, rest)) × (test n ≡ true)
unfolding tested_at
tested_takes len test bytes n rest e =
    let p = bind_ok (number_at len bytes) (λ x. cond {A = Read ℕ} (test x.0) (Ok x) (Err BadEnum))
    (n, rest) e in
    let g = guard_true (test p.0.0) BadEnum (Ok p.0) (n, rest) p.2 in
    (p.1 ∙ g.1, subst (λ (x : ℕ × List ℕ). test x.0 ≡ true) (ok_is p.0 (n, rest) g.1) g.0)

tested_again : (len : ℕ) (test : ℕ → Bool) (n : ℕ) (rest : List ℕ) → n < 256 ^ len → test n ≡ true
    → tested_at len test (number_spelling len n ++ rest) ≡ Ok (n, rest)
unfolding tested_at
tested_again len test n rest lt h = rw (number_again len n rest lt, h) refl

-- What is read is its spelling, with what follows.
pub takes : (a : Item) (bytes : List ℕ) (x : Value a × List ℕ) → IsBytes bytes → read_at a bytes ≡ Ok x
    → InFront bytes (spelling a x.0) x.1 × Fits a x.0
takes word bytes x bound e = let t = number_takes 4 back4 bytes x.0 x.1 bound e in (t.0, omega (arith, t.1))
takes hyper bytes x bound e = let t = number_takes 8 back8 bytes x.0 x.1 bound e in (t.0, omega (arith, t.1))
takes flag bytes x bound e = (flag_takes bytes x.0 x.1 bound e, tt)
takes (opaque max) bytes x bound e = opaque_takes max bytes x.0 x.1 bound e
takes (fixed len) bytes x bound e = fixed_takes len bytes x.0 x.1 bound e
takes empty bytes x bound e =
    let P : Unit {0} × List ℕ → Type 0 = λ y. InFront bytes [] y.1 × Unit {0} in
    subst P (ok_is (tt, bytes) x e) (record { parts = refl; rest_fits = bound }, tt)
takes (pair a b) bytes x bound e =
    let p = bind_ok (read_at a bytes) (λ y. read_at b y.1 >>= λ z. Ok ((y.0, z.0), z.1)) x e in
    let q = bind_ok (read_at b p.0.1) (λ z. Ok ((p.0.0, z.0), z.1)) x p.2 in
    let first = takes a bytes p.0 bound p.1 in
    let second = takes b p.0.1 q.0 first.0.rest_fits q.1 in
    let P : (Value a × Value b) × List ℕ → Type 0 =
    λ y. InFront bytes (spelling a y.0.0 ++ spelling b y.0.1) y.1 × (Fits a y.0.0 × Fits b y.0.1) in
    subst P (ok_is ((p.0.0, q.0.0), q.0.1) x q.2) (
      InFront-then bytes (spelling a p.0.0) p.0.1 (spelling b q.0.0) q.0.1 first.0 second.0,
      (first.1, second.1),
    )
takes (array max a) bytes x bound e =
    let p = bind_ok (number_at 4 bytes)
    (λ n. cond (ltb max n.0) (Err TooLong) (items_at (read_at a) n.0 n.1)) x e in
    let g = guard_ok (ltb max p.0.0) TooLong (items_at (read_at a) p.0.0 p.0.1) x p.2 in
    let first = number_takes 4 back4 bytes p.0.0 p.0.1 bound p.1 in
    let second = items_take (read_at a) (spelling a) (Fits a) (takes a) p.0.0 p.0.1 x first.0.rest_fits g.1 in
    let both = InFront-then bytes (number_spelling 4 p.0.0) p.0.1
    (flat_map (spelling a) x.0) x.1 first.0 second.0 in
    let le : p.0.0 ≤ max = ltb-false _ _ g.0 in (
      subst (λ (k : ℕ). InFront bytes (number_spelling 4 k ++ flat_map (spelling a) x.0) x.1)
          (sym second.1) both,
      (omega (arith, first.1, second.1), omega (arith, second.1), second.2),
    )
takes (choice known body) bytes x bound e =
    let p = bind_ok (number_at 4 bytes)
    (λ n. cond (known n.0) (read_at (body n.0) n.1 >>= λ v. Ok ((n.0, v.0), v.1)) (Err BadEnum)) x e in
    let g = guard_true (known p.0.0) BadEnum
    (read_at (body p.0.0) p.0.1 >>= λ v. Ok ((p.0.0, v.0), v.1)) x p.2 in
    let q = bind_ok (read_at (body p.0.0) p.0.1) (λ v. Ok ((p.0.0, v.0), v.1)) x g.1 in
    let first = number_takes 4 back4 bytes p.0.0 p.0.1 bound p.1 in
    let second = takes (body p.0.0) p.0.1 q.0 first.0.rest_fits q.1 in
    let P : ((n : ℕ) × Value (body n)) × List ℕ → Type 0 =
    λ y. InFront bytes (number_spelling 4 y.0.0 ++ spelling (body y.0.0) y.0.1) y.1
    × ((y.0.0 < 2 ^ 32) × IsTrue (known y.0.0) × Fits (body y.0.0) y.0.1) in
    subst P (ok_is ((p.0.0, q.0.0), q.0.1) x q.2) (
      InFront-then bytes (number_spelling 4 p.0.0) p.0.1
          (spelling (body p.0.0) q.0.0) q.0.1 first.0 second.0,
      (omega (arith, first.1), g.0, second.1),
    )
takes (optional a) bytes x bound e =
    optional_takes (read_at a) (spelling a) (Fits a) (takes a) bytes x bound e
takes (linked a) bytes x bound e =
    linked_takes (read_at a) (spelling a) (Fits a) (takes a) (length bytes) bytes x bound e
takes (repeated count a) bytes x bound e =
    let t = items_take (read_at a) (spelling a) (Fits a) (takes a) count bytes x bound e in
    (t.0, (t.1, t.2))
takes (word_where test) bytes x bound e =
    let p = tested_takes 4 test bytes x.0 x.1 e in
    let t = number_takes 4 back4 bytes x.0 x.1 bound p.0 in
    (t.0, (omega (arith, t.1), p.1))
takes (hyper_where test) bytes x bound e =
    let p = tested_takes 8 test bytes x.0 x.1 e in
    let t = number_takes 8 back8 bytes x.0 x.1 bound p.0 in
    (t.0, (omega (arith, t.1), p.1))

-- What is spelled is read, whatever follows.
pub again : (a : Item) (v : Value a) (rest : List ℕ) → Fits a v
    → read_at a (spelling a v ++ rest) ≡ Ok (v, rest)
again word v rest fits = number_again 4 v rest (omega arith)
again hyper v rest fits = number_again 8 v rest (omega arith)
again flag v rest fits = flag_again v rest
again (opaque max) v rest fits = opaque_again max v rest fits.0 fits.1
again (fixed len) v rest fits = fixed_again len v rest fits
again empty v rest fits = refl
again (pair a b) v rest fits =
    let regrouped = append_assoc (spelling a v.0) (spelling b v.1) rest in
    ap (read_at (pair a b)) regrouped
    ∙ rw (again a v.0 (spelling b v.1 ++ rest) fits.0, again b v.1 rest fits.1) refl
again (array max a) v rest fits =
    let regrouped = append_assoc (number_spelling 4 (length v)) (flat_map (spelling a) v) rest in
    let small : ltb max (length v) ≡ false = le-ltb _ _ fits.1 in
    ap (read_at (array max a)) regrouped
    ∙ rw (number_again 4 (length v) (flat_map (spelling a) v ++ rest) (omega (arith, fits.0)), small)
    (items_again (read_at a) (spelling a) (Fits a) (again a) v rest fits.2)
again (choice known body) v rest fits =
    let regrouped = append_assoc (number_spelling 4 v.0) (spelling (body v.0) v.1) rest in
    ap (read_at (choice known body)) regrouped
    ∙ rw (
      number_again 4 v.0 (spelling (body v.0) v.1 ++ rest) (omega (arith, fits.0)),
      fits.1,
      again (body v.0) v.1 rest fits.2,
    ) refl
again (optional a) v rest fits = optional_again (read_at a) (spelling a) (Fits a) (again a) v rest fits
again (linked a) v rest fits =
    let long : length v < length (linked_spelling (spelling a) v ++ rest) =
    omega (arith, linked_long (spelling a) v, length-append (linked_spelling (spelling a) v) rest) in
    linked_again (read_at a) (spelling a) (Fits a) (again a) v
    (length (linked_spelling (spelling a) v ++ rest)) rest long fits
again (repeated count a) v rest fits =
    rw (← fits.0) (items_again (read_at a) (spelling a) (Fits a) (again a) v rest fits.1)
again (word_where test) n rest fits = tested_again 4 test n rest (omega (arith, fits.0)) fits.1
again (hyper_where test) n rest fits = tested_again 8 test n rest (omega (arith, fits.0)) fits.1

-- both: reading gives a value exactly where its spelling stands at the front
pub is_spelled : (a : Item) (v : Value a) (bytes rest : List ℕ) → IsBytes bytes
    → (read_at a bytes ≡ Ok (v, rest)) ↔ (Fits a v × (bytes ≡ spelling a v ++ rest))
is_spelled a v bytes rest bound = (
  (λ e. let t = takes a bytes (v, rest) bound e in (t.1, t.0.parts)),
  (λ h. ap (read_at a) h.1 ∙ again a v rest h.0),
)

-- two spellings that begin the same bytes are of one value
pub one_meaning : (a : Item) (v w : Value a) (x y : List ℕ) → Fits a v → Fits a w
    → spelling a v ++ x ≡ spelling a w ++ y → (v ≡ w) × (x ≡ y)
one_meaning a v w x y fits fits' e =
    let same : done (v, x) ≡ done (w, y) = sym (again a v x fits) ∙ ap (read_at a) e ∙ again a w y fits' in
    let both = ok_is (v, x) (w, y) same in
    (ap (λ (p : Value a × List ℕ). p.0) both, ap (λ (p : Value a × List ℕ). p.1) both)
