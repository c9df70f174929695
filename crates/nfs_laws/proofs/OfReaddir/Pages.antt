-- READDIR's pages give each entry once, in order.
-- Serves: pages_give_each_entry_once, readdir_gives_the_listing_once (readdir).
use Rattle.std.proofs.Common.{◌≡◌, ℕ, ◌+◌, ◌-◌, ◌<◌, ◌≤◌, Bool, true, false, cond, List, [], ◌∷◌, ◌++◌}
use Rattle.std.proofs.Common.{length, map, min, leb, ltb, refl, sym, ap, ◌∙◌, arith, append_assoc}
use Rattle.std.proofs.Common.{length-append}
use Rattle.std.specs.Prelude.{◌↔◌}
use Rattle.std.proofs.lemmas.Bool.{ltb-true, ltb-false, lt-ltb, le-ltb, leb-true, leb-false, eqb-true, eq-eqb}
use Rattle.std.proofs.lemmas.Bool.{cond-true, cond-false}
use Rattle.std.proofs.lemmas.List.Sums.{sum_by-cons}
use Rattle.nfs_spec.specs.fs_spec.Listing.{Listing, IsRising}
use Rattle.nfs_spec.specs.fs_spec.Files.{Files}
use Rattle.nfs_spec.specs.nfs_types.Calls.{PageEntry}
use Rattle.nfs_spec.specs.Readdir.{cost, longest_front, page_of, dir_entries}
use Rattle.nfs_laws.specs.Readdir.Pages.{last_cookie, pages, entries_above, RisesAbove, IsLongestFront}

list_head : {A : Type 0} {x y : A} {xs ys : List A} → x ∷ xs ≡ y ∷ ys → x ≡ y
list_head h = cc

list_tail : {A : Type 0} {x y : A} {xs ys : List A} → x ∷ xs ≡ y ∷ ys → xs ≡ ys
list_tail h = cc

no_cons : {A : Type 0} {x : A} {xs : List A} → [] ≡ x ∷ xs → ⊥
no_cons h = cc

-- a page is the longest front that fits
pub longest : (count : ℕ) (es : List PageEntry) → IsLongestFront count es (longest_front count es)
longest count [] =
    record { rest = []; splits = refl; fits = omega arith; longest = λ e more h. absurd (no_cons h) }
longest count (e ∷ es) = by (leb (cost e) count) refl (longest (count - cost e) es)
  where
    by : (b : Bool) → leb (cost e) count ≡ b
        → IsLongestFront (count - cost e) es (longest_front (count - cost e) es)
        → IsLongestFront count (e ∷ es) (cond b (e ∷ longest_front (count - cost e) es) [])
    by true is next = record {
      rest = next.rest;
      splits = ap (λ l. e ∷ l) next.splits;
      fits = omega (
        arith,
        sum_by-cons cost e (longest_front (count - cost e) es),
        next.fits,
        leb-true (cost e) count is,
      );
      longest = λ f more h. omega (
        arith,
        sum_by-cons cost e (longest_front (count - cost e) es),
        next.longest f more h,
        leb-true (cost e) count is,
      );
    }
    by false is next = record {
      rest = e ∷ es;
      splits = refl;
      fits = omega arith;
      longest = λ f more h. let same = ap cost (list_head h) in
          omega (arith, same, leb-false (cost e) count is);
    }

-- all are above what the first is above
pub all_above : (c low : ℕ) (es : List PageEntry) → c ≤ low → RisesAbove low es → entries_above c es ≡ es
all_above c low [] le up = refl
all_above c low (e ∷ es) le up =
    cond-true _ _ _ (lt-ltb c e.cookie (omega (arith, le, up.0)))
    ∙ ap (λ l. e ∷ l) (all_above c e.cookie es (omega (arith, le, up.0)) up.1)

first_above : (c : ℕ) (es : List PageEntry) (e : PageEntry) (more : List PageEntry)
    → entries_above c es ≡ e ∷ more → c < e.cookie
first_above c [] e more h = absurd (no_cons h)
first_above c (g ∷ gs) e more h =
    elim (ltb c g.cookie) as (λ b. ltb c g.cookie ≡ b
    → cond b (g ∷ entries_above c gs) (entries_above c gs) ≡ e ∷ more → c < e.cookie) [
      | true ↦ λ is k. let same = ap (λ (x : PageEntry). x.cookie) (list_head k) in
          omega (arith, same, ltb-true c g.cookie is)
      | false ↦ λ is k. first_above c gs e more k
    ] refl h

-- above the first that is above are the others that are
next_above : (low c : ℕ) (es : List PageEntry) → RisesAbove low es → (e : PageEntry) (more : List PageEntry)
    → entries_above c es ≡ e ∷ more → entries_above e.cookie es ≡ more
next_above low c [] up e more h = absurd (no_cons h)
next_above low c (g ∷ gs) up e more h =
    elim (ltb c g.cookie) as (λ b. ltb c g.cookie ≡ b
    → cond b (g ∷ entries_above c gs) (entries_above c gs) ≡ e ∷ more
    → entries_above e.cookie (g ∷ gs) ≡ more) [
      | true ↦ λ is k.
          let same : g.cookie ≡ e.cookie = ap (λ (x : PageEntry). x.cookie) (list_head k) in
          let above = ltb-true c g.cookie is in
          cond-false _ _ _ (le-ltb e.cookie g.cookie (omega (arith, same)))
          ∙ all_above e.cookie g.cookie gs (omega (arith, same)) up.1
          ∙ sym (all_above c g.cookie gs (omega (arith, above)) up.1) ∙ list_tail k
      | false ↦ λ is k.
          let later = first_above c gs e more k in
          let below = ltb-false c g.cookie is in
          cond-false _ _ _ (le-ltb e.cookie g.cookie (omega (arith, later, below)))
          ∙ next_above g.cookie c gs up.1 e more k
    ] refl h

-- what is after a front is above its last cookie
behind : (low : ℕ) (es : List PageEntry) → RisesAbove low es → (c : ℕ) (some rest : List PageEntry)
    → entries_above c es ≡ some ++ rest → entries_above (last_cookie c some) es ≡ rest
behind low es up c [] rest h = h
behind low es up c (e ∷ some) rest h =
    behind low es up e.cookie some rest (next_above low c es up e (some ++ rest) h)

-- the last cookie of two lists, one after the other
pub last-append : (c : ℕ) (some rest : List PageEntry)
    → last_cookie c (some ++ rest) ≡ last_cookie (last_cookie c some) rest
last-append c [] rest = refl
last-append c (e ∷ some) rest = last-append e.cookie some rest

-- a page, and then what is above its last cookie
one_page : (low : ℕ) (es : List PageEntry) → RisesAbove low es → (c count : ℕ)
    → entries_above c es ≡ (page_of c count es).entries
    ++ entries_above (last_cookie c (page_of c count es).entries) es
one_page low es up c count =
    let l = longest (min count 8192) (entries_above c es) in
    l.splits ∙ ap (λ r. (page_of c count es).entries ++ r)
    (sym (behind low es up c (page_of c count es).entries l.rest l.splits))

-- pages give each entry once, in order
pub each_once : (low : ℕ) (es : List PageEntry) → RisesAbove low es → (counts : List ℕ) (c : ℕ)
    → entries_above c es ≡ pages counts c es ++ entries_above (last_cookie c (pages counts c es)) es
each_once low es up [] c = refl
each_once low es up (count ∷ counts) c =
    let p = (page_of c count es).entries in
    let d = last_cookie c p in
    one_page low es up c count ∙ ap (λ r. p ++ r) (each_once low es up counts d)
    ∙ ap (λ n. p ++ (pages counts d es ++ entries_above n es)) (sym (last-append c p (pages counts d es)))
    ∙ sym (append_assoc p (pages counts d es) _)

no_length : {A : Type 0} (xs : List A) → length xs ≡ 0 → xs ≡ []
no_length [] h = refl
no_length (x ∷ xs) h = absurd (omega arith)

-- eof is that none is above the last cookie
pub eof_is : (low : ℕ) (es : List PageEntry) → RisesAbove low es → (c count : ℕ)
    → ((page_of c count es).eof ≡ true) ↔ (entries_above (last_cookie c (page_of c count es).entries) es ≡ [])
eof_is low es up c count =
    let p = (page_of c count es).entries in
    let rest = entries_above (last_cookie c p) es in
    let whole = ap length (one_page low es up c count) ∙ length-append p rest in (
      λ h. let same = eqb-true (length p) (length (entries_above c es)) h in
          no_length rest (omega (arith, whole, same)),
      λ h. let none = ap length h in
          eq-eqb (length p) (length (entries_above c es)) (omega (arith, whole, none)),
    )

-- a directory's cookies rise
rises : (low : ℕ) (es : List (List ℕ × (ℕ × ℕ))) (high c : ℕ) → c < low → IsRising low es high
    → RisesAbove c (map (λ (e : List ℕ × (ℕ × ℕ)). record { fileid = e.1.0; name = e.0; cookie = e.1.1 }) es)
rises low [] high c lt up = tt
rises low (e ∷ es) high c lt up = (omega (arith, up.0), rises (e.1.1 + 1) es high e.1.1 (omega arith) up.1)

-- the cookies of a listing rise from 1
pub listed_rises : (w : Files) (dir : ℕ) (l : Listing) → IsRising 3 l.entries l.next
    → RisesAbove 0 (dir_entries w dir l)
listed_rises w dir l up = (omega arith, (omega arith, rises 3 l.entries l.next 2 (omega arith) up))
