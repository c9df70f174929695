-- READDIR's calls, each from the last cookie of the one before, give the whole listing once, in order, up to
-- eof.
-- Serves: readdir_gives_the_listing_once (readdir).
use Rattle.std.proofs.Common.{◌≡◌, ℕ, true, List, [], ◌∷◌, ◌++◌, Option, Some, None, Result, Ok, refl, sym}
use Rattle.std.proofs.Common.{ap, subst, ◌∙◌, arith, append_assoc, append-nil}
use Rattle.std.proofs.lemmas.Bool.{cond-true}
use Rattle.nfs_spec.specs.nfs_items.Timeval.{Timeval}
use Rattle.nfs_spec.specs.nfs_items.Caller.{Caller}
use Rattle.nfs_spec.specs.nfs_items.Handle.{FileHandle}
use Rattle.nfs_spec.specs.nfs_items.declared.stat.Stat.{Stat}
use Rattle.nfs_spec.specs.nfs_items.declared.stat.Stat.TheVariants as stats
use Rattle.nfs_spec.specs.fs_spec.Listing.{Listing, IsRising}
use Rattle.nfs_spec.specs.fs_spec.Files.{Body, Regular, Symlink, Directory, File, Files, file_at}
use Rattle.nfs_spec.specs.fs_spec.Trees.{IsBody, IsFileTree}
use Rattle.nfs_spec.specs.ProcedureChecks.{◌>>=◌, NumberedDir, ok_or, listing_or, dir_of, may_read, check}
use Rattle.nfs_spec.specs.nfs_types.Calls.{PageEntry, Page}
use Rattle.nfs_spec.specs.Readdir.{dir_entries, page_of}
use Rattle.nfs_laws.specs.Readdir.Pages.{last_cookie, pages, entries_above, RisesAbove}
use Rattle.nfs_spec.specs.NfsCalls.{number_for}
use Rattle.nfs_laws.specs.Readdir.ReaddirCalls.{Lists, page_or_none, readdir_page, readdir_gives}
use Rattle.nfs_laws.proofs.OfReaddir.Pages.{all_above, each_once, eof_is, last-append, listed_rises}

ok_is : {A : Type 0} {a b : A} → ◌≡◌ {A = Result A Stat} (Ok a) (Ok b) → a ≡ b
ok_is h = cc

-- a directory of a tree lists rising cookies
dir_rises : (w : Files) → IsFileTree w → (n : ℕ) (d : NumberedDir) → dir_of w n ≡ Ok d
    → IsRising 3 d.listing.entries d.listing.next
dir_rises w tree n d = by (file_at w n) (λ f is. (tree.files n f is).body)
  where
    of_body : (f : File) (b : Body) → IsBody b
        → (listing_or stats.NotDir b >>= (λ l. Ok (record { number = n; file = f; listing = l }))) ≡ Ok d
        → IsRising 3 d.listing.entries d.listing.next
    of_body f (Regular bytes) fits h = absurd cc
    of_body f (Symlink target) fits h = absurd cc
    of_body f (Directory l) fits h =
        subst (λ (m : Listing). IsRising 3 m.entries m.next)
        (ap (λ (e : NumberedDir). e.listing) (ok_is h)) fits.0

    by : (o : Option File) → ((f : File) → o ≡ Some f → IsBody f.body)
        → (ok_or stats.Stale o >>= (λ f. listing_or stats.NotDir f.body
        >>= (λ l. Ok (record { number = n; file = f; listing = l })))) ≡ Ok d
        → IsRising 3 d.listing.entries d.listing.next
    by None fits h = absurd cc
    by (Some f) fits h = of_body f f.body (fits f refl) h

module _ (w : Files) (who : Caller) (now : Timeval) (handle : FileHandle) (es : List PageEntry)
    (tree : IsFileTree w) (lists : Lists w who handle es) where
  rises : RisesAbove 0 es
  rises = subst (RisesAbove 0) (sym lists.is)
      (listed_rises w (number_for w handle) lists.dir.listing
      (dir_rises w tree (number_for w handle) lists.dir lists.there))

  -- a call gives the page of the listing
  page_is : (cookie count : ℕ) → readdir_page w who now handle cookie count ≡ page_of cookie count es
  page_is cookie count =
      let n = number_for w handle in
      ap (λ r. page_or_none (r >>= (λ d. check (may_read who d.file) stats.Acces
      >>= (λ _. Ok (page_of cookie count (dir_entries w n d.listing)))))) lists.there
      ∙ ap (λ r. page_or_none (r >>= (λ (_ : Unit {0}). Ok
      (page_of cookie count (dir_entries w n lists.dir.listing))))) (cond-true _ _ _ lists.permitted)
      ∙ ap (page_of cookie count) (sym lists.is)

  -- calls give pages one after the other
  gives : (counts : List ℕ) (cookie : ℕ)
      → readdir_gives w who now handle cookie counts ≡ pages counts cookie es
  gives [] cookie = refl
  gives (count ∷ counts) cookie =
      ap (λ (p : Page). p.entries ++ readdir_gives w who now handle (last_cookie cookie p.entries) counts)
      (page_is cookie count)
      ∙ ap (λ r. (page_of cookie count es).entries ++ r)
      (gives counts (last_cookie cookie (page_of cookie count es).entries))

  -- what they give stands at the front, and what is left is above the last cookie
  pub gives_front : (counts : List ℕ)
      → es ≡ readdir_gives w who now handle 0 counts
      ++ entries_above (last_cookie 0 (readdir_gives w who now handle 0 counts)) es
  gives_front counts =
      sym (all_above 0 0 es (omega arith) rises) ∙ each_once 0 es rises counts 0
      ∙ ap (λ given. given ++ entries_above (last_cookie 0 given) es) (sym (gives counts 0))

  -- one call more gives its page after them
  one_more : (counts : List ℕ) (cookie count : ℕ)
      → pages (counts ++ count ∷ []) cookie es
      ≡ pages counts cookie es ++ (page_of (last_cookie cookie (pages counts cookie es)) count es).entries
  one_more [] cookie count = append-nil _
  one_more (first ∷ counts) cookie count =
      let p = (page_of cookie first es).entries in
      let next = last_cookie cookie p in
      ap (λ r. p ++ r) (one_more counts next count)
      ∙ ap (λ c. p ++ (pages counts next es ++ (page_of c count es).entries))
      (sym (last-append cookie p (pages counts next es)))
      ∙ sym (append_assoc p (pages counts next es) _)

  -- with a call that answers eof they give the whole
  pub gives_whole : (counts : List ℕ) (count : ℕ)
      → (readdir_page w who now handle (last_cookie 0 (readdir_gives w who now handle 0 counts)) count).eof
      ≡ true
      → readdir_gives w who now handle 0 (counts ++ count ∷ []) ≡ es
  gives_whole counts count eof =
      let given = pages counts 0 es in
      let c = last_cookie 0 given in
      let page = page_of c count es in
      let all = pages (counts ++ count ∷ []) 0 es in
      let end : page.eof ≡ true = ap (λ (p : Page). p.eof) (sym (page_is c count))
      ∙ ap (λ g. (readdir_page w who now handle (last_cookie 0 g) count).eof) (sym (gives counts 0))
      ∙ eof in
      let none : entries_above (last_cookie c page.entries) es ≡ [] = (eof_is 0 es rises c count).0 end in
      let last : last_cookie 0 all ≡ last_cookie c page.entries =
      ap (last_cookie 0) (one_more counts 0 count) ∙ last-append 0 given page.entries in
      gives (counts ++ count ∷ []) 0
      ∙ sym (sym (all_above 0 0 es (omega arith) rises) ∙ each_once 0 es rises (counts ++ count ∷ []) 0
      ∙ ap (λ k. all ++ entries_above k es) last ∙ ap (λ r. all ++ r) none ∙ append-nil all)
