-- Changes of files that commute: of different numbers, and of different names of one directory.
-- Serves: an entry that moves in `InodeTable`.
use Rattle.std.proofs.Common.{◌≡◌, ◌≢◌, ⊎_elim, ℕ, ◌+◌, Bool, true, false, cond, List, [], ◌∷◌, ◌++◌, Option}
use Rattle.std.proofs.Common.{Some, None, option_map, nat_eq, refl, sym, ap, ◌∙◌}
use Rattle.std.specs.Map.{remove_entry}
use Rattle.std.specs.Cmp.Lexicographic.{pointwise, same_text}
use Rattle.std.proofs.lemmas.Bool.{cases_eq}
use Rattle.fs_spec.specs.nfs_items.Timeval.{Timeval}
use Rattle.fs_spec.specs.Listing.{Listing, with_entry, without_entry, HasDistinctNames}
use Rattle.fs_spec.specs.Files.{Body, Regular, Symlink, Directory, File, Files, file_at, listing_in}
use Rattle.fs_spec.specs.Files.{is_directory}
use Rattle.fs_spec.specs.Changes.Edits.{with_changed_file, without_file, with_name, without_name}
use Rattle.fs_spec.specs.Changes.Edits.{map_body_listing}
use Rattle.fs_spec.specs.Changes.Edits.{map_listing}
use Rattle.fs_spec.proofs.OfChanges.Finite.{changed_here, changed_other, gone_here, gone_other}
use Rattle.fs_spec.proofs.OfChanges.Listings.{name_other}
use Rattle.nfs_count_laws.specs.nfs_spec.Changes.{after_unlink, with_ctime}
use Rattle.nfs_count_laws.proofs.nfs_laws.OfChanges.DirectoryEntries.{with_without}
use Rattle.inode_table.proofs.OfEdits.EditedInodes.{same_files}

-- ---- listings

module _ {X : Type 0} (x y : List ℕ) (not : x ≢ y) where
  -- two names go in any order
  both_removed : (es : List (List ℕ × X))
      → remove_entry (pointwise nat_eq y) (remove_entry (pointwise nat_eq x) es)
      ≡ remove_entry (pointwise nat_eq x) (remove_entry (pointwise nat_eq y) es)
  both_removed [] = refl
  both_removed (e ∷ es) = by (pointwise nat_eq x e.0) (pointwise nat_eq y e.0) refl refl (both_removed es)
    where
      without : (z : List ℕ) (b : Bool) (t : List (List ℕ × X)) → pointwise nat_eq z e.0 ≡ b
          → remove_entry (pointwise nat_eq z) (e ∷ t) ≡ cond b t (e ∷ remove_entry (pointwise nat_eq z) t)
      without z b t is = ap (λ c. cond c t (e ∷ remove_entry (pointwise nat_eq z) t)) is

      by : (b c : Bool) → pointwise nat_eq x e.0 ≡ b → pointwise nat_eq y e.0 ≡ c
          → remove_entry (pointwise nat_eq y) (remove_entry (pointwise nat_eq x) es)
          ≡ remove_entry (pointwise nat_eq x) (remove_entry (pointwise nat_eq y) es)
          → remove_entry (pointwise nat_eq y) (remove_entry (pointwise nat_eq x) (e ∷ es))
          ≡ remove_entry (pointwise nat_eq x) (remove_entry (pointwise nat_eq y) (e ∷ es))
      by true true p q rest = absurd (not (same_text x e.0 (sym p) ∙ sym (same_text y e.0 (sym q))))
      by true false p q rest =
          ap (remove_entry (pointwise nat_eq y)) (without x true es p)
          ∙ sym (ap (remove_entry (pointwise nat_eq x)) (without y false es q)
          ∙ without x true (remove_entry (pointwise nat_eq y) es) p)
      by false true p q rest =
          ap (remove_entry (pointwise nat_eq y)) (without x false es p)
          ∙ without y true (remove_entry (pointwise nat_eq x) es) q
          ∙ sym (ap (remove_entry (pointwise nat_eq x)) (without y true es q))
      by false false p q rest =
          ap (remove_entry (pointwise nat_eq y)) (without x false es p)
          ∙ without y false (remove_entry (pointwise nat_eq x) es) q
          ∙ ap (λ t. e ∷ t) rest
          ∙ sym (ap (remove_entry (pointwise nat_eq x)) (without y false es q)
          ∙ without x false (remove_entry (pointwise nat_eq y) es) p)

  -- a name goes before an other entry comes last
  removed_before : (p : X) (es : List (List ℕ × X))
      → remove_entry (pointwise nat_eq y) (es ++ (x, p) ∷ [])
      ≡ remove_entry (pointwise nat_eq y) es ++ (x, p) ∷ []
  removed_before p [] = ap (λ b. cond b [] ((x, p) ∷ [])) (name_other y x (λ e. not (sym e)))
  removed_before p (e ∷ es) =
      elim (pointwise nat_eq y e.0) as (λ b. cond b (es ++ (x, p) ∷ [])
      (e ∷ remove_entry (pointwise nat_eq y) (es ++ (x, p) ∷ []))
      ≡ cond b es (e ∷ remove_entry (pointwise nat_eq y) es) ++ (x, p) ∷ []) [
        | true ↦ refl
        | false ↦ ap (λ t. e ∷ t) (removed_before p es)
      ]

-- a name goes before another comes
entries_swap : (x y : List ℕ) → x ≢ y → (n : ℕ) (l : Listing)
    → without_entry (with_entry l x n) y ≡ with_entry (without_entry l y) x n
entries_swap x y not n l =
    let same = removed_before x y not (n, l.next) (remove_entry (pointwise nat_eq x) l.entries)
    ∙ ap (λ es. es ++ (x, (n, l.next)) ∷ []) (both_removed x y not l.entries) in
    λ i. record { next = l.next + 1; entries = same i }

-- ---- changes of one file, and of two

-- two changes of one file are one
twice : (w : Files) (k : ℕ) (g h both : File → File) → ((f : File) → file_at w k ≡ Some f → h (g f) ≡ both f)
    → with_changed_file (with_changed_file w k g) k h ≡ with_changed_file w k both
twice w k g h both same =
    same_files (with_changed_file (with_changed_file w k g) k h) (with_changed_file w k both) refl refl
    (λ n. ⊎_elim
    (λ e. changed_here (with_changed_file w k g) k h n e ∙ ap (option_map h) (changed_here w k g k refl)
    ∙ at (file_at w k) refl ∙ sym (changed_here w k both n e))
    (λ ne. changed_other (with_changed_file w k g) k h n ne ∙ changed_other w k g n ne
    ∙ sym (changed_other w k both n ne))
    (cases_eq n k))
  where
    at : (o : Option File) → file_at w k ≡ o → option_map h (option_map g o) ≡ option_map both o
    at None e = refl
    at (Some f) e = ap (λ g. Some g) (same f e)

-- changes of two files are made in any order
pub swap : (w : Files) (j k : ℕ) (g h : File → File) → j ≢ k
    → with_changed_file (with_changed_file w j g) k h ≡ with_changed_file (with_changed_file w k h) j g
swap w j k g h not =
    same_files (with_changed_file (with_changed_file w j g) k h)
    (with_changed_file (with_changed_file w k h) j g) refl refl (λ n. ⊎_elim
    (λ e. changed_here (with_changed_file w j g) k h n e
    ∙ ap (option_map h) (changed_other w j g k (λ s. not (sym s)))
    ∙ sym (changed_other (with_changed_file w k h) j g n (λ s. not (sym s ∙ e)) ∙ changed_here w k h n e))
    (λ ne. changed_other (with_changed_file w j g) k h n ne ∙ ⊎_elim
    (λ e. changed_here w j g n e ∙ sym (changed_here (with_changed_file w k h) j g n e
    ∙ ap (option_map g) (changed_other w k h j not)))
    (λ nj. changed_other w j g n nj ∙ sym (changed_other (with_changed_file w k h) j g n nj
    ∙ changed_other w k h n ne))
    (cases_eq n j))
    (cases_eq n k))

-- a file goes before another changes
gone_swap : (w : Files) (j k : ℕ) (g : File → File) → j ≢ k
    → without_file (with_changed_file w j g) k ≡ with_changed_file (without_file w k) j g
gone_swap w j k g not =
    same_files (without_file (with_changed_file w j g) k)
    (with_changed_file (without_file w k) j g) refl refl (λ n. ⊎_elim
    (λ e. gone_here (with_changed_file w j g) k n e
    ∙ sym (changed_other (without_file w k) j g n (λ s. not (sym s ∙ e)) ∙ gone_here w k n e))
    (λ ne. gone_other (with_changed_file w j g) k n ne ∙ ⊎_elim
    (λ e. changed_here w j g n e ∙ sym (changed_here (without_file w k) j g n e
    ∙ ap (option_map g) (gone_other w k j not)))
    (λ nj. changed_other w j g n nj ∙ sym (changed_other (without_file w k) j g n nj ∙ gone_other w k n ne))
    (cases_eq n j))
    (cases_eq n k))

-- a file of another number stays where one loses a name, or goes
pub unlinked_other : (b : Bool) (now : Timeval) (w : Files) (t n : ℕ) → n ≢ t
    → file_at (after_unlink b now w t) n ≡ file_at w n
unlinked_other true now w t n ne = gone_other w t n ne
unlinked_other false now w t n ne = changed_other w t (with_ctime now) n ne

-- a file loses a name, or goes, before another changes
pub unlink_swap : (b : Bool) (now : Timeval) (w : Files) (j k : ℕ) (g : File → File) → j ≢ k
    → after_unlink b now (with_changed_file w j g) k ≡ with_changed_file (after_unlink b now w k) j g
unlink_swap true now w j k g not = gone_swap w j k g not
unlink_swap false now w j k g not = swap w j k g (with_ctime now) not

-- ---- names of directories

-- what lists other entries is of the kind that it was
pub relisted_kind : (change : Listing → Listing) (b : Body)
    → is_directory (map_body_listing change b) ≡ is_directory b
relisted_kind change (Regular bytes) = refl
relisted_kind change (Symlink target) = refl
relisted_kind change (Directory l) = refl

body_swap : (x y : List ℕ) → x ≢ y → (n : ℕ) (b : Body)
    → map_body_listing (λ l. without_entry l y) (map_body_listing (λ l. with_entry l x n) b)
    ≡ map_body_listing (λ l. with_entry l x n) (map_body_listing (λ l. without_entry l y) b)
body_swap x y not n (Regular bytes) = refl
body_swap x y not n (Symlink target) = refl
body_swap x y not n (Directory l) = ap (λ m. Directory m) (entries_swap x y not n l)

-- a name goes before another comes, in one directory or in two
pub name_swap : (w : Files) (from : ℕ) (y : List ℕ) (to : ℕ) (x : List ℕ) (n : ℕ) → (to ≡ from → x ≢ y)
    → without_name (with_name w to x n) from y ≡ with_name (without_name w from y) to x n
name_swap w from y to x n not =
    ⊎_elim one (λ ne. swap w to from (map_listing (λ l. with_entry l x n))
    (map_listing (λ l. without_entry l y)) ne) (cases_eq to from)
  where
    puts : File → File
    puts = map_listing (λ l. with_entry l x n)

    takes : File → File
    takes = map_listing (λ l. without_entry l y)

    one : to ≡ from → without_name (with_name w to x n) from y ≡ with_name (without_name w from y) to x n
    one e =
        ap (λ m. with_changed_file (with_changed_file w to puts) m takes) (sym e)
        ∙ twice w to puts takes (λ f. puts (takes f))
        (λ f is. ap (λ b. record f { body = b }) (body_swap x y (not e) n f.body))
        ∙ sym (twice w to takes puts (λ f. puts (takes f)) (λ f is. refl))
        ∙ ap (λ m. with_changed_file (with_changed_file w m takes) to puts) e

body_again : (x : List ℕ) (n : ℕ) (b : Body) → HasDistinctNames (listing_in b).entries
    → map_body_listing (λ l. with_entry l x n) (map_body_listing (λ l. without_entry l x) b)
    ≡ map_body_listing (λ l. with_entry l x n) b
body_again x n (Regular bytes) distinct = refl
body_again x n (Symlink target) distinct = refl
body_again x n (Directory l) distinct = ap (λ m. Directory m) (with_without l x n distinct)

-- an old entry of a name may as well go before a new one comes
pub name_again : (w : Files) (to : ℕ) (x : List ℕ) (n : ℕ)
    → ((f : File) → file_at w to ≡ Some f → HasDistinctNames (listing_in f.body).entries)
    → with_name (without_name w to x) to x n ≡ with_name w to x n
name_again w to x n distinct =
    twice w to (map_listing (λ l. without_entry l x)) (map_listing (λ l. with_entry l x n))
    (map_listing (λ l. with_entry l x n))
    (λ f is. ap (λ b. record f { body = b }) (body_again x n f.body (distinct f is)))
