-- What the going of a name does to nlinks, and which name is the last.
-- Serves: unlinking_counts_one_name_less here, and Moving.
use Rattle.std.proofs.Common.{◌≡◌, ◌≢◌, ⊎_elim, ℕ, ◌+◌, Bool, true, false, cond, List, [], Option, Some, None}
use Rattle.std.proofs.Common.{IsSome, is_some, nat_eq, eqb, option_map, option_and_then, refl, sym, ap, subst}
use Rattle.std.proofs.Common.{◌∙◌, arith, eq-eqb, ne_eqb}
use Rattle.std.specs.Prelude.{◌||◌}
use Rattle.std.specs.Map.{lookup}
use Rattle.std.specs.Cmp.Lexicographic.{pointwise}
use Rattle.std.proofs.lemmas.Bool.{cases_eq, eqb-true, or_parts}
use Rattle.nfs_items.specs.Timeval.{Timeval}
use Rattle.nfs_laws.specs.fs_spec.Listing.{entry_at}
use Rattle.nfs_laws.specs.fs_spec.Files.{File, Files, file_at, listing_in, is_directory, directory_entries}
use Rattle.nfs_laws.specs.fs_spec.Files.{names_of}
use Rattle.nfs_laws.specs.fs_spec.Trees.{IsFileTree}
use Rattle.nfs_laws.proofs.fs_spec.Walks.{none_some}
use Rattle.nfs_laws.proofs.fs_spec.OnePath.{root_has_no_name}
use Rattle.nfs_laws.specs.fs_spec.Changes.Edits.{without_file, without_name}
use Rattle.nfs_laws.specs.fs_spec.Changes.Limits.{blocks_in, entry_count, block_count}
use Rattle.nfs_laws.proofs.fs_spec.OfChanges.Finite.{changed_other}
use Rattle.nfs_laws.proofs.fs_spec.OfChanges.Listings.{one, one_same, one_other}
use Rattle.nfs_laws.proofs.fs_spec.OfChanges.Shapes.{kind, gone_shape}
use Rattle.nfs_laws.specs.nfs_spec.Changes.{unlink, after_unlink}
use Rattle.nfs_laws.proofs.OfTrees.FilesFit.{dir_file, distinct_names, mark_shape}
use Rattle.nfs_laws.proofs.fs_spec.OfEditedTrees.Taking.{nothing_there}
use Rattle.nfs_count_laws.specs.CountChanges.{is_last_name, CountsUnlinked}
use Rattle.nfs_count_laws.specs.Links.Links.{link_count}
use Rattle.nfs_count_laws.proofs.OfLinks.LinkCounts.{marked_alike, HasEntryMore, more_links, unnamed_less}
use Rattle.nfs_count_laws.proofs.OfLinks.LinkCounts.{gone_others, gone_entries, gone_blocks, plain_links}

-- files that a name went from, and the file with it where the name was its last
pub record IsUnlinked (w w' : Files) (d n : ℕ) (f : File) (last : Bool) : Type 0 where
  -- the number isn't the directory's own
  pub apart : n ≢ d
  -- with its last name the file is gone
  pub gone : last ≡ true → kind w' n ≡ None
  -- with names left, its nlink counts this one no more; a directory's name counts in the one that names it
  pub own : last ≡ false → link_count w' n + one n (cond (is_directory f.body) d n) ≡ link_count w n
  -- so of the others only a directory in which a directory was named has an nlink of one less
  pub others : (m : ℕ) → m ≢ n → link_count w' m + one m (cond (is_directory f.body) d n) ≡ link_count w m
  -- what is still there keeps its kind
  pub kinds : (m : ℕ) → IsSome (kind w' m) → kind w' m ≡ kind w m
  -- one entry less of all directories
  pub entries : entry_count w' + 1 ≡ entry_count w
  -- with its last name the file's blocks are free
  pub blocks : block_count w' + cond last (blocks_in f.body) 0 ≡ block_count w

module _ (w : Files) (tree : IsFileTree w) (d : ℕ) (x : List ℕ) (n c : ℕ)
    (had : directory_entries w d x ≡ Some (n, c)) (f : File) (there : file_at w n ≡ Some f)
    (empty : (listing_in f.body).entries ≡ []) where
  left : Files
  left = without_name w d x

  lists_nothing : directory_entries w n x ≡ None
  lists_nothing = ap (option_and_then (λ f. entry_at (listing_in f.body) x)) there
      ∙ ap (λ (es : List (List ℕ × (ℕ × ℕ))). lookup (pointwise nat_eq x) es) empty

  not_above : n ≢ d
  not_above e = none_some (sym lists_nothing ∙ ap (λ m. directory_entries w m x) e ∙ had)

  own_kind : kind w n ≡ Some (is_directory f.body)
  own_kind = ap (option_map (λ f. is_directory f.body)) there

  less : HasEntryMore left w d n (is_directory f.body)
  unfolding left
  less =
      let df = dir_file w d (tree.tree.lists d x n c had) in
      unnamed_less w d n x (is_directory f.body) df.0 df.1 df.2
      (distinct_names w d df.0 tree.files df.1) own_kind c had

  there_left : file_at left n ≡ Some f
  unfolding left
  there_left = changed_other w d _ n not_above ∙ there

  one_left : names_of w n ≡ names_of left n + 1
  one_left = let own = one_same n n refl in omega (arith, less.names n, own)

  -- which name is the last is told by the nlink
  pub last_by_links : eqb (names_of (without_name w d x) n) 0 ≡ is_last_name f.body (link_count w n)
  unfolding left
  last_by_links = by (is_directory f.body) refl
    where
      by : (b : Bool) → is_directory f.body ≡ b → eqb (names_of left n) 0 ≡ (b || eqb (link_count w n) 1)
      by true e =
          let not_root : n ≢ 1 = λ r. root_has_no_name w tree d c x (had ∙ ap (λ m. Some (m, c)) r) in
          let one_name = tree.directories n not_root (own_kind ∙ ap (λ b. Some b) e) in
          eq-eqb (names_of left n) 0 (omega (arith, one_left, one_name))
      by false e =
          let plain = plain_links w n f there e in
          ⊎_elim
          (λ none. eq-eqb (names_of left n) 0 none
          ∙ sym (eq-eqb (link_count w n) 1 (omega (arith, plain, one_left, none))))
          (λ some. ne_eqb (names_of left n) 0 some
          ∙ sym (ne_eqb (link_count w n) 1 (λ one. some (omega (arith, plain, one_left, one)))))
          (cases_eq (names_of left n) 0)

  links_left : (m : ℕ) → link_count left m + one m (cond (is_directory f.body) d n) ≡ link_count w m
  links_left m = sym (more_links left w d n (is_directory f.body) less m)

  -- a name goes, and with the last one the file
  pub unlinks : (now : Timeval)
      → IsUnlinked w (unlink now w d x n) d n f (is_last_name f.body (link_count w n))
  unfolding left
  unlinks now =
      subst (λ b. IsUnlinked w (unlink now w d x n) d n f b) last_by_links (by (eqb (names_of left n) 0) refl)
    where
      by : (b : Bool) → eqb (names_of left n) 0 ≡ b → IsUnlinked w (after_unlink b now left n) d n f b
      by true e =
          let none = eqb-true (names_of left n) 0 e in
          let shape = gone_shape left n f there_left empty in
          record {
            apart = not_above;
            gone = λ _. shape.gone;
            own = λ h. absurd cc;
            others = λ m ne. let kept = gone_others left n f there_left none empty m ne in
                omega (arith, kept, links_left m);
            kinds = λ m is. ⊎_elim
                (λ same. absurd (nothing_there (kind (without_file left n) m)
                (ap (kind (without_file left n)) same ∙ shape.gone) is))
                (λ ne. shape.kinds m ne ∙ sym (less.kinds m))
                (cases_eq m n);
            entries = omega (arith, gone_entries left n f there_left none empty, less.entries);
            blocks = omega (arith, gone_blocks left n f there_left none empty, less.blocks);
          }
      by false e =
          let alike = marked_alike now left n in
          record {
            apart = not_above;
            gone = λ h. absurd cc;
            own = λ _. omega (arith, alike.links n, links_left n);
            others = λ m ne. omega (arith, alike.links m, links_left m);
            kinds = λ m is. (mark_shape now left n).kinds m ∙ sym (less.kinds m);
            entries = omega (arith, alike.entries, less.entries);
            blocks = omega (arith, alike.blocks, less.blocks);
          }

-- links that are kept as a name goes
pub unlinked_links : (w w' : Files) (d n : ℕ) (f : File) (links links' : ℕ → ℕ)
    → IsUnlinked w w' d n f (is_last_name f.body (link_count w n)) → links n ≡ link_count w n
    → CountsUnlinked d n f.body links links'
    → ((m : ℕ) → IsSome (kind w m) → links m ≡ link_count w m)
    → (m : ℕ) → IsSome (kind w' m) → links' m ≡ link_count w' m
unlinked_links w w' d n f links links' u own counts kept m is = ⊎_elim
    (λ e. ap links' e ∙ left (is_last_name f.body (link_count w n)) refl
    (subst (λ i. IsSome (kind w' i)) e is) ∙ sym (ap (link_count w') e))
    (λ not.
    let was = kept m (sym (ap is_some (u.kinds m is)) ∙ is) in
    ⊎_elim
    (λ e.
    let here = ap links' e in
    let before = ap links e in
    let one_here : one m (cond (is_directory f.body) d n) ≡ cond (is_directory f.body) 1 0 =
    ap (λ i. one i (cond (is_directory f.body) d n)) e ∙ in_directory (is_directory f.body) in
    omega (arith, here, before, counts.directory, u.others m not, was, one_here))
    (λ ne. omega (
      arith,
      counts.others m not ne,
      u.others m not,
      was,
      elsewhere (is_directory f.body) m not ne,
    ))
    (cases_eq m d))
    (cases_eq m n)
  where
    in_directory : (b : Bool) → one d (cond b d n) ≡ cond b 1 0
    in_directory true = one_same d d refl
    in_directory false = one_other d n (λ e. u.apart (sym e))

    elsewhere : (b : Bool) (m : ℕ) → m ≢ n → m ≢ d → one m (cond b d n) ≡ 0
    elsewhere true m not ne = one_other m d ne
    elsewhere false m not ne = one_other m n not

    left : (b : Bool) → is_last_name f.body (link_count w n) ≡ b → IsSome (kind w' n)
        → links' n ≡ link_count w' n
    left true e is = absurd (nothing_there (kind w' n) (u.gone e) is)
    left false e is =
        let plain : one n (cond (is_directory f.body) d n) ≡ 1 =
        ap (λ b. one n (cond b d n)) (or_parts (is_directory f.body) (eqb (link_count w n) 1) e).0
        ∙ one_same n n refl in
        let less = counts.own (ap (is_last_name f.body) own ∙ e) in
        omega (arith, less, own, u.own e, plain)
