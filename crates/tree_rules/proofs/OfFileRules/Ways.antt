-- Each file has a path exactly where its place leads up to the first.
-- Serves: rules_make_a_tree, counts_are_of_the_tree.
use Rattle.std.proofs.Common.{◌≡◌, ◌≢◌, ⊎_elim, ℕ, zero, suc, ◌+◌, ◌-◌, ◌<◌, ◌≤◌, true, List, [], ◌∷◌, ◌++◌}
use Rattle.std.proofs.Common.{length, get_or, Option, Some, None, is_some, option_map, refl, sym, ap, subst}
use Rattle.std.proofs.Common.{◌∙◌, arith, length-append}
use Rattle.std.specs.Prelude.{slice_get}
use Rattle.std.proofs.lemmas.Bool.{cases_lt}
use Rattle.nfs_laws.specs.fs_spec.Paths.{path_at}
use Rattle.nfs_laws.specs.fs_spec.Files.{File, Files, file_at, is_directory, IsDirectory, directory_entries}
use Rattle.nfs_laws.specs.fs_spec.Files.{parent_of}
use Rattle.nfs_laws.specs.fs_spec.Files.{names_of}
use Rattle.nfs_laws.specs.fs_spec.Trees.{IsFileTree}
use Rattle.nfs_laws.proofs.fs_spec.Walks.{none_some, some_same, one_number, step_last, last_name, last_step}
use Rattle.nfs_laws.proofs.fs_spec.Reached.{distinct_in}
use Rattle.nfs_laws.proofs.fs_spec.Parents.{root_parent}
use Rattle.nfs_laws.proofs.fs_spec.OnePath as own
use Rattle.nfs_laws.proofs.OfTrees.Above.{path_length}
use Rattle.tree_rules.specs.FileRules.Climbs.{climbed}
use Rattle.tree_rules.specs.FileRules.Rules.{files_listed, IsAt, AreFiles, AreNamesCounted}
use Rattle.tree_rules.proofs.OfFileRules.Climbs.{climbed-add, climbed-first}
use Rattle.tree_rules.proofs.OfFileRules.Listed.{rises, names_listed, count_listed, file_of_place}
use Rattle.tree_rules.proofs.OfFileRules.Listed.{place_of_file, one_place}
use Rattle.tree_rules.proofs.OfFileRules.Listed.{number_in_range, is_file}
use Rattle.tree_rules.proofs.OfFileRules.ListedEntries.{entry_with_number}

module _ (fsid next : ℕ) (es : List (ℕ × File)) (each : AreFiles next es) (names above : List ℕ)
    (counts : AreNamesCounted es names above) where
  w : Files
  w = files_listed fsid next es

  -- a named place is in the directory above it
  named_in : (k n : ℕ) (f : File) → IsAt es k n f → 0 < get_or names k 0
      → (m : ℕ) × (g : File) × IsAt es (get_or above k 0) m g
      × ((name : List ℕ) × (c : ℕ) × (directory_entries (files_listed fsid next es) m name ≡ Some (n, c)))
  named_in k n f at some =
      let b = counts.named_by k n f at some in (
        b.0,
        b.1,
        b.2,
        entry_with_number (files_listed fsid next es) b.0 b.1
            (file_of_place fsid next es each.rising (get_or above k 0) b.0 b.1 b.2) n
            (distinct_in b.1.body (is_file next es each (get_or above k 0) b.0 b.1 b.2).body) b.3,
      )

  -- what leads up has a path
  pub path_up : ((n : ℕ) (f : File) → IsAt es 0 n f → n ≡ 1)
      → ((k n : ℕ) (f : File) → IsAt es k n f → 0 < k → 0 < get_or names k 0)
      → (steps k n : ℕ) (f : File) → IsAt es k n f → climbed above steps k ≡ 0
      → (p : List (List ℕ)) × (c : ℕ)
      × (path_at (directory_entries (files_listed fsid next es)) p ≡ Some (n, c))
  path_up first named zero k n f at h =
      ([], 0, ap (λ m. Some (m, 0)) (sym (first n f (subst (λ j. IsAt es j n f) h at))))
  path_up first named (suc steps) k n f at h = ⊎_elim
      (λ some.
      let b = named_in k n f at (named k n f at some) in
      let p = path_up first named steps (get_or above k 0) b.0 b.1 b.2 h in (
        p.0 ++ b.3.0 ∷ [],
        b.3.1,
        step_last (directory_entries (files_listed fsid next es)) p.0 b.3.0 b.0 p.1 p.2
            ∙ b.3.2,
      ))
      (λ none. let here : k ≡ 0 = omega arith in
      ([], 0, ap (λ m. Some (m, 0)) (sym (first n f (subst (λ j. IsAt es j n f) here at)))))
      (cases_lt 0 k)

at_zero : (es : List (ℕ × File)) (k n : ℕ) (f : File) → IsAt es k n f → (m : ℕ) × (g : File) × IsAt es 0 m g
at_zero [] k n f at = absurd (none_some at)
at_zero (e ∷ es) k n f at = (e.0, e.1, refl)

length_last : (q : List (List ℕ)) (x : List ℕ) → length (q ++ x ∷ []) ≡ suc (length q)
length_last q x = let l = length-append q (x ∷ []) in omega (arith, l)

-- ---- in a tree

module _ (fsid next : ℕ) (es : List (ℕ × File)) (each : AreFiles next es)
    (tree : IsFileTree (files_listed fsid next es)) where
  directory_file : (n : ℕ) (f : File) → file_at (files_listed fsid next es) n ≡ Some f
      → IsDirectory (files_listed fsid next es) n → is_directory f.body ≡ true
  directory_file n f there is =
      some_same (sym (ap (option_map (λ (f : File). is_directory f.body)) there) ∙ is)

  file_directory : (n : ℕ) (f : File) → file_at (files_listed fsid next es) n ≡ Some f
      → is_directory f.body ≡ true → IsDirectory (files_listed fsid next es) n
  file_directory n f there is =
      ap (option_map (λ (f : File). is_directory f.body)) there ∙ ap (λ b. Some b) is

  -- the root's place
  pub root_place : (f : File) × IsAt es 0 1 f × (is_directory f.body ≡ true)
  root_place = by (file_at (files_listed fsid next es) 1) refl
    where
      here : (f : File) → file_at (files_listed fsid next es) 1 ≡ Some f → IsAt es 0 1 f
      here f there =
          let p = place_of_file fsid next es each.rising 1 f there in
          ⊎_elim
          (λ later.
          let z = at_zero es p.0 1 f p.1 in
          let w = rises es each.rising 0 p.0 (z.0, z.1) (1, f) later z.2 p.1 in
          let v = number_in_range next es each 0 z.0 z.1 z.2 in
          absurd (omega (arith, w, v.0)))
          (λ le. let first : p.0 ≡ 0 = omega arith in subst (λ j. IsAt es j 1 f) first p.1)
          (cases_lt 0 p.0)

      by : (o : Option File) → file_at (files_listed fsid next es) 1 ≡ o
          → (f : File) × IsAt es 0 1 f × (is_directory f.body ≡ true)
      by None is =
          absurd (none_some (sym (ap (option_map (λ (f : File). is_directory f.body)) is) ∙ tree.tree.root))
      by (Some f) is = (f, here f is, directory_file 1 f is tree.tree.root)

  -- the number at the first place is the root's
  pub first_is_root : (n : ℕ) (f : File) → IsAt es 0 n f → n ≡ 1
  first_is_root n f at = ap (λ (e : ℕ × File). e.0) (some_same (sym at ∙ root_place.1))

  -- the number at a later place is not
  pub not_root : (k n : ℕ) (f : File) → IsAt es k n f → 0 < k → n ≢ 1
  not_root k n f at later e =
      let same = one_place fsid next es each.rising k 0 1 f root_place.0
      (subst (λ m. IsAt es k m f) e at) root_place.1 in
      absurd (omega (arith, same, later))

  module _ (names above : List ℕ) (counts : AreNamesCounted es names above) where
    names_are : (k n : ℕ) (f : File) → IsAt es k n f
        → get_or names k 0 ≡ names_of (files_listed fsid next es) n
    names_are k n f at = counts.counted k n f at ∙ sym (names_listed fsid next es each.rising n)

    later_named : (k n : ℕ) (f : File) → IsAt es k n f → 0 < k → 0 < get_or names k 0
    later_named k n f at later =
        let there = file_of_place fsid next es each.rising k n f at in
        let some = tree.named n (not_root k n f at later) (ap is_some there) in
        omega (arith, some, names_are k n f at)

    top : get_or above 0 0 ≡ 0
    top =
        let at = root_place.1 in
        counts.unnamed 0 1 root_place.0 at (names_are 0 1 root_place.0 at ∙ tree.root)

    at_root : (p : List (List ℕ)) (k n c : ℕ) (f : File) → IsAt es k n f
        → path_at (directory_entries (files_listed fsid next es)) p ≡ Some (n, c) → p ≡ []
        → climbed above (length p) k ≡ 0
    at_root p k n c f at h e =
        let root : n ≡ 1 = one_number n c 1 0 (sym h
        ∙ ap (path_at (directory_entries (files_listed fsid next es))) e) in
        ap (λ (q : List (List ℕ)). climbed above (length q) k) e
        ∙ one_place fsid next es each.rising k 0 1 f root_place.0
        (subst (λ m. IsAt es k m f) root at) root_place.1

    -- a directory's place leads up in as many steps as its path has names
    climbs : (m : ℕ) (p : List (List ℕ)) (k n c : ℕ) (f : File) → length p ≤ m → IsAt es k n f
        → IsDirectory (files_listed fsid next es) n
        → path_at (directory_entries (files_listed fsid next es)) p ≡ Some (n, c)
        → climbed above (length p) k ≡ 0
    climbs zero p k n c f le at is h = ⊎_elim
        (λ e. at_root p k n c f at h e)
        (λ l. absurd (omega (arith, le, ap length l.2, length-append l.0 (l.1 ∷ []))))
        (last_name p)
    climbs (suc m) p k n c f le at is h = ⊎_elim
        (λ e. at_root p k n c f at h e)
        (λ l.
        let s =
        last_step (directory_entries (files_listed fsid next es)) (1, 0) l.0 l.1 n c
        (sym (ap (path_at (directory_entries (files_listed fsid next es))) l.2) ∙ h) in
        let later : 0 < k = ⊎_elim
        (λ lt. lt)
        (λ none.
        let first : k ≡ 0 = omega arith in
        let root : n ≡ 1 = first_is_root n f (subst (λ j. IsAt es j n f) first at) in
        absurd (own.root_has_no_name (files_listed fsid next es) tree s.0 c l.1
        (s.3 ∙ ap (λ m. Some (m, c)) root)))
        (cases_lt 0 k) in
        let b = named_in fsid next es each names above counts k n f at (later_named k n f at later) in
        let same = own.one_entry (files_listed fsid next es) tree n s.0 b.0 c b.3.1 l.1 b.3.0 is s.3 b.3.2 in
        let long : length p ≡ suc (length l.0) = ap length l.2 ∙ length_last l.0 l.1 in
        let up =
        climbs m l.0 (get_or above k 0) b.0 s.1 b.1 (omega (arith, le, long)) b.2
        (tree.tree.lists b.0 b.3.0 n b.3.1 b.3.2) (s.2 ∙ ap (λ m. Some (m, s.1)) same.0) in
        ap (λ j. climbed above j k) long ∙ up)
        (last_name p)

    -- each place leads up in more steps than there are places
    pub leads : (steps k n : ℕ) (f : File) → length es < steps → IsAt es k n f → climbed above steps k ≡ 0
    leads steps k n f more at = ⊎_elim
        (λ later.
        let b = named_in fsid next es each names above counts k n f at (later_named k n f at later) in
        let is = tree.tree.lists b.0 b.3.0 n b.3.1 b.3.2 in
        let p = tree.tree.reached b.0 is in
        let short = path_length (files_listed fsid next es) tree p.0 b.0 p.1 is p.2 in
        let few = count_listed fsid next es each.rising in
        let up = climbs (length p.0) p.0 (get_or above k 0) b.0 p.1 b.1 (omega arith) b.2 is p.2 in
        let split : steps ≡ suc (length p.0 + (steps - 1 - length p.0)) = omega (arith, more, short, few) in
        ap (λ j. climbed above j k) split
        ∙ climbed-add above (length p.0) (steps - 1 - length p.0) (get_or above k 0)
        ∙ ap (climbed above (steps - 1 - length p.0)) up
        ∙ climbed-first above top (steps - 1 - length p.0))
        (λ none. let first : k ≡ 0 = omega arith in ap (climbed above steps) first
        ∙ climbed-first above top steps)
        (cases_lt 0 k)

    -- the directory above a directory stands at the place above it
    pub parent_above : (k n : ℕ) (f : File) → IsAt es k n f → 0 < k
        → IsDirectory (files_listed fsid next es) n
        → (m : ℕ) × (g : File) × IsAt es (get_or above k 0) m g
        × (parent_of (files_listed fsid next es) n ≡ m)
    parent_above k n f at later is =
        let b = named_in fsid next es each names above counts k n f at (later_named k n f at later) in
        (b.0, b.1, b.2, tree.tree.up b.0 b.3.0 n b.3.1 b.3.2 is)

    -- of the root that is the root
    pub directory_above : (k n : ℕ) (f : File) → IsAt es k n f → IsDirectory (files_listed fsid next es) n
        → (g : File) × IsAt es (get_or above k 0) (parent_of (files_listed fsid next es) n) g
    directory_above k n f at is = ⊎_elim
        (λ later. let p = parent_above k n f at later is in
        (p.1, subst (λ m. IsAt es (get_or above k 0) m p.1) (sym p.3) p.2))
        (λ none.
        let first : k ≡ 0 = omega arith in
        let root : n ≡ 1 = first_is_root n f (subst (λ j. IsAt es j n f) first at) in
        let r = root_place in (
          r.0,
          ap (slice_get es) (ap (λ j. get_or above j 0) first ∙ top) ∙ r.1
              ∙ ap (λ m. Some (m, r.0)) (sym (root_parent (files_listed fsid next es) n root)),
        ))
        (cases_lt 0 k)
