-- The rules, place by place, are that the files are a tree.
-- Serves: rules_make_a_tree, trees_are_of_files.
use Rattle.std.proofs.Common.{◌≡◌, ◌≢◌, ⊎_elim, ℕ, ◌<◌, ◌≤◌, Bool, true, false, cond, not, List, length}
use Rattle.std.proofs.Common.{get_or, Option, Some, None, IsSome, is_some, option_map, refl, sym, ap, subst}
use Rattle.std.proofs.Common.{◌∙◌, arith, eqb, ltb, eqb-true, eq-eqb, ne_eqb, ltb-true, lt-ltb}
use Rattle.std.specs.Prelude.{IsTrue, slice_get}
use Rattle.std.proofs.lemmas.Bool.{cases_lt}
use Rattle.std.proofs.lemmas.Option.{slice_get-get_or}
use Rattle.std.proofs.lemmas.Bool.{false≢true}
use Rattle.nfs_laws.specs.fs_spec.Names.{is_name}
use Rattle.nfs_laws.specs.fs_spec.Files.{File, Files, file_at, listing_in, is_directory, directory_entries}
use Rattle.nfs_laws.specs.fs_spec.Files.{names_of}
use Rattle.nfs_laws.specs.fs_spec.Trees.{IsFileTree}
use Rattle.nfs_laws.proofs.fs_spec.Walks.{none_some, some_same}
use Rattle.nfs_laws.proofs.fs_spec.Counts.{listed_in}
use Rattle.nfs_laws.proofs.fs_spec.Reached.{distinct_in}
use Rattle.nfs_laws.proofs.fs_spec.OfChanges.Shapes.{kind, is_some-kind}
use Rattle.nfs_laws.proofs.fs_spec.OfEditedTrees.Building.{built}
use Rattle.tree_rules.specs.FileRules.Rules.{files_listed, IsAt, AreRising, AreNames, AreFiles, numbers_of}
use Rattle.tree_rules.specs.FileRules.Rules.{AreNamesCounted, may_have, StandsIn, AreKnown, HaveNames, LeadUp}
use Rattle.tree_rules.proofs.OfFileRules.Listed.{names_listed, file_of_place, place_of_file, number_in_range}
use Rattle.tree_rules.proofs.OfFileRules.Listed.{is_file}
use Rattle.tree_rules.proofs.OfFileRules.Listed.{are_names}
use Rattle.tree_rules.proofs.OfFileRules.ListedEntries.{number_of_entry, name_of_entry, entry_in_order}
use Rattle.tree_rules.proofs.OfFileRules.Ways.{path_up, root_place, not_root, leads}

-- ---- what a place may have

-- the first place, with names as it may have, is a directory without a name
pub may_root : (b : Bool) (m : ℕ) → may_have 0 b m ≡ true → (b ≡ true) × (m ≡ 0)
may_root true m h = (refl, eqb-true m 0 h)
may_root false m h = absurd (false≢true h)

-- a later place, with names as it may have, has one at least, and a directory exactly one
pub may_later : (k : ℕ) (b : Bool) (m : ℕ) → 0 < k → may_have k b m ≡ true → (0 < m) × (b ≡ true → m ≡ 1)
may_later k true m later h =
    let other : eqb k 0 ≡ false = ne_eqb k 0 (λ e. absurd (omega (arith, e, later))) in
    let one : m ≡ 1 = eqb-true m 1 (sym (ap (λ c. cond c (eqb m 0) (eqb m 1)) other) ∙ h) in
    (omega (arith, one), λ _. one)
may_later k false m later h =
    let other : eqb k 0 ≡ false = ne_eqb k 0 (λ e. absurd (omega (arith, e, later))) in
    (ltb-true 0 m (sym (ap (λ c. cond c false (ltb 0 m)) other) ∙ h), λ e. absurd (false≢true e))

-- a directory without a name may be first
pub root_may : (b : Bool) (m : ℕ) → b ≡ true → m ≡ 0 → may_have 0 b m ≡ true
root_may true m e h = eq-eqb m 0 h
root_may false m e h = absurd (false≢true e)

-- a later place may have one name and more, a directory one
pub later_may : (k : ℕ) (b : Bool) (m : ℕ) → 0 < k → 0 < m → (b ≡ true → m ≡ 1) → may_have k b m ≡ true
later_may k true m later some one =
    let other : eqb k 0 ≡ false = ne_eqb k 0 (λ e. absurd (omega (arith, e, later))) in
    ap (λ c. cond c (eqb m 0) (eqb m 1)) other ∙ eq-eqb m 1 (one refl)
later_may k false m later some one =
    let other : eqb k 0 ≡ false = ne_eqb k 0 (λ e. absurd (omega (arith, e, later))) in
    ap (λ c. cond c false (ltb 0 m)) other ∙ lt-ltb 0 m some

-- ---- files by their numbers

file_of_kind : (w : Files) (n : ℕ) (b : Bool) → kind w n ≡ Some b
    → (f : File) × (file_at w n ≡ Some f) × (is_directory f.body ≡ b)
file_of_kind w n b h = by (file_at w n) refl
  where
    by : (o : Option File) → file_at w n ≡ o → (f : File) × (file_at w n ≡ Some f) × (is_directory f.body ≡ b)
    by None is = absurd (none_some (sym (ap (option_map (λ (f : File). is_directory f.body)) is) ∙ h))
    by (Some f) is = (f, is, some_same (sym (ap (option_map (λ (f : File). is_directory f.body)) is) ∙ h))

file_of_some : (w : Files) (n : ℕ) → IsSome (file_at w n) → (f : File) × (file_at w n ≡ Some f)
file_of_some w n h = by (file_at w n) refl
  where
    by : (o : Option File) → file_at w n ≡ o → (f : File) × (file_at w n ≡ Some f)
    by None is = absurd (false≢true (sym (ap is_some is) ∙ h))
    by (Some f) is = (f, is)

entry_some : (w : Files) (n : ℕ) (name : List ℕ) → IsSome (directory_entries w n name)
    → (p : ℕ × ℕ) × (directory_entries w n name ≡ Some p)
entry_some w n name h = by (directory_entries w n name) refl
  where
    by : (o : Option (ℕ × ℕ)) → directory_entries w n name ≡ o
        → (p : ℕ × ℕ) × (directory_entries w n name ≡ Some p)
    by None is = absurd (false≢true (sym (ap is_some is) ∙ h))
    by (Some p) is = (p, is)

-- ---- the rules

-- of a tree each file is well by itself
module _ (fsid next : ℕ) (es : List (ℕ × File)) (up : AreRising (numbers_of es))
    (tree : IsFileTree (files_listed fsid next es)) where
  named_well : (n : ℕ) (f : File) → file_at (files_listed fsid next es) n ≡ Some f
      → AreNames (listing_in f.body).entries
  named_well n f there = λ i d h.
      let x = get_or (listing_in f.body).entries i d in
      tree.names n x.0 (ap is_some (entry_in_order (files_listed fsid next es) n f there
      (distinct_in f.body (tree.files n f there).body) i d h))

  there_at : (k : ℕ) (e : ℕ × File) → k < length es
      → file_at (files_listed fsid next es) (get_or es k e).0 ≡ Some (get_or es k e).1
  there_at k e h =
      file_of_place fsid next es up k (get_or es k e).0 (get_or es k e).1 (slice_get-get_or es k e h)

  -- each file of a tree is one by itself
  pub tree_files : AreFiles next es
  tree_files = record {
    rising = up;
    numbers = λ k e h. tree.numbers (get_or es k e).0 (ap is_some (there_at k e h));
    files = λ k e h. tree.files (get_or es k e).0 (get_or es k e).1 (there_at k e h);
    names = λ k e h. named_well (get_or es k e).0 (get_or es k e).1 (there_at k e h);
  }

module _ (fsid next : ℕ) (es : List (ℕ × File)) (each : AreFiles next es)
    (tree : IsFileTree (files_listed fsid next es)) where
  -- each entry of a tree names a number that is there
  pub tree_known : AreKnown es
  tree_known k n f at = λ i d h.
      let there = file_of_place fsid next es each.rising k n f at in
      let x = get_or (listing_in f.body).entries i d in
      let place =
      entry_in_order (files_listed fsid next es) n f there
      (distinct_in f.body (is_file next es each k n f at).body) i d h in
      let g = file_of_some (files_listed fsid next es) x.1.0 (tree.tree.named n x.0 x.1.0 x.1.1 place) in
      let p = place_of_file fsid next es each.rising x.1.0 g.0 g.1 in
      (p.0, g.0, p.1)

module _ (fsid next : ℕ) (es : List (ℕ × File)) (each : AreFiles next es) (names above : List ℕ)
    (counts : AreNamesCounted es names above) where
  -- the rules are enough
  module _ (root : File) (at : IsAt es 0 1 root) (known : AreKnown es) (may : HaveNames es names) (steps : ℕ)
      (ways : LeadUp es above steps) where
    first : (n : ℕ) (f : File) → IsAt es 0 n f → n ≡ 1
    first n f h = ap (λ (e : ℕ × File). e.0) (some_same (sym h ∙ at))

    not_first : (k n : ℕ) (f : File) → IsAt es k n f → n ≢ 1 → 0 < k
    not_first k n f h not =
        ⊎_elim (λ lt. lt) (λ le. let here : k ≡ 0 = omega arith in
        absurd (not (first n f (subst (λ j. IsAt es j n f) here h)))) (cases_lt 0 k)

    names_are : (k n : ℕ) (f : File) → IsAt es k n f
        → get_or names k 0 ≡ names_of (files_listed fsid next es) n
    names_are k n f h = counts.counted k n f h ∙ sym (names_listed fsid next es each.rising n)

    later_named : (k n : ℕ) (f : File) → IsAt es k n f → 0 < k → 0 < get_or names k 0
    later_named k n f h later = (may_later k (is_directory f.body) (get_or names k 0) later (may k n f h)).0

    at_one : may_have 0 (is_directory root.body) (get_or names 0 0) ≡ true
    at_one = may 0 1 root at

    -- files that follow the rules are a tree
    pub rules_suffice : IsFileTree (files_listed fsid next es)
    rules_suffice = built (files_listed fsid next es) (record {
      root_is =
          ap (option_map (λ (f : File). is_directory f.body))
          (file_of_place fsid next es each.rising 0 1 root at)
          ∙ ap (λ b. Some b) (may_root (is_directory root.body) (get_or names 0 0) at_one).0;
      reached = λ n is.
          let f = file_of_kind (files_listed fsid next es) n true is in
          let p = place_of_file fsid next es each.rising n f.0 f.1 in
          path_up fsid next es each names above counts first later_named steps p.0 n f.0 p.1
          (ways p.0 n f.0 p.1);
      there = λ n y k c h.
          let f = listed_in (files_listed fsid next es) n y (k, c) h in
          let p = place_of_file fsid next es each.rising n f.0 f.1 in
          let s =
          number_of_entry (files_listed fsid next es) n f.0 f.1 (StandsIn es) (known p.0 n f.0 p.1) y
          (k, c) h in
          sym (is_some-kind (files_listed fsid next es) k)
          ∙ ap is_some (file_of_place fsid next es each.rising s.0 k s.1 s.2);
      root = sym (names_are 0 1 root at) ∙ (may_root (is_directory root.body) (get_or names 0 0) at_one).1;
      directories = λ n not is.
          let f = file_of_kind (files_listed fsid next es) n true is in
          let p = place_of_file fsid next es each.rising n f.0 f.1 in
          sym (names_are p.0 n f.0 p.1) ∙ (may_later p.0 (is_directory f.0.body) (get_or names p.0 0)
          (not_first p.0 n f.0 p.1 not) (may p.0 n f.0 p.1)).1 f.2;
      named = λ n not is.
          let f =
          file_of_some (files_listed fsid next es) n (is_some-kind (files_listed fsid next es) n ∙ is) in
          let p = place_of_file fsid next es each.rising n f.0 f.1 in
          let some = later_named p.0 n f.0 p.1 (not_first p.0 n f.0 p.1 not) in
          omega (arith, some, names_are p.0 n f.0 p.1);
      numbers = λ n is.
          let f =
          file_of_some (files_listed fsid next es) n (is_some-kind (files_listed fsid next es) n ∙ is) in
          let p = place_of_file fsid next es each.rising n f.0 f.1 in
          number_in_range next es each p.0 n f.0 p.1;
      names = λ n name is.
          let e = entry_some (files_listed fsid next es) n name is in
          let f = listed_in (files_listed fsid next es) n name e.0 e.1 in
          let p = place_of_file fsid next es each.rising n f.0 f.1 in
          name_of_entry (files_listed fsid next es) n f.0 f.1
          (λ name. IsTrue (is_name name) × (length name ≤ 255))
          (are_names next es each p.0 n f.0 p.1) name e.0 e.1;
      files =
          λ n f there. let p = place_of_file fsid next es each.rising n f there in
          is_file next es each p.0 n f p.1;
    })

  -- and each is met by a tree
  module _ (tree : IsFileTree (files_listed fsid next es)) where
    -- in a tree each place has names as it may
    pub tree_names : HaveNames es names
    tree_names k n f at = ⊎_elim
        (λ later.
        let there = file_of_place fsid next es each.rising k n f at in
        let not = not_root fsid next es each tree k n f at later in
        let some = tree.named n not (ap is_some there) in
        let are = counts.counted k n f at ∙ sym (names_listed fsid next es each.rising n) in
        later_may k (is_directory f.body) (get_or names k 0) later (omega (arith, some, are))
        (λ is. are ∙ tree.directories n not (ap (option_map (λ (f : File). is_directory f.body)) there
        ∙ ap (λ b. Some b) is)))
        (λ le.
        let r = root_place fsid next es each tree in
        let here : k ≡ 0 = omega arith in
        let same : ◌≡◌ {A = Option (ℕ × File)} (Some (n, f)) (Some (1, r.0)) =
        sym at ∙ ap (slice_get es) here ∙ r.1 in
        let number = ap (λ (e : ℕ × File). e.0) (some_same same) in
        let file = ap (λ (e : ℕ × File). e.1) (some_same same) in
        ap (λ j. may_have j (is_directory f.body) (get_or names k 0)) here
        ∙ root_may (is_directory f.body) (get_or names k 0)
        (ap (λ (g : File). is_directory g.body) file ∙ r.2)
        (counts.counted k n f at ∙ sym (names_listed fsid next es each.rising n)
        ∙ ap (names_of (files_listed fsid next es)) number ∙ tree.root))
        (cases_lt 0 k)

    -- in a tree each place leads up to the root in more steps than there are files
    pub tree_leads : (steps : ℕ) → length es < steps → LeadUp es above steps
    tree_leads steps more k n f at = leads fsid next es each tree names above counts steps k n f more at
