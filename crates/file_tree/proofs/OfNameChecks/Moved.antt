-- RENAME in parts: the names, and then what moves.
-- Serves: `check_rename`.
use Rattle.std.proofs.Common.{◌≡◌, ℕ, ◌≤◌, Bool, true, false, List, length, Option, Some, None, Result, Ok}
use Rattle.std.proofs.Common.{Err, option_map, not, IsTrue, refl, sym, ap, subst, ◌∙◌, arith, eq-eqb}
use Rattle.std.specs.Prelude.{◌==◌, ◌&&◌, nat_le, if◌then◌else◌}
use Rattle.std.specs.Option.{option_map_or}
use Rattle.std.specs.Result.{result_map_both}
use Rattle.std.proofs.lemmas.Bool.{not-true, leb-true, eqb-true}
use Rattle.nfs_spec.specs.nfs_items.Timeval.{Timeval}
use Rattle.nfs_spec.specs.nfs_items.Caller.{Caller}
use Rattle.nfs_spec.specs.nfs_items.declared.stat.Stat.{Stat}
use Rattle.nfs_spec.specs.nfs_items.declared.stat.Stat.TheVariants as stats
use Rattle.nfs_spec.specs.fs_spec.Names.{is_name}
use Rattle.nfs_spec.specs.fs_spec.Listing.{Listing, entry_at}
use Rattle.nfs_spec.specs.fs_spec.Files.{File, Files, file_at, is_directory, IsDirectory, listing}
use Rattle.nfs_spec.specs.fs_spec.Files.{directory_entries}
use Rattle.nfs_spec.proofs.fs_spec.Walks.{some_same}
use Rattle.nfs_spec.specs.ProcedureChecks.{◌>>=◌, file_of, dir_of, check, check_cookie, check_edit, number_at}
use Rattle.nfs_spec.specs.Procedures.{is_above, check_target, move_entry, rename}
use Rattle.inode_table.specs.nfs_count_laws.CountChanges.{MayMove}
use Rattle.inode_table.proofs.nfs_laws.OfSteps.Steps.{bind_ok, check_ok, file_ok, dir_ok, edit_ok, number_ok}
use Rattle.inode_table.proofs.nfs_laws.OfSteps.Steps.{entry_found}
use Rattle.inode_table.proofs.nfs_laws.OfSteps.Steps.{listing_found, ok_same}
use Rattle.inode_table.specs.nfs_laws.Steps.Granted.{IsSameFile}
use Rattle.inode_table.proofs.nfs_laws.OfSteps.Renaming.{target_ok}
use Rattle.file_tree.specs.NameChecks.Moves.{Moving, names_to_edit, move_checked, with_moved}
use Rattle.file_tree.proofs.OfNameChecks.Chains.{bind_assoc, bind_alike, map_bind, map_tests}

module _ (w : Files) (who : Caller) (from : ℕ) (from_name : List ℕ) (to : ℕ) (to_name : List ℕ) where
  -- what stands at the new name
  abbrev target_in : Listing → Option ℕ
  target_in l = option_map (λ e. e.0) (entry_at l to_name)

  abbrev is_same : ℕ → Listing → Bool
  is_same n l = option_map_or (λ t. t == n) (target_in l) false

  abbrev not_into_itself : ℕ → File → Result (Unit {0}) Stat
  not_into_itself n f = check (not (is_directory f.body && is_above w n to)) stats.Acces

  -- what moves in a file's move, by whether both names are of one file
  abbrev further : ℕ → Listing → File → Bool → Result (Option Moving) Stat
  further n l f same = if same then Ok None else (not_into_itself n f >>= (λ _.
      check_target w f (target_in l) >>= (λ _. check_cookie l >>= (λ _. Ok (Some (n, target_in l))))))

  -- RENAME of a number that was found
  abbrev rest : Timeval → ℕ → Listing → Result (Unit {0} × Files) Stat
  rest now n l = file_of w n >>= (λ f. if is_same n l then Ok (tt, w) else (not_into_itself n f >>= (λ _.
      check_target w f (target_in l) >>= (λ _. check_cookie l >>= (λ _.
      Ok (tt, move_entry now w n from from_name to to_name (target_in l)))))))

  -- the first checks, and what follows them
  in_parts : (now : Timeval) → rename w who now from from_name to to_name
      ≡ (names_to_edit w who from from_name to to_name >>= (λ p. rest now p.0 p.1))
  in_parts now =
      let after = λ (p : ℕ × Listing). rest now p.0 p.1 in
      sym (bind_assoc (dir_of w from) (λ d. dir_of w to >>= (λ e.
      check_edit who d from_name >>= (λ _. check_edit who e to_name >>= (λ _.
      number_at d from_name >>= (λ n. Ok (n, e.listing)))))) after
      ∙ bind_alike (dir_of w from) _ _ (λ d.
      bind_assoc (dir_of w to) (λ e. check_edit who d from_name >>= (λ _.
      check_edit who e to_name >>= (λ _. number_at d from_name >>= (λ n. Ok (n, e.listing))))) after
      ∙ bind_alike (dir_of w to) _ _ (λ e.
      bind_assoc (check_edit who d from_name) (λ _.
      check_edit who e to_name >>= (λ _. number_at d from_name >>= (λ n. Ok (n, e.listing)))) after
      ∙ bind_alike (check_edit who d from_name) _ _ (λ _.
      bind_assoc (check_edit who e to_name) (λ _. number_at d from_name >>= (λ n. Ok (n, e.listing))) after
      ∙ bind_alike (check_edit who e to_name) _ _ (λ _.
      bind_assoc (number_at d from_name) (λ n. Ok (n, e.listing)) after)))))

  -- what they refuse RENAME refuses
  pub rename_refused : (now : Timeval) (e : Stat) → names_to_edit w who from from_name to to_name ≡ Err e
      → rename w who now from from_name to to_name ≡ Err e
  rename_refused now e h = in_parts now ∙ ap (λ r. r >>= (λ p. rest now p.0 p.1)) h

  decided : (now : Timeval) (n : ℕ) (l : Listing) (f : File) (same : Bool)
      → result_map_both (with_moved now w from from_name to to_name) (λ e. e) (further n l f same)
      ≡ (if same then Ok (tt, w) else (not_into_itself n f >>= (λ _.
      check_target w f (target_in l) >>= (λ _. check_cookie l >>= (λ _.
      Ok (tt, move_entry now w n from from_name to to_name (target_in l)))))))
  decided now n l f true = refl
  decided now n l f false = map_tests (with_moved now w from from_name to to_name) (not_into_itself n f)
      (check_target w f (target_in l)) (check_cookie l) (Some (n, target_in l))

  -- what moves is what RENAME does
  pub rename_checked : (now : Timeval) (n : ℕ) (l : Listing)
      → names_to_edit w who from from_name to to_name ≡ Ok (n, l)
      → result_map_both (with_moved now w from from_name to to_name) (λ e. e) (move_checked w n to l to_name)
      ≡ rename w who now from from_name to to_name
  rename_checked now n l h =
      map_bind (with_moved now w from from_name to to_name) (file_of w n)
      (λ f. further n l f (is_same n l))
      ∙ bind_alike (file_of w n) _ _ (λ f. decided now n l f (is_same n l))
      ∙ sym (in_parts now ∙ ap (λ r. r >>= (λ p. rest now p.0 p.1)) h)

  -- what the first checks say of the names
  pub record AreEnds (n : ℕ) (l : Listing) : Type 0 where
    -- the cookie of the entry that moves
    pub cookie : ℕ
    -- the old name stands for the number
    pub is_named : directory_entries w from from_name ≡ Some (n, cookie)
    -- the new name is to be in a directory
    pub directory : IsDirectory w to
    -- what stands at the new name is what is listed there
    pub listed : directory_entries w to to_name ≡ entry_at l to_name
    -- the next cookie is that of the listing
    pub next : (listing w to).next ≡ l.next
    -- the new name may be given
    pub named : IsTrue (is_name to_name)

  -- where they pass, the names are as they say
  pub are_ends : (n : ℕ) (l : Listing) → names_to_edit w who from from_name to to_name ≡ Ok (n, l)
      → AreEnds n l
  are_ends n l h =
      let d = bind_ok (dir_of w from) _ (n, l) h in
      let e = bind_ok (dir_of w to) _ (n, l) d.2 in
      let p = bind_ok (check_edit who d.0 from_name) _ (n, l) e.2 in
      let q = bind_ok (check_edit who e.0 to_name) _ (n, l) p.2 in
      let k = bind_ok (number_at d.0 from_name) _ (n, l) q.2 in
      let both : (k.0, e.0.listing) ≡ (n, l) = ok_same k.2 in
      let its_entry = number_ok d.0 from_name k.0 k.1 in
      let found = dir_ok w to e.0 e.1 in
      record {
        cookie = its_entry.0;
        is_named = entry_found w from d.0 (dir_ok w from d.0 d.1) from_name ∙ its_entry.1
            ∙ ap (λ (b : ℕ × Listing). Some (b.0, its_entry.0)) both;
        directory = ap (option_map (λ f. is_directory f.body)) found.there ∙ ap (λ b. Some b) found.directory;
        listed = entry_found w to e.0 found to_name ∙ ap (λ (b : ℕ × Listing). entry_at b.1 to_name) both;
        next = ap (λ (l : Listing). l.next) (listing_found w to e.0 found)
            ∙ ap (λ (b : ℕ × Listing). b.1.next) both;
        named = (edit_ok w who to e.0 to_name q.0 found q.1).named;
      }

  -- where nothing moves, both names are of one file
  pub one_file : (n : ℕ) (l : Listing) → AreEnds n l → move_checked w n to l to_name ≡ Ok None
      → IsSameFile w from from_name to to_name
  one_file n l ends h =
      let f = bind_ok (file_of w n) _ None h in
      by f.0 (is_same n l) refl f.2
    where
      listed : (o : Option (ℕ × ℕ)) → entry_at l to_name ≡ o
          → option_map_or (λ t. t == n) (option_map (λ e. e.0) o) false ≡ true
          → IsSameFile w from from_name to to_name
      listed None is same = absurd cc
      listed (Some e) is same = (
        n,
        ends.cookie,
        e.1,
        ends.is_named,
        ends.listed ∙ is ∙ ap (λ m. Some (m, e.1)) (eqb-true e.0 n same),
      )

      by : (f : File) (same : Bool) → is_same n l ≡ same → further n l f same ≡ Ok None
          → IsSameFile w from from_name to to_name
      by f true same h = listed (entry_at l to_name) refl same
      by f false same h =
          let a = bind_ok (not_into_itself n f) _ None h in
          let t = bind_ok (check_target w f (target_in l)) _ None a.2 in
          let k = bind_ok (check_cookie l) _ None t.2 in
          absurd (none k.2)
        where
          none : ◌≡◌ {A = Result (Option Moving) Stat} (Ok (Some (n, target_in l))) (Ok None) → ⊥
          none h = cc

  -- what moves may
  pub may_move : (n : ℕ) (l : Listing) → length to_name ≤ 255 → AreEnds n l → (m : Moving)
      → move_checked w n to l to_name ≡ Ok (Some m)
      → (f : File) × (cookie : ℕ) × MayMove w m.0 from from_name to to_name f cookie m.1
  may_move n l bounded ends m h =
      let f = bind_ok (file_of w n) _ (Some m) h in
      by f.0 (file_ok w n f.0 f.1) (is_same n l) refl f.2
    where
      by : (f : File) → file_at w n ≡ Some f → (same : Bool) → is_same n l ≡ same
          → further n l f same ≡ Ok (Some m)
          → (f : File) × (cookie : ℕ) × MayMove w m.0 from from_name to to_name f cookie m.1
      by f there true same h = absurd (none h)
        where
          none : ◌≡◌ {A = Result (Option Moving) Stat} (Ok None) (Ok (Some m)) → ⊥
          none h = cc
      by f there false same h =
          let a = bind_ok (not_into_itself n f) _ (Some m) h in
          let t = bind_ok (check_target w f (target_in l)) _ (Some m) a.2 in
          let k = bind_ok (check_cookie l) _ (Some m) t.2 in
          let low = leb-true l.next 4294967294 (check_ok (nat_le l.next 4294967294) stats.NoSpc k.0 k.1) in
          subst (λ (m : Moving). (f : File) × (cookie : ℕ)
          × MayMove w m.0 from from_name to to_name f cookie m.1) (some_same (ok_same k.2)) (
            f,
            ends.cookie,
            record {
              is_named = ends.is_named;
              there = there;
              directory = ends.directory;
              named = ends.named;
              bounded = bounded;
              is_target = ap (option_map (λ e. e.0)) (sym ends.listed);
              other = λ is. tf (sym (ap (λ o. option_map_or (λ t. t == n) o false) is ∙ eq-eqb n n refl)
                  ∙ same);
              not_above = not-true (is_directory f.body && is_above w n to)
                  (check_ok (not (is_directory f.body && is_above w n to)) stats.Acces a.0 a.1);
              replaces = λ k is. target_ok w f k t.0 (ap (check_target w f) (sym is) ∙ t.1);
              next_cookie = omega (arith, ends.next, low);
            },
          )
        where
          tf : true ≡ false → ⊥
          tf h = cc
