-- What follows from the Ok of RENAME.
-- Serves: granted_changes_pass_their_checks.
use Rattle.std.proofs.Common.{◌≡◌, ◌≢◌, ◌⊎◌, inl, inr, ℕ, Bool, true, false, List, length, Option, Some, None}
use Rattle.std.proofs.Common.{Result, Ok, option_map, not, refl, sym, ap, ◌∙◌, eq-eqb, arith}
use Rattle.std.specs.Prelude.{◌==◌, ◌&&◌, ◌||◌, nat_le, if◌then◌else◌}
use Rattle.std.specs.Option.{option_map_or}
use Rattle.std.proofs.lemmas.Bool.{not-true, eqb-true, leb-true}
use Rattle.nfs_spec.specs.nfs_items.Timeval.{Timeval}
use Rattle.nfs_spec.specs.nfs_items.Caller.{Caller}
use Rattle.nfs_spec.specs.nfs_items.declared.stat.Stat.{Stat}
use Rattle.nfs_spec.specs.nfs_items.declared.stat.Stat.TheVariants as stats
use Rattle.nfs_spec.specs.fs_spec.Listing.{Listing, entry_at}
use Rattle.nfs_spec.specs.fs_spec.Files.{File, Files, is_directory, listing_in, directory_entries}
use Rattle.nfs_spec.specs.ProcedureChecks.{◌>>=◌, NumberedDir, file_of, dir_of, check, check_cookie}
use Rattle.nfs_spec.specs.ProcedureChecks.{check_edit, number_at}
use Rattle.nfs_spec.specs.Procedures.{is_above, check_target, move_entry, rename}
use Rattle.nfs_laws.specs.Steps.Granted.{IsFound, IsSameFile, MayReplace, MoveOk, RenameOk}
use Rattle.nfs_laws.proofs.OfSteps.Steps.{bind_ok, check_ok, file_ok, dir_ok, edit_ok, number_ok, entry_found}
use Rattle.nfs_laws.proofs.OfSteps.Steps.{listing_found, no_length, same_files}

-- what was let through as a target may be replaced
pub target_ok : (w : Files) (f : File) (t : ℕ) (u : Unit {0}) → check_target w f (Some t) ≡ Ok u
    → MayReplace w f t
target_ok w f t u h =
    let g = bind_ok (file_of w t) _ u h in
    let a = bind_ok (check (not (is_directory f.body) || is_directory g.0.body) stats.NotDir) _ u g.2 in
    let b = bind_ok (check (is_directory f.body || not (is_directory g.0.body)) stats.IsDir) _ u a.2 in
    let entries = (listing_in g.0.body).entries in
    record {
      other = g.0;
      there = file_ok w t g.0 g.1;
      kind = agree (is_directory f.body) (is_directory g.0.body)
          (check_ok (not (is_directory f.body) || is_directory g.0.body) stats.NotDir a.0 a.1)
          (check_ok (is_directory f.body || not (is_directory g.0.body)) stats.IsDir b.0 b.1);
      empty = no_length entries
          (eqb-true (length entries) 0 (check_ok (length entries == 0) stats.NotEmpty u b.2));
    }
  where
    agree : (a b : Bool) → (not a || b) ≡ true → (a || not b) ≡ true → b ≡ a
    agree true true p q = refl
    agree false false p q = refl
    agree true false p q = p
    agree false true p q = sym q

module _ (w : Files) (who : Caller) (now : Timeval) (from : ℕ) (from_name : List ℕ) (to : ℕ)
    (to_name : List ℕ) (after : Files) where
  module _ (e : NumberedDir) (found : IsFound w to e) (n b : ℕ)
      (at : directory_entries w from from_name ≡ Some (n, b))
      (f : File) where
    abbrev target : Option ℕ
    target = option_map (λ p. p.0) (entry_at e.listing to_name)

    -- whether a number is the file that moves
    abbrev is_it : Option ℕ → Bool
    is_it o = option_map_or (λ t. t == n) o false

    here : directory_entries w to to_name ≡ entry_at e.listing to_name
    here = entry_found w to e found to_name

    differs : is_it target ≡ false → (c : ℕ) → directory_entries w to to_name ≢ Some (n, c)
    differs not c is =
        tf (sym (ap (λ o. is_it (option_map (λ p. p.0) o)) (sym here ∙ is) ∙ eq-eqb n n refl) ∙ not)
      where
        tf : true ≡ false → ⊥
        tf h = cc

    one_file : is_it target ≡ true → IsSameFile w from from_name to to_name
    one_file same = by (entry_at e.listing to_name) refl same
      where
        by : (o : Option (ℕ × ℕ)) → entry_at e.listing to_name ≡ o → is_it (option_map (λ p. p.0) o) ≡ true
            → IsSameFile w from from_name to to_name
        by None is h = absurd (tf h)
          where
            tf : false ≡ true → ⊥
            tf h = cc
        by (Some p) is h = (n, b, p.1, at, here ∙ is ∙ ap (λ m. Some (m, p.1)) (eqb-true p.0 n h))

    -- what is left of RENAME when both names may change
    abbrev end : Bool → Result (Unit {0} × Files) Stat
    end same =
        if same then Ok (tt, w)
        else check (not (is_directory f.body && is_above w n to)) stats.Acces >>= λ _. check_target w f target
        >>= λ _. check_cookie e.listing >>= λ _. Ok (tt, move_entry now w n from from_name to to_name target)

    ends : (same : Bool) → is_it target ≡ same → end same ≡ Ok (tt, after)
        → (IsSameFile w from from_name to to_name × (after ≡ w))
        ⊎ MoveOk w now from from_name to to_name n f after
    ends true same h = inl (one_file same, same_files h)
    ends false same h =
        let a = bind_ok (check (not (is_directory f.body && is_above w n to)) stats.Acces) _ (tt, after) h in
        let t = bind_ok (check_target w f target) _ (tt, after) a.2 in
        let c = bind_ok (check_cookie e.listing) _ (tt, after) t.2 in
        let low = leb-true e.listing.next 4294967294
        (check_ok (nat_le e.listing.next 4294967294) stats.NoSpc c.0 c.1) in
        inr (record {
          other = differs same;
          not_above = not-true (is_directory f.body && is_above w n to)
              (check_ok (not (is_directory f.body && is_above w n to)) stats.Acces a.0 a.1);
          replaces = λ k c is. target_ok w f k t.0
              (ap (λ o. check_target w f (option_map (λ p. p.0) o)) (sym is ∙ here) ∙ t.1);
          cookie = omega (arith, ap (λ (l : Listing). l.next) (listing_found w to e found), low);
          effect = same_files c.2 ∙ ap (λ o. move_entry now w n from from_name to to_name
              (option_map (λ p. p.0) o)) (sym here);
        })

  -- RENAME
  pub rename_ok : rename w who now from from_name to to_name ≡ Ok (tt, after)
      → RenameOk w who now from from_name to to_name after
  rename_ok h =
      let d = bind_ok (dir_of w from) _ (tt, after) h in
      let e = bind_ok (dir_of w to) _ (tt, after) d.2 in
      let p = bind_ok (check_edit who d.0 from_name) _ (tt, after) e.2 in
      let q = bind_ok (check_edit who e.0 to_name) _ (tt, after) p.2 in
      let n = bind_ok (number_at d.0 from_name) _ (tt, after) q.2 in
      let f = bind_ok (file_of w n.0) _ (tt, after) n.2 in
      let found = dir_ok w from d.0 d.1 in
      let found_to = dir_ok w to e.0 e.1 in
      let entry = number_ok d.0 from_name n.0 n.1 in
      let at = entry_found w from d.0 found from_name ∙ entry.1 in
      record {
        source = edit_ok w who from d.0 from_name p.0 found p.1;
        target = edit_ok w who to e.0 to_name q.0 found_to q.1;
        number = n.0;
        cookie = entry.0;
        is_named = at;
        file = f.0;
        there = file_ok w n.0 f.0 f.1;
        outcome = ends e.0 found_to n.0 entry.0 at f.0
            (is_it e.0 found_to n.0 entry.0 at f.0 (target e.0 found_to n.0 entry.0 at f.0)) refl f.2;
      }
