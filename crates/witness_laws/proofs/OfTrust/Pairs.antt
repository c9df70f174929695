-- Pairs of a log are marks of it, and its marks have no fork.
-- Serves: honest_is_never_exposed.
use Rattle.std.proofs.Common.{◌≡◌, ◌⊎◌, inl, inr, ℕ, ◌+◌, Bool, true, false, not, ◌==◌, ◌&&◌, List, [], ◌∷◌}
use Rattle.std.proofs.Common.{◌++◌, refl, sym, ap, subst, eqb-true}
use Rattle.std.proofs.lemmas.Bool.{or_from}
use Rattle.authenticator.proofs.Signed.{list_same}
use Rattle.secure_log.specs.LogEntries.Chain.{Link, Logged, IsAmong, hash_after, marks, none_from, pairs, zeros}
use Rattle.secure_log.proofs.Gaps.{logged_after}
use Rattle.secure_log.proofs.OfLogEntries.FewerTexts.{right}
use Rattle.secure_log.proofs.OfLogEntries.Marks.{one_mark}
use Rattle.witness_spec.specs.evidence_spec.Proving.{log_links, marks_of}
use Rattle.authenticator.specs.Signing.{is_same}
use Rattle.witness_spec.specs.Pairs.{Pair, differ, is_fork, has_fork}

-- each pair of links is a mark of them
pub pair_is_mark : (before : ℕ) (opening : List ℕ) (links : List Link) (p : Pair)
    → IsAmong p (pairs before opening links) → IsAmong p (marks before opening links)
pair_is_mark before opening [] p i = i
pair_is_mark before opening (l ∷ ls) p (inl e) = inl e
pair_is_mark before opening (l ∷ ls) p (inr i) =
    let after = hash_after opening l in
    inr (right (none_from (before + 1) l.skipped) (marks l.number after ls) p
    (pair_is_mark l.number after ls p i))

module _ (log : List Logged) where
  no_difference : (p q : Pair) → IsAmong p (marks_of log) → IsAmong q (marks_of log) → differ p q ≡ false
  no_difference p q i j = by (p.0 == q.0) refl
    where
      by : (b : Bool) → (p.0 == q.0) ≡ b → (b && not (is_same p.1 q.1)) ≡ false
      by false e = refl
      by true e =
          let same : p.0 ≡ q.0 = eqb-true p.0 q.0 e in
          let there : IsAmong (p.0, q.1) (marks_of log) =
          subst (λ n. IsAmong (n, q.1) (marks_of log)) (sym same) j in
          ap not (list_same p.1 q.1
          (one_mark 0 zeros (log_links log) p.0 p.1 q.1 (logged_after 0 log) i there))

  no_fork_at : (p : Pair) (qs : List Pair) → IsAmong p (marks_of log)
      → ((q : Pair) → IsAmong q qs → IsAmong q (marks_of log)) → is_fork p qs ≡ false
  no_fork_at p [] i all = refl
  no_fork_at p (q ∷ qs) i all =
      or_from (differ p q) (is_fork p qs) (no_difference p q i (all q (inl refl)))
      (no_fork_at p qs i (λ r j. all r (inr j)))

  -- pairs that are all marks of one log have no fork
  pub no_fork : (ps : List Pair) → ((q : Pair) → IsAmong q ps → IsAmong q (marks_of log))
      → has_fork ps ≡ false
  no_fork [] all = refl
  no_fork (p ∷ ps) all =
      or_from (is_fork p ps) (has_fork ps) (no_fork_at p ps (all p (inl refl)) (λ r j. all r (inr j)))
      (no_fork ps (λ r j. all r (inr j)))

-- what is in two lists together is in one of them
pub among_parts : {A : Type 0} (x : A) (xs ys : List A) → IsAmong x (xs ++ ys) → IsAmong x xs ⊎ IsAmong x ys
among_parts x [] ys i = inr i
among_parts x (z ∷ xs) ys (inl e) = inl (inl e)
among_parts x (z ∷ xs) ys (inr i) = by (among_parts x xs ys i)
  where
    by : IsAmong x xs ⊎ IsAmong x ys → IsAmong x (z ∷ xs) ⊎ IsAmong x ys
    by (inl j) = inl (inr j)
    by (inr j) = inr j
