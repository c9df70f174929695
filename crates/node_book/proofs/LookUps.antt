-- What a book's look-up at a number tells.
-- Serves: Rows::mark_shown, Rows::knows, Rows::showing_before, Rows::fork_by_segment.
use Rattle.std.proofs.Common.{◌≡◌, ℕ, Bool, true, false, cond, not, ◌==◌, List, find, Some, None, refl}
use Rattle.std.proofs.Common.{Option, sym, ap, ◌+◌, ◌∙◌}
use Rattle.std.specs.Prelude.{option_map, option_and_then}
use Rattle.authenticator.specs.declared.authenticator.Authenticator.{Authenticator}
use Rattle.authenticator.specs.Signing.{is_same}
use Rattle.authenticator.proofs.Signed.{same_list, list_same}
use Rattle.secure_log.specs.LogEntries.Chain.{zeros}
use Rattle.secure_log.specs.Versioned.{VersionedParts, segment_marks}
use Rattle.secure_log.specs.Marks.{segment_mark_at}
use Rattle.evidence_spec.specs.Showing.{versioned_showing}
use Rattle.witness_spec.specs.Exposing.{segment_holding, fork_of}
use Rattle.witness_spec.specs.Pairs.{is_shown, is_fork, number_of}
use Rattle.witness_spec.specs.Standing.{Wanted}
use Rattle.witness_spec.specs.Starting.{start_number}
use Rattle.witness_book_laws.specs.Answers.{answer_fork}
use Rattle.witness_book_laws.specs.Books.{Book, exposed, book_shown}
use Rattle.witness_book_laws.specs.Fitting.{FitsTogether}
use Rattle.witness_book_laws.specs.Going.{evidence_of, fork_evidence}
use Rattle.witness_book_laws.specs.LookUps.{hash_held, hash_shown, is_hash, is_other_hash}
use Rattle.witness_book_laws.specs.Ready.{IsReady}
use Rattle.witness_book_laws.proofs.Segments.{tiled}
use Rattle.witness_book_laws.proofs.LookUps.{shown_by_look_up, fork_by_look_up}
use Rattle.witness_book_laws.proofs.Answers.{answer_looked_up}
use Rattle.witness_book_laws.proofs.witness_laws.OfEvidence.Before.{found}
use Rattle.node_book.specs.Looking.{FollowOn, hash_kept}

-- a book's accepted segments follow on one another
pub follow_on : (b : Book) → FitsTogether b → FollowOn b.segments
follow_on b fits = let t = tiled b fits.tiles in record { first = start_number b.base + 1; next = t.next; tile = t.tile }

past_zero : (b : Book) (n : ℕ) → (n == 0) ≡ false
    → hash_held (segment_holding n b.segments) b n ≡ hash_kept b n
past_zero b n some =
    sym (ap (λ z. cond z (Some zeros) (hash_held (segment_holding n b.segments) b n)) some)

-- what a segment that holds a number has there is what is kept
pub held_in : (b : Book) (n : ℕ) (s : VersionedParts) → FitsTogether b → (n == 0) ≡ false
    → segment_holding n b.segments ≡ Some s → segment_mark_at s n ≡ hash_kept b n
held_in b n s fits some e = sym (ap (λ o. hash_held o b n) e) ∙ past_zero b n some

-- where no segment holds it, a learned authenticator's hash is
pub held_out : (b : Book) (n : ℕ) → (n == 0) ≡ false → segment_holding n b.segments ≡ None
    → option_map (λ (a : Authenticator). a.hash) (find (λ (a : Authenticator). number_of b.log_version a == n) b.learned)
    ≡ hash_kept b n
held_out b n some e = sym (ap (λ o. hash_held o b n) e) ∙ past_zero b n some

-- it is of the book's version
pub of_the_log : (b : Book) (n : ℕ) (s : VersionedParts) → FitsTogether b → segment_holding n b.segments ≡ Some s
    → s.log_version ≡ b.log_version
of_the_log b n s fits e = fits.version s (found _ b.segments s e).0

-- another hash isn't the same
not_same : (x y : List ℕ) → (x ≡ y → ⊥) → is_same x y ≡ false
not_same x y other = by (is_same x y) refl
  where
    by : (b : Bool) → is_same x y ≡ b → b ≡ false
    by false e = refl
    by true e = absurd (other (same_list x y e))

module _ (b : Book) (ready : IsReady b) (hidden : exposed b ≡ false) (n : ℕ) (x : List ℕ) where
  was_shown : is_shown (n, x) (book_shown b) ≡ is_hash x (hash_shown b n)
  was_shown = shown_by_look_up b ready.fits n ready.one hidden x

  forks : is_fork (n, x) (book_shown b) ≡ is_other_hash x (hash_shown b n)
  forks = fork_by_look_up b ready.fits n ready.one hidden x

  -- nothing is shown there
  pub nothing_there : None ≡ hash_shown b n
      → (is_shown (n, x) (book_shown b) ≡ false) × (is_fork (n, x) (book_shown b) ≡ false)
  nothing_there e = (was_shown ∙ ap (is_hash x) (sym e), forks ∙ ap (is_other_hash x) (sym e))

  -- the same hash is
  pub same_there : (y : List ℕ) → Some y ≡ hash_shown b n → x ≡ y
      → (is_shown (n, x) (book_shown b) ≡ true) × (is_fork (n, x) (book_shown b) ≡ false)
  same_there y e same =
      let is = list_same x y same in
      (was_shown ∙ ap (is_hash x) (sym e) ∙ is, forks ∙ ap (is_other_hash x) (sym e) ∙ ap not is)

  -- another hash is
  pub other_there : (y : List ℕ) → Some y ≡ hash_shown b n → (x ≡ y → ⊥)
      → (is_shown (n, x) (book_shown b) ≡ false) × (is_fork (n, x) (book_shown b) ≡ true)
  other_there y e other =
      let is = not_same x y other in
      (was_shown ∙ ap (is_hash x) (sym e) ∙ is, forks ∙ ap (is_other_hash x) (sym e) ∙ ap not is)

-- what a segment brings for which a book asked is a fork at the number that is looked up
pub fork_of_answer : (b : Book) (s : VersionedParts) (last : ℕ) (o : Option ℕ)
    → IsReady b → exposed b ≡ false → b.stage ≡ Wanted s.first last → o ≡ answer_fork b s
    → fork_evidence b (versioned_showing s) (segment_marks s)
    ≡ evidence_of b (option_and_then (fork_of b.base b.log_version b.learned b.segments (versioned_showing s)) o)
fork_of_answer b s last o ready hidden asked e =
    ap (λ n. evidence_of b (option_and_then (fork_of b.base b.log_version b.learned b.segments (versioned_showing s)) n))
    (answer_looked_up b s last ready.fits ready.one hidden asked ∙ sym e)
