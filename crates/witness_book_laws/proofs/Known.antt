-- A book that is known to be that of a member's own steps: its forks are those that are owed.
-- Serves: all laws here.
use Rattle.std.proofs.Common.{◌↔◌, ◌≡◌, ℕ, ◌≤◌, ◌+◌, true, cond, ◌==◌, ◌&&◌, nat_le, List, []}
use Rattle.std.proofs.Common.{◌∷◌, find, length, Option, Some, None, refl, sym, ap, ap₂, subst, ◌∙◌, eqb-true}
use Rattle.std.specs.Prelude.{not, is_some, option_map, option_and_then}
use Rattle.std.proofs.lemmas.Bool.{and_parts, leb-true}
use Rattle.authenticator.specs.declared.member.Member.{Member}
use Rattle.authenticator.specs.declared.member.LogVersion.{LogVersion}
use Rattle.secure_log.specs.Versioned.{VersionedParts}
use Rattle.witness_laws.specs.evidence_spec.Showing.{ShowingParts}
use Rattle.witness_laws.specs.evidence_spec.Evidence.{Charge, Fork, EvidenceParts}
use Rattle.witness_laws.specs.witness_spec.Replies.{Reply}
use Rattle.witness_laws.specs.witness_spec.Starting.{KnownBase, start_number, start_showing}
use Rattle.witness_laws.specs.witness_spec.Watched.{Watched}
use Rattle.witness_laws.specs.witness_spec.Steps.{Step, Past}
use Rattle.witness_laws.specs.witness_spec.Owing.{Owes}
use Rattle.witness_book_laws.specs.Replying.{BookOwes}
use Rattle.witness_book_laws.proofs.Replies.{owes_same}
use Rattle.witness_laws.specs.witness_spec.Pairs.{Pair, number_of, differ, first_fork, last_of}
use Rattle.witness_laws.specs.witness_spec.Standing.{shown, is_exposed, kept, all_accepted, Stage, NoAudit}
use Rattle.witness_laws.specs.witness_spec.Standing.{Wanted, Given}
use Rattle.witness_laws.specs.witness_spec.Standing.{Out}
use Rattle.witness_laws.specs.witness_spec.Standing.{stage_of, audited, all_found, forwards}
use Rattle.witness_laws.specs.witness_spec.Exposing.{segment_holding, or_segment, fork_of, new_fork, evidence}
use Rattle.witness_laws.specs.witness_spec.Histories.{HoldSame}
use Rattle.witness_book_laws.specs.Books.{Book, exposed, book_shown, book_audited}
use Rattle.witness_book_laws.specs.Going.{first_evidence, fork_evidence}
use Rattle.witness_book_laws.specs.Fitting.{NumbersDiffer, FitsTogether, IsBookOf}
use Rattle.witness_book_laws.proofs.Lists.{any_same, find_same}
use Rattle.witness_book_laws.proofs.Kept.{differ_one, as_many}
use Rattle.witness_book_laws.proofs.Segments.{tile_one, tiled}
use Rattle.witness_book_laws.proofs.Quiet.{Exposure, Hidden, Open}

-- the segment of an audit is closed under the roster
abbrev pub RosterAt : List Member → Stage → Type 0
RosterAt ms NoAudit = Unit {0}
RosterAt ms (Wanted first last) = Unit {0}
RosterAt ms (Given c) = c.roster ≡ ms
RosterAt ms (Out c) = c.roster ≡ ms

-- all that is known of a book after a member's own steps
pub record Known (w : Watched) (past : Past) (b : Book) : Type 0 where
  -- it is the member's after these steps
  pub of : IsBookOf w past b
  -- its parts fit together
  pub fits : FitsTogether b
  -- the numbers of what the steps keep differ
  pub kept_differ : NumbersDiffer w.member.log_version (kept w past)
  -- the node is exposed where there is evidence
  pub exposure : Exposure w past
  -- its audited segments have the audited entries
  pub audited : book_audited b ≡ audited w past
  -- no more was forwarded than was found
  pub sent : forwards past ≤ length (all_found w past)
  -- the audit's segment is closed under the roster
  pub roster : RosterAt w.roster (stage_of past)

-- the evidence that a charge against a node is
abbrev pub charged : ℕ → Charge → EvidenceParts
charged n g = record { node = n; charge = g }

module _ (w : Watched) (past : Past) (b : Book) where
  -- the book has evidence where the node is exposed
  pub exposed_same : IsBookOf w past b → Exposure w past → exposed b ≡ is_exposed w past
  exposed_same of (Hidden none is) = ap (λ o. is_some o) (of.stands.evidence ∙ none) ∙ sym is
  exposed_same of (Open e some is) = ap (λ o. is_some o) (of.stands.evidence ∙ some) ∙ sym is

  -- the first evidence stays
  pub first_same : IsBookOf w past b → Exposure w past → (n k : Option EvidenceParts) → n ≡ k
      → first_evidence b.evidence n ≡ cond (is_exposed w past) (evidence w past) k
  first_same of (Hidden none is) n k e =
      ap (λ o. first_evidence o n) (of.stands.evidence ∙ none)
      ∙ (e ∙ ap (λ x. cond x (evidence w past) k) (sym is))
  first_same of (Open e some is) n k h =
      ap (λ o. first_evidence o n) (of.stands.evidence ∙ some)
      ∙ (sym some ∙ ap (λ x. cond x (evidence w past) k) (sym is))

  -- ---- forks

  first_forks : (new xs ys : List Pair) → HoldSame xs ys → first_fork new xs ≡ first_fork new ys
  first_forks [] xs ys same = refl
  first_forks (p ∷ new) xs ys same =
      ap₂ (λ x r. cond x (Some p.0) r) (any_same (λ q. differ p q) xs ys same) (first_forks new xs ys same)

  -- the numbers of what is learned differ, by the member's version too
  differ_as_member : IsBookOf w past b → FitsTogether b → NumbersDiffer w.member.log_version b.learned
  differ_as_member of fits = subst (λ v. NumbersDiffer v b.learned) of.of_member.version fits.differ

  found_learned : IsBookOf w past b → FitsTogether b → (n : ℕ)
      → find (λ a. number_of w.member.log_version a == n) b.learned
      ≡ find (λ a. number_of w.member.log_version a == n) (kept w past)
  found_learned of fits n =
      find_same (λ a. number_of w.member.log_version a == n) b.learned (kept w past) of.stands.learned
      (λ x y i j e f. differ_one w.member.log_version b.learned x y (differ_as_member of fits) i j
      (eqb-true (number_of w.member.log_version x) n e
      ∙ sym (eqb-true (number_of w.member.log_version y) n f)))

  found_segment : IsBookOf w past b → FitsTogether b → (n : ℕ)
      → segment_holding n b.segments ≡ segment_holding n (all_accepted past)
  found_segment of fits n =
      let t = tiled b fits.tiles in
      find_same (λ (s : VersionedParts). nat_le s.first n && nat_le n (last_of s)) b.segments
      (all_accepted past)
      of.stands.segments
      (λ x y i j e f. tile_one (start_number b.base + 1) b.segments t.next n t.tile x y i j (bounds x e) (bounds y f))
    where
      bounds : (s : VersionedParts) → (nat_le s.first n && nat_le n (last_of s)) ≡ true
          → (s.first ≤ n) × (n ≤ last_of s)
      bounds s e =
          let both = and_parts (nat_le s.first n) (nat_le n (last_of s)) e in
          (leb-true s.first n both.0, leb-true n (last_of s) both.1)

  -- the fork of a new showing with an old one, if there is one, at a number
  abbrev made : Option KnownBase → LogVersion → ShowingParts → ℕ → Option ShowingParts → Option Charge
  made base v new n old =
      cond ((n == 0) && not (is_some (start_showing base 0)))
      (Some (Fork (record { log_version = v; at = 0; a = new; b = None })))
      (option_map (λ o. Fork (record { log_version = v; at = n; a = o; b = Some new }))
      (cond (is_some (start_showing base n)) (start_showing base n) old))

  forks_same : IsBookOf w past b → FitsTogether b → (new : ShowingParts) (n : ℕ)
      → fork_of b.base b.log_version b.learned b.segments new n
      ≡ fork_of w.base w.member.log_version (kept w past) (all_accepted past) new n
  forks_same of fits new n =
      ap₂ (λ o v. fork_of o v b.learned b.segments new n) of.of_member.base of.of_member.version
      ∙ ap (made w.base w.member.log_version new n)
      (ap₂ (λ a s. or_segment w.member.log_version a s) (found_learned of fits n) (found_segment of fits n))

  then_same : (f g : ℕ → Option Charge) → ((n : ℕ) → f n ≡ g n) → (o : Option ℕ)
      → option_and_then f o ≡ option_and_then g o
  then_same f g same None = refl
  then_same f g same (Some n) = same n

  -- a new showing makes the fork that is owed
  pub fork_same : IsBookOf w past b → FitsTogether b → (new : ShowingParts) (ps : List Pair)
      → fork_evidence b new ps
      ≡ option_map (λ g. record { node = w.member.node; charge = g }) (new_fork w past new ps)
  fork_same of fits new ps =
      ap (λ n. option_map (λ (g : Charge). charged n g)
      (option_and_then (fork_of b.base b.log_version b.learned b.segments new) (first_fork ps (book_shown b))))
      of.of_member.node
      ∙ ap (option_map (λ (g : Charge). charged w.member.node g))
      (ap (option_and_then (fork_of b.base b.log_version b.learned b.segments new))
      (first_forks ps (book_shown b) (shown w past) of.stands.pairs)
      ∙ then_same (fork_of b.base b.log_version b.learned b.segments new)
      (fork_of w.base w.member.log_version (kept w past) (all_accepted past) new)
      (forks_same of fits new) (first_fork ps (shown w past)))

-- What is known of a book tells what it owes: what is owed after the steps.
pub owes_known : (w : Watched) (past : Past) (b : Book) → Known w past b → (step : Step)
    (reply : Reply) → Owes w past step reply ↔ BookOwes b step reply
owes_known w past b k step reply =
    owes_same w past b k.of (exposed_same w past b k.of k.exposure)
    (as_many w.member.log_version b.learned (kept w past) (differ_as_member w past b k.of k.fits)
    k.kept_differ k.of.stands.learned) step reply
