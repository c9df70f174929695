-- A book's accepted segments where a job is out: those that were audited, and the job's.
-- Serves: the evidence of a fault, and the room of a job that begins.
use Rattle.std.proofs.Common.{◌≡◌, inl, inr, ℕ, ◌+◌, ◌-◌, ◌<◌, ◌≤◌, Bool, true, false, List, [], ◌∷◌, ◌++◌, length, take, filter}
use Rattle.std.proofs.Common.{nat_lt}
use Rattle.std.proofs.Common.{refl, sym, ap, subst, ◌∙◌, arith}
use Rattle.std.proofs.Common.{Option, Some, None}
use Rattle.std.proofs.lemmas.List.{length-append}
use Rattle.std.proofs.Math.Seq.{take-append_seam}
use Rattle.authenticator.specs.declared.authenticator.Authenticator.{Authenticator}
use Rattle.std.specs.List.{AllByRecursion}
use Rattle.authenticator.specs.declared.member.LogVersion.{LogVersion}
use Rattle.secure_log.specs.LogEntries.Chain.{IsAmong, Logged, logged_links, span}
use Rattle.secure_log.specs.LogEntries.Words.{MaySkip}
use Rattle.secure_log.specs.Versioned.{VersionedParts, ClosedParts, versioned_links}
use Rattle.witness_spec.specs.state_spec.State.{State}
use Rattle.evidence_spec.specs.Evidence.{EvidenceParts}
use Rattle.evidence_spec.specs.replay_spec.Replay.{Sound}
use Rattle.witness_spec.specs.Limits.{MAX_AUDITED}
use Rattle.witness_spec.specs.Exposing.{replay_from}
use Rattle.witness_spec.specs.Starting.{KnownBase, start_hash, start_number}
use Rattle.witness_spec.specs.Pairs.{first_of, last_of, number_of}
use Rattle.witness_spec.specs.Standing.{Stage, NoAudit, Wanted, Given, Out}
use Rattle.witness_book_laws.specs.Books.{Book, exposed, book_audited, job_of}
use Rattle.evidence_spec.specs.Base.{MAX_KNOWN}
use Rattle.witness_book_laws.specs.Ready.{KnowsFew, known_at_start}
use Rattle.witness_spec.specs.Events.{JobParts}
use Rattle.witness_spec.specs.Refusals.{NothingToAudit}
use Rattle.witness_spec.specs.Replies.{Reply, Job, Refused}
use Rattle.std.specs.Prelude.{if◌then◌else◌}
use Rattle.witness_book_laws.specs.Replying.{reply_to_begin}
use Rattle.witness_book_laws.specs.Fitting.{IsWhole, Tile, AreTiles, IsOne, IsMore, FitsTogether}
use Rattle.witness_book_laws.specs.Going.{audited_with, first_evidence, having_filed}
use Rattle.witness_book_laws.specs.Keeping.{KeepsLimits, audit_last}
use Rattle.secure_log.proofs.OfLogEntries.Pairs.{span-append}
use Rattle.witness_book_laws.proofs.Segments.{audited_are}
use Rattle.witness_book_laws.proofs.witness_laws.OfEvidence.Before.{on_left, on_right}
use Rattle.replay_jobs.specs.Jobs.{HasRoom}
use Rattle.node_book.specs.Rows.{ShowsLog, entries_of, first_shown, replayed_log}

-- ---- lists

-- without other evidence the first stays
pub first_alone : (e : Option EvidenceParts) → first_evidence e None ≡ e
first_alone None = refl
first_alone (Some e) = refl

-- no more entries than the numbers that they take up
few_entries : (ls : List Logged) → length ls ≤ span ls
few_entries [] = omega arith
few_entries (l ∷ ls) = omega (arith, few_entries ls)

-- the entries of segments that follow on one another take up each number
tile_entries : (first next : ℕ) (ss : List VersionedParts) → Tile first ss next
    → ((s : VersionedParts) → IsAmong s ss → IsWhole s) → first + span (entries_of ss) ≡ next
tile_entries first next [] t whole = omega (arith, t)
tile_entries first next (s ∷ ss) t whole =
    let w = whole s (inl refl) in
    let rest = tile_entries (last_of s + 1) next ss t.2 (λ x i. whole x (inr i)) in
    omega (arith, t.0, w.count, rest, span-append s.entries (entries_of ss))

-- entries that skip as they may after a number do so with others that do so after them
skips_joined : (v : LogVersion) (before : ℕ) (xs ys : List Logged)
    → AllByRecursion (MaySkip v) (logged_links before xs)
    → AllByRecursion (MaySkip v) (logged_links (before + span xs) ys)
    → AllByRecursion (MaySkip v) (logged_links before (xs ++ ys))
skips_joined v before [] ys a b =
    let same : before + 0 ≡ before = omega arith in
    subst (λ n. AllByRecursion (MaySkip v) (logged_links n ys)) same b
skips_joined v before (x ∷ xs) ys a b =
    let same : before + span (x ∷ xs) ≡ before + 1 + x.skipped + span xs = omega arith in (
      a.0,
      skips_joined v (before + 1 + x.skipped) xs ys a.1
          (subst (λ n. AllByRecursion (MaySkip v) (logged_links n ys)) same b),
    )

-- so the entries of segments that follow on one another skip as they may
tile_skips : (v : LogVersion) (first next : ℕ) (ss : List VersionedParts) → Tile (first + 1) ss next
    → ((s : VersionedParts) → IsAmong s ss → IsWhole s)
    → ((s : VersionedParts) → IsAmong s ss → AllByRecursion (MaySkip v) (versioned_links s))
    → AllByRecursion (MaySkip v) (logged_links first (entries_of ss))
tile_skips v first next [] t whole may = tt
tile_skips v first next (s ∷ ss) t whole may =
    let w = whole s (inl refl) in
    let begin : s.first - 1 ≡ first = omega (arith, t.0) in
    let after : last_of s ≡ first + span s.entries = omega (arith, t.0, w.count) in
    skips_joined v first s.entries (entries_of ss)
    (subst (λ n. AllByRecursion (MaySkip v) (logged_links n s.entries)) begin (may s (inl refl)))
    (subst (λ n. AllByRecursion (MaySkip v) (logged_links n (entries_of ss))) after
    (tile_skips v (last_of s) next ss t.2 (λ x i. whole x (inr i)) (λ x i. may x (inr i))))

-- ---- a job that is out

-- the audited segments, and the job's
pub record IsSplit (b : Book) (s : VersionedParts) : Type 0 where
  -- the accepted segments are tiles
  pub tiles : AreTiles b
  -- the one more is the job's segment, which follows on the end
  pub one : IsOne b.end.number s tiles.more

split : (b : Book) (c : ClosedParts) → FitsTogether b → b.stage ≡ Out c → IsSplit b c.segment
split b c fits out = record {
  tiles = fits.tiles;
  one = subst (λ x. IsMore b.end.number (exposed b) x fits.tiles.more) out fits.tiles.rest;
}

-- there are as many before the job's as were audited
before : (b : Book) (s : VersionedParts) (p : IsSplit b s) → length b.segments - 1 ≡ length p.tiles.audited
before b s p =
    let all = ap (λ (l : List VersionedParts). length l) p.tiles.are in
    let both = length-append p.tiles.audited p.tiles.more in
    let one = ap (λ (l : List VersionedParts). length l) p.one.is in
    omega (arith, all, both, one)

-- those before the job's are those that were audited
front_is : (b : Book) (s : VersionedParts) (p : IsSplit b s)
    → take (length b.segments - 1) b.segments ≡ p.tiles.audited
front_is b s p =
    ap (λ n. take n b.segments) (before b s p)
    ∙ (ap (λ l. take (length p.tiles.audited) l) p.tiles.are
    ∙ take-append_seam p.tiles.audited p.tiles.more)

-- their entries are those that were audited
pub faulted_entries : (b : Book) (c : ClosedParts) → FitsTogether b → b.stage ≡ Out c
    → entries_of (take (length b.segments - 1) b.segments) ≡ book_audited b
faulted_entries b c fits out =
    let p = split b c fits out in
    ap (λ l. entries_of l) (front_is b c.segment p) ∙ sym (audited_are b p.tiles)

-- a segment that takes up a number has an entry
some_entry : (s : VersionedParts) → IsWhole s → first_of s ≤ last_of s → 0 < length s.entries
some_entry s w h = by s.entries (omega (arith, w.count, h))
  where
    by : (ls : List Logged) → 0 < span ls → 0 < length ls
    by [] some = absurd (omega (arith, some))
    by (l ∷ ls) some = omega arith

-- with the job's they are a log that may be shown
pub faulted_shows : (b : Book) (c : ClosedParts) → FitsTogether b → KeepsLimits b → b.stage ≡ Out c
    → ShowsLog b.base b.log_version b.segments (length b.segments - 1) c.segment
faulted_shows b c fits limits out =
    let p = split b c fits out in
    let among : (s : VersionedParts) → IsAmong s p.tiles.audited → IsWhole s =
    λ s i. fits.whole s (subst (IsAmong s) (sym p.tiles.are) (on_left s p.tiles.audited p.tiles.more i)) in
    let mine : IsWhole c.segment = fits.whole c.segment
    (subst (IsAmong c.segment) (sym p.tiles.are) (on_right c.segment p.tiles.audited p.tiles.more
    (subst (IsAmong c.segment) (sym p.one.is) (inl refl)))) in
    let count = tile_entries (start_number b.base + 1) (b.end.number + 1) p.tiles.audited p.tiles.tile among in
    let front = ap (λ (l : List VersionedParts). length (entries_of l)) (front_is b c.segment p) in
    let last : last_of c.segment ≤ start_number b.base + MAX_AUDITED =
    subst (λ x. audit_last b.end.number x ≤ start_number b.base + MAX_AUDITED) out limits.last in
    let may : (s : VersionedParts) → IsAmong s b.segments → AllByRecursion (MaySkip b.log_version) (versioned_links s) =
    λ s i. subst (λ v. AllByRecursion (MaySkip v) (versioned_links s)) (fits.version s i) (fits.whole s i).skips in
    let before : AllByRecursion (MaySkip b.log_version) (logged_links (start_number b.base) (entries_of p.tiles.audited)) =
    tile_skips b.log_version (start_number b.base) (b.end.number + 1) p.tiles.audited p.tiles.tile among
    (λ s i. may s (subst (IsAmong s) (sym p.tiles.are) (on_left s p.tiles.audited p.tiles.more i))) in
    let own : IsAmong c.segment b.segments = subst (IsAmong c.segment) (sym p.tiles.are)
    (on_right c.segment p.tiles.audited p.tiles.more (subst (IsAmong c.segment) (sym p.one.is) (inl refl))) in
    let seam : c.segment.first - 1 ≡ start_number b.base + span (entries_of p.tiles.audited) =
    omega (arith, p.one.follows.first, count) in
    record {
      among = omega arith;
      first = ap (λ l. first_shown l c.segment) (front_is b c.segment p) ∙ begins p.tiles.audited p.tiles.tile p.one.follows.first;
      some = some_entry c.segment mine (omega (arith, p.one.follows.first, p.one.follows.some));
      most = omega (
        arith,
        front,
        count,
        fits.begun,
        mine.count,
        p.one.follows.first,
        last,
        few_entries (entries_of p.tiles.audited),
        few_entries c.segment.entries,
      );
      skips = subst
          (λ (l : List VersionedParts). AllByRecursion (MaySkip b.log_version)
          (logged_links (start_number b.base) (entries_of l ++ c.segment.entries)))
          (sym (front_is b c.segment p))
          (skips_joined b.log_version (start_number b.base) (entries_of p.tiles.audited) c.segment.entries before
          (subst (λ n. AllByRecursion (MaySkip b.log_version) (logged_links n c.segment.entries)) seam
          (may c.segment own)));
    }
  where
    begins : (ss : List VersionedParts) → Tile (start_number b.base + 1) ss (b.end.number + 1)
        → first_of c.segment ≡ b.end.number + 1 → first_shown ss c.segment ≡ start_number b.base + 1
    begins [] t follows = follows ∙ sym t
    begins (s ∷ ss) t follows = t.0

-- ---- a job that begins

-- where an audit begins few messages are known
known : (base : Option KnownBase) → known_at_start base ≤ MAX_KNOWN
known None = omega arith
known (Some b) = omega arith

-- its state has room for what its segment shows
pub begun_room : (b : Book) (j : JobParts) → FitsTogether b → KeepsLimits b → KnowsFew b
    → reply_to_begin b b.stage ≡ Job j → HasRoom j
begun_room b j fits limits few e = by b.stage refl e
  where
    room : (c : ClosedParts) → b.stage ≡ Given c → HasRoom (job_of b (b.begun + 1) c)
    room c is =
        let one : IsOne b.end.number c.segment fits.tiles.more =
        subst (λ x. IsMore b.end.number (exposed b) x fits.tiles.more) is fits.tiles.rest in
        let mine : IsWhole c.segment = fits.whole c.segment
        (subst (IsAmong c.segment) (sym fits.tiles.are) (on_right c.segment fits.tiles.audited fits.tiles.more
        (subst (IsAmong c.segment) (sym one.is) (inl refl)))) in
        let last : last_of c.segment ≤ start_number b.base + MAX_AUDITED =
        subst (λ x. audit_last b.end.number x ≤ start_number b.base + MAX_AUDITED) is limits.last in
        let entries = few_entries c.segment.entries in record {
          received = omega (arith, few.received, known b.base, fits.begun, mine.count, one.follows.first, last, entries);
          sends = omega (arith, few.sends, known b.base, fits.begun, mine.count, one.follows.first, last, entries);
        }

    told : (c : ClosedParts) (x : Bool) → b.stage ≡ Given c
        → ◌≡◌ {A = Reply} (if x then Refused NothingToAudit else Job (job_of b (b.begun + 1) c)) (Job j) → HasRoom j
    told c true is said = absurd cc
    told c false is said = let same : job_of b (b.begun + 1) c ≡ j = cc in subst HasRoom same (room c is)

    by : (x : Stage) → b.stage ≡ x → reply_to_begin b x ≡ Job j → HasRoom j
    by NoAudit is said = absurd cc
    by (Wanted first last) is said = absurd cc
    by (Given c) is said = told c (exposed b) is said
    by (Out c) is said = absurd cc

-- where a node wasn't exposed, the evidence that is made of segments is the first
pub exposed_by : (b : Book) (c : ClosedParts) (before : ℕ) → FitsTogether b → b.stage ≡ Out c
    → b.evidence ≡ None → before ≡ length b.segments - 1
    → first_evidence b.evidence
    (Some (record { node = b.node; charge = replay_from b.base (audited_with b c.segment) }))
    ≡ Some (record {
      node = b.node;
      charge = replay_from b.base (replayed_log b.base b.log_version b.node b.segments before c.segment);
    })
exposed_by b c before fits out none is =
    ap (λ e. first_evidence e (Some (record { node = b.node; charge = replay_from b.base (audited_with b c.segment) })))
    none
    ∙ sym (ap (λ n. Some (record {
      node = b.node;
      charge = replay_from b.base (replayed_log b.base b.log_version b.node b.segments n c.segment);
    })) is
    ∙ ap (λ es. Some (record {
      node = b.node;
      charge = replay_from b.base (record {
        log_version = b.log_version;
        node = b.node;
        first = start_number b.base + 1;
        opening = start_hash b.base;
        entries = es ++ c.segment.entries;
        closing = c.segment.closing;
      });
    })) (faulted_entries b c fits out))

-- a book whose end moved to that of a segment that was found sound
pub sound_filed : (b : Book) (s : VersionedParts) (t : State) (found : List Authenticator) (end : ℕ)
    → end ≡ last_of s
    → record b {
      end = record { number = end; state = t };
      stage = NoAudit;
      learned = filter (λ (a : Authenticator). nat_lt end (number_of b.log_version a)) b.learned;
      outbox = b.outbox ++ found;
    } ≡ having_filed b s (Sound t found)
sound_filed b s t found end is =
    ap (λ n. record b {
      end = record { number = n; state = t };
      stage = NoAudit;
      learned = filter (λ (a : Authenticator). nat_lt n (number_of b.log_version a)) b.learned;
      outbox = b.outbox ++ found;
    }) is
    ∙ ap (λ e. record b {
      end = record { number = last_of s; state = t };
      stage = NoAudit;
      learned = filter (λ (a : Authenticator). nat_lt (last_of s) (number_of b.log_version a)) b.learned;
      outbox = b.outbox ++ found;
      evidence = e;
    }) (sym (first_alone b.evidence))
