-- A closed segment from the first entry on, whose closing's pair is one of a log's, has the log's first
-- entries, where no two texts have one digest; a replay of them, where the log is honest, finds no fault.
-- Serves: accepted_evidence_proves.
use Rattle.std.proofs.Common.{◌≡◌, ℕ, ◌+◌, List, [], ◌∷◌, ◌++◌, ap, ap₂, subst, ◌∙◌, refl, arith}
use Rattle.xdr.specs.Item.{Fits}
use Rattle.replay_spec.specs.authenticator.Numbers.{number_in}
use Rattle.replay_spec.specs.authenticator.declared.member.Member.{Member}
use Rattle.replay_spec.specs.secure_log.LogEntries.Chain.{Logged, IsAmong, NoCollision, last_hash}
use Rattle.replay_spec.specs.secure_log.LogEntries.Chain.{logged_links, span, zeros}
use Rattle.replay_spec.specs.secure_log.Log.{log_pairs}
use Rattle.replay_spec.specs.secure_log.Versioned.{VersionedParts, IsClosedIn, versioned_value}
use Rattle.replay_spec.specs.state_spec.State.{State}
use Rattle.replay_spec.specs.Placed.{logged_places, places_from, places_in}
use Rattle.replay_spec.specs.Replay.{Fault, Honest, verdict_of}
use Rattle.replay_spec.specs.Stepping.{ReplayFault}
use Rattle.replay_spec.proofs.Runs.{sound}
use Rattle.evidence_spec.specs.Evidence.{replay_item}
use Rattle.evidence_spec.specs.Proving.{IsLogOf, texts_of, versioned_texts}
use Rattle.replay_spec.proofs.Places.{places_joined}
use Rattle.evidence_spec.proofs.Reached.{places_logged, split}
use Rattle.evidence_spec.proofs.Shown.{segment_is_part}

none_before : (xs : List Logged) → span xs ≡ 0 → xs ≡ []
none_before [] h = refl
none_before (x ∷ xs) h = absurd (omega (arith, h))

-- the entries of a segment from the first on are the log's first
pub first_entries : (ms : List Member) (log : List Logged) (s : VersionedParts) → IsLogOf s.log_version log
    → Fits (replay_item s.log_version) (versioned_value s.log_version s) → IsClosedIn ms s
    → IsAmong (number_in s.log_version s.closing.word, s.closing.hash) (log_pairs log)
    → NoCollision (texts_of log ++ versioned_texts s) → s.first ≡ 1
    → (more : List Logged) × (log ≡ s.entries ++ more)
first_entries ms log s is fits closed i unlike first =
    let part = segment_is_part ms log s is fits closed i unlike in
    let none : part.before ≡ [] = none_before part.before (omega (arith, part.place, first)) in
    (part.rest, part.whole ∙ ap (λ ls. ls ++ (s.entries ++ part.rest)) none)

-- so a replay of them finds no fault
pub no_fault : (ms : List Member) (state : State) (s : VersionedParts) (log more : List Logged)
    (states : List State) (fault : ReplayFault) (number : ℕ)
    → s.first ≡ 1 → s.opening ≡ zeros → log ≡ s.entries ++ more
    → Honest ms state (logged_places 0 zeros log) states
    → verdict_of ms state (places_in s) ≡ Fault fault number → ⊥
no_fault ms state s log more states fault number first opening whole honest found =
    let own = logged_places 0 zeros s.entries in
    let parts = split ms state own
    (logged_places (0 + span s.entries) (last_hash zeros (logged_links 0 s.entries)) more) states
    (subst (λ ps. Honest ms state ps states) (places_joined 0 zeros s.entries more)
    (subst (λ l. Honest ms state (logged_places 0 zeros l) states) whole honest)) in
    let places : places_in s ≡ own =
    ap₂ (λ n o. places_from n o s.entries) first opening ∙ places_logged 0 zeros s.entries in
    let verdict = ap (verdict_of ms state) places ∙ sound ms state own parts.first parts.honest in
    cc
