use Rattle.std.proofs.Common.{◌≡◌, ◌∙◌, ap, ap₂, subst, sym}
use Rattle.std.specs.Prelude.{IfOk}
use Rattle.std.specs.List.{AllByRecursion}
use Rattle.secure_log.specs.declared.segment.TheConstants.{MAX_ENTRIES}
use Rattle.secure_log.specs.LogEntries.Words.{logged}
use Rattle.secure_log.specs.Versioned.{VersionedParts}
use Rattle.replay_spec.specs.Placed.{HasWord, places_from, places_in}
use Rattle.replay_spec.specs.Replay.{verdict_of}
use Rattle.replay.specs.Verdicts.{verdict_in}
use Rattle.replay.proofs.LoggedPlaces.{segment_words}
use Rattle.replay.proofs.Runs.{sound_as}
use Rattle.replay.proofs.verdict.replay.Goals as goal

pub replay_entries-requires-clause-words : goal.replay_entries-requires-clause-words
replay_entries-requires-clause-words c =
    let s : VersionedParts = c.segment-segment.result.now in
    let t : VersionedParts = c.args.segment.now.segment in
    let entries : logged c.skips.result.now c.entries.result.now ≡ s.entries =
    ap (logged c.skips.result.now) c.entries.ensures.entries ∙ c.skips.ensures in
    let places : places_from c.first.result c.opening.result (logged c.skips.result.now c.entries.result.now)
    ≡ places_in t =
    ap (λ n. places_from n c.opening.result (logged c.skips.result.now c.entries.result.now)) c.first.ensures
    ∙ ap₂ (places_from s.first) c.opening.ensures.opening entries ∙ ap places_in c.segment-segment.ensures.segment in
    subst (AllByRecursion HasWord) (sym places)
    (segment_words MAX_ENTRIES t c.segment-segment.ensures.closed.ends c.segment-segment.ensures.fits)

pub returns-clause-verdict : goal.returns-clause-verdict
returns-clause-verdict c =
    let s : VersionedParts = c.segment-segment.result.now in
    let t : VersionedParts = c.args.segment.now.segment in
    let entries : logged c.skips.result.now c.entries.result.now ≡ s.entries =
    ap (logged c.skips.result.now) c.entries.ensures.entries ∙ c.skips.ensures in
    let ps = places_from c.first.result c.opening.result (logged c.skips.result.now c.entries.result.now) in
    let places : ps ≡ places_in t =
    ap (λ n. places_from n c.opening.result (logged c.skips.result.now c.entries.result.now)) c.first.ensures
    ∙ ap₂ (places_from s.first) c.opening.ensures.opening entries ∙ ap places_in c.segment-segment.ensures.segment in
    let v = verdict_of c.roster-roster.result.now c.in_ok-start.start.state ps in
    let copy = c.in_ok-start.ensures in
    let roster = c.roster-roster.ensures in
    let same : v ≡ verdict_of c.args.segment.now.roster c.args.state.now.state (places_in t) = cc in
    subst (λ w. IfOk c.replay_entries.result (λ x. verdict_in x ≡ w)) same c.replay_entries.ensures.verdict

pub returns-clause-sound : goal.returns-clause-sound
returns-clause-sound c =
    let s : VersionedParts = c.segment-segment.result.now in
    let t : VersionedParts = c.args.segment.now.segment in
    let entries : logged c.skips.result.now c.entries.result.now ≡ s.entries =
    ap (logged c.skips.result.now) c.entries.ensures.entries ∙ c.skips.ensures in
    let ps = places_from c.first.result c.opening.result (logged c.skips.result.now c.entries.result.now) in
    let places : ps ≡ places_in t =
    ap (λ n. places_from n c.opening.result (logged c.skips.result.now c.entries.result.now)) c.first.ensures
    ∙ ap₂ (places_from s.first) c.opening.ensures.opening entries ∙ ap places_in c.segment-segment.ensures.segment in
    let v = verdict_of c.roster-roster.result.now c.in_ok-start.start.state ps in
    let copy = c.in_ok-start.ensures in
    let roster = c.roster-roster.ensures in
    let same : v ≡ verdict_of c.args.segment.now.roster c.args.state.now.state (places_in t) = cc in
    sound_as c.args.segment.now.roster c.args.state.now.state (places_in t)
    (λ u shown. c.sound_exactly_if.ensures c.args.segment.now.roster c.args.state.now.state u (places_in t) shown)
    v same c.replay_entries.result c.replay_entries.ensures.verdict
