use Rattle.std.proofs.Common.{◌≡◌, ◌∙◌, ap, ap₂, subst, sym}
use Rattle.std.specs.List.{AllByRecursion}
use Rattle.secure_log.specs.declared.segment.TheConstants.{MAX_ENTRIES}
use Rattle.secure_log.specs.LogEntries.Words.{logged}
use Rattle.secure_log.specs.Versioned.{VersionedParts}
use Rattle.replay.specs.replay_spec.Placed.{HasWord, places_from, places_in}
use Rattle.replay.proofs.LoggedPlaces.{segment_words}
use Rattle.replay_jobs.proofs.verdict.replayed.Goals as goal

-- each entry of a segment that ends in its closing has a word
pub replay_entries-requires-clause-words : goal.replay_entries-requires-clause-words
replay_entries-requires-clause-words c =
    let s : VersionedParts = c.segment-segment.result.now in
    let t : VersionedParts = c.closed-closed.result.now.segment in
    let entries : logged c.skips.result.now c.entries.result.now ≡ s.entries =
    ap (logged c.skips.result.now) c.entries.ensures.entries ∙ c.skips.ensures in
    let places : places_from c.first.result c.opening.result (logged c.skips.result.now c.entries.result.now)
    ≡ places_in t =
    ap (λ n. places_from n c.opening.result (logged c.skips.result.now c.entries.result.now)) c.first.ensures
    ∙ ap₂ (places_from s.first) c.opening.ensures.opening entries ∙ ap places_in c.segment-segment.ensures.segment in
    subst (AllByRecursion HasWord) (sym places)
    (segment_words MAX_ENTRIES t c.segment-segment.ensures.closed.ends c.segment-segment.ensures.fits)
