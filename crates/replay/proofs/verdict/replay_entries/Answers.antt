use Rattle.std.proofs.Common.{ap, sym, ◌∙◌}
use Rattle.secure_log.specs.LogEntries.Words.{logged}
use Rattle.replay_spec.specs.Placed.{places_from}
use Rattle.replay_spec.specs.Replay.{Sound, Fault}
use Rattle.replay.specs.Faults.{fault_in}
use Rattle.replay.proofs.Runs.{sound_by}
use Rattle.replay.proofs.verdict.replay_entries.Goals as goal

pub returns-in-Sound-clause-verdict : goal.returns-in-Sound-clause-verdict
returns-in-Sound-clause-verdict c =
    let ends = rw c.in-Sound.is at c.in_ok-state.ensures in
    ap (Sound c.in-Sound.state.state) ends.2 ∙ sym ends.1

pub returns-in-Sound-clause-sound : goal.returns-in-Sound-clause-sound
returns-in-Sound-clause-sound c =
    let ms = c.args.roster.now in
    let s = c.args.start.state in
    let ps = places_from c.args.first c.args.opening.now (logged c.args.skips.now c.args.entries.now) in
    let ends = rw c.in-Sound.is at c.in_ok-state.ensures in
    sound_by ms s ps (λ t shown. c.sound_exactly_if.ensures ms s t ps shown)
    (Sound c.in-Sound.state.state c.in-Sound.found.items)
    (ends.1 ∙ ap (Sound c.in-Sound.state.state) (sym ends.2))

pub returns-in-Fault-clause-sound : goal.returns-in-Fault-clause-sound
returns-in-Fault-clause-sound c =
    let ms = c.args.roster.now in
    let s = c.args.start.state in
    let ps = places_from c.args.first c.args.opening.now (logged c.args.skips.now c.args.entries.now) in
    sound_by ms s ps (λ t shown. c.sound_exactly_if.ensures ms s t ps shown)
    (Fault (fault_in c.in-Fault.fault) c.in-Fault.number) (rw c.in-Fault.is at c.in_ok-state.ensures)
