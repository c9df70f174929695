use Rattle.std.proofs.Common.{◌≡◌, ◌+◌, [], Ok, Err, ap, sym, subst, ◌∙◌, arith}
use Rattle.std.proofs.lemmas.List.{drop_all}
use Rattle.authenticator.proofs.Words.{word_is}
use Rattle.secure_log.specs.LogEntries.Chain.{chain_text, hash_after}
use Rattle.replay_spec.specs.Stepping.{step}
use Rattle.replay_spec.specs.Replay.{Fault, Sound}
use Rattle.replay.specs.Faults.{fault_in}
use Rattle.replay.specs.Steps.{Steps, worded_place}
use Rattle.replay.specs.declared.steps.StepFault.{StepFault}
use Rattle.replay.proofs.LoggedPlaces.{hash_at}
use Rattle.replay.proofs.Runs.{begins, rest_of, has_word, room_received, room_sends, faults, goes_on, ends}
use Rattle.replay.proofs.run.run.Goals as goal

pub loop-place-init : goal.loop-place-init
loop-place-init g c = (
  [],
  c.requires.none,
  begins
      c.args.roster.now (g.M.Machine.state c.args.machine) c.args.first c.args.opening.now c.args.skips.now
      c.args.entries.now c.get-next.result c.get-next.ensures.value c.requires.words
      c.requires.few_received c.requires.few_sends,
)

pub overflow_add-number : goal.overflow_add-number
overflow_add-number g c =
    let number = c.loop-place.next + c.from.result in
    let low = has_word
    c.args.roster.now (g.M.Machine.state c.args.machine) c.args.first c.args.opening.now c.args.skips.now
    c.args.entries.now (g.M.Machine.state c.loop-place.machine) c.loop-place.invariant.0
    c.loop-place.next c.loop-place.before c.loop-place.place c.loop-place.invariant.2
    c.skipped_at-skipped.result c.index-entries-place.result c.skipped_at-skipped.ensures
    (rest_of c.args.entries.now c.loop-place.place c.index-entries-place.result c.loop-place-test.true
    c.index-entries-place.is) number (omega (arith, c.from.ensures)) in
    omega (arith, low, word_is c.skipped_at-skipped.result number)

pub entry_word-word-requires : goal.entry_word-word-requires
entry_word-word-requires g c = has_word
    c.args.roster.now (g.M.Machine.state c.args.machine) c.args.first c.args.opening.now c.args.skips.now
    c.args.entries.now (g.M.Machine.state c.loop-place.machine) c.loop-place.invariant.0
    c.loop-place.next c.loop-place.before c.loop-place.place c.loop-place.invariant.2
    c.skipped_at-skipped.result c.index-entries-place.result c.skipped_at-skipped.ensures
    (rest_of c.args.entries.now c.loop-place.place c.index-entries-place.result c.loop-place-test.true
    c.index-entries-place.is) (c.loop-place.next + c.from.result) (omega (arith, c.from.ensures))

pub turn-requires-clause-few_received : goal.turn-requires-clause-few_received
turn-requires-clause-few_received g c = room_received
    c.args.roster.now (g.M.Machine.state c.args.machine) c.args.first c.args.opening.now c.args.skips.now
    c.args.entries.now (g.M.Machine.state c.loop-place.machine) c.loop-place.invariant.0
    c.loop-place.next c.loop-place.before c.loop-place.place c.loop-place.invariant.2
    c.skipped_at-skipped.result c.index-entries-place.result c.skipped_at-skipped.ensures
    (rest_of c.args.entries.now c.loop-place.place c.index-entries-place.result c.loop-place-test.true
    c.index-entries-place.is)

pub turn-requires-clause-few_sends : goal.turn-requires-clause-few_sends
turn-requires-clause-few_sends g c = room_sends
    c.args.roster.now (g.M.Machine.state c.args.machine) c.args.first c.args.opening.now c.args.skips.now
    c.args.entries.now (g.M.Machine.state c.loop-place.machine) c.loop-place.invariant.0
    c.loop-place.next c.loop-place.before c.loop-place.place c.loop-place.invariant.2
    c.skipped_at-skipped.result c.index-entries-place.result c.skipped_at-skipped.ensures
    (rest_of c.args.entries.now c.loop-place.place c.index-entries-place.result c.loop-place-test.true
    c.index-entries-place.is)

pub returns-in-Err-Fault : goal.returns-in-Err-Fault
returns-in-Err-Fault g c =
    let s = g.M.Machine.state c.loop-place.machine in
    let number = c.loop-place.next + c.from.result in
    let whole = faults
    c.args.roster.now (g.M.Machine.state c.args.machine) c.args.first c.args.opening.now c.args.skips.now
    c.args.entries.now s c.loop-place.invariant.0
    c.loop-place.next c.loop-place.before c.loop-place.place c.loop-place.invariant.2
    c.skipped_at-skipped.result c.index-entries-place.result c.skipped_at-skipped.ensures
    (rest_of c.args.entries.now c.loop-place.place c.index-entries-place.result c.loop-place-test.true
    c.index-entries-place.is) number (omega (arith, c.from.ensures)) in
    let fault = fault_in c.in-Err-Fault.fault in
    let refused = subst (λ (e : StepFault). Steps {A = Unit {0}} c.args.roster.now s
    (worded_place c.entry_word-word.result c.loop-place.before c.index-entries-place.result) (Err e)
    (g.M.Machine.state c.turn.new.machine)) c.in-Err-Fault.field-0-is c.in-Err-Fault.ensures.step in
    let there = subst (λ w. step c.args.roster.now s
    (worded_place w c.loop-place.before c.index-entries-place.result) ≡ Err fault)
    c.entry_word-word.ensures refused.0 in
    whole fault there
    ∙ ap (Fault fault) (sym c.new.ensures)
    ∙ ap (λ f. Fault (fault_in f) c.new.result) (sym c.in-Err-Fault.fault-is)

pub loop-place-preserved : goal.loop-place-preserved
unfolding hash_after chain_text
loop-place-preserved g c =
    let s = g.M.Machine.state c.loop-place.machine in
    let number = c.loop-place.next + c.from.result in
    let on = goes_on
    c.args.roster.now (g.M.Machine.state c.args.machine) c.args.first c.args.opening.now c.args.skips.now
    c.args.entries.now s c.loop-place.invariant.0
    c.loop-place.next c.loop-place.before c.loop-place.place c.loop-place.invariant.2
    c.skipped_at-skipped.result c.index-entries-place.result c.skipped_at-skipped.ensures
    (rest_of c.args.entries.now c.loop-place.place c.index-entries-place.result c.loop-place-test.true
    c.index-entries-place.is) number (omega (arith, c.from.ensures))
    c.steps_as_it_takes.ensures (g.M.Machine.state c.turn.new.machine) in
    let there = subst (λ w. step c.args.roster.now s
    (worded_place w c.loop-place.before c.index-entries-place.result) ≡ Ok (g.M.Machine.state c.turn.new.machine))
    c.entry_word-word.ensures c.in-Ok.ensures.step in
    let hash = hash_at c.loop-place.before number
    (record { skipped = c.skipped_at-skipped.result; entry = c.index-entries-place.result })
    c.get.result c.kind.result c.content_digest.result c.link_hash-before.result
    (c.get.ensures.value ∙ c.entry_word-word.ensures) c.kind.ensures c.content_digest.ensures
    c.link_hash-before.ensures in (
      _,
      c.in-Ok.ensures.kept c.loop-place.invariant.0 c.loop-place.invariant.1,
      on there c.link_hash-before.result hash,
    )

-- after the last entry the run ends in the machine's state
pub returns : goal.returns
returns g c =
    let whole = ends
    c.args.roster.now (g.M.Machine.state c.args.machine) c.args.first c.args.opening.now c.args.skips.now
    c.args.entries.now (g.M.Machine.state c.loop-place.machine) c.loop-place.invariant.0
    c.loop-place.next c.loop-place.before c.loop-place.place c.loop-place.invariant.2 in
    let done = c.loop-place-test.false in (
      c.loop-place.invariant.0,
      whole (drop_all c.loop-place.place c.args.entries.now (omega (arith, done)))
          ∙ ap (λ s. Sound s c.loop-place.invariant.0) (sym c.into_state.ensures),
      c.loop-place.invariant.1,
    )
