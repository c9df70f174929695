use Rattle.std.proofs.Common.{sym, subst, arith}
use Rattle.state_spec.specs.State.{State}
use Rattle.state_spec.specs.StateText.{IsStateText}
use Rattle.state_machine.proofs.state_spec.Texts.{text_of_rules, no_state}
use Rattle.checkpoint.specs.Parts.SaidParts.{state_said}
use Rattle.checkpoint.proofs.Chosen.{when_none, when_some}
use Rattle.checkpoint.proofs.OneText.{one_state_of, rules_of_text, never_garbage}
use Rattle.checkpoint.proofs.read.read_state.Goals as goal

pub returns-in-Some-clause-found : goal.returns-in-Some-clause-found
returns-in-Some-clause-found c =
    let both = when_some _ _ c.in_ok-state-in-Ok.field-0 c.in-Some.state c.in_ok-state-in-Ok.ensures
    c.in-Some.is in
    subst (λ (s : State). IsStateText s c.args.bytes.now) (sym both.0)
    (text_of_rules (state_said c.in-Ok.parts) c.args.bytes.now (λ i. omega (arith, c.type_inv.bytes i))
    c.in-Ok.ensures.said both.1)

pub returns-in-Some-clause-only : goal.returns-in-Some-clause-only
returns-in-Some-clause-only c = λ s text. one_state_of c.in-Some.state.state s c.args.bytes.now
    (returns-in-Some-clause-found c) text

pub returns-in-Ok-clause-not_a_state : goal.returns-in-Ok-clause-not_a_state
returns-in-Ok-clause-not_a_state c = λ _.
    no_state (state_said c.in-Ok.parts) c.args.bytes.now (λ i. omega (arith, c.type_inv.bytes i))
    c.in-Ok.ensures.said
    (when_none _ _ c.in_ok-state-in-Ok.field-0 c.in_ok-state-in-Ok.ensures c.in-None.is)

pub returns-in-Ok-clause-only : goal.returns-in-Ok-clause-only
returns-in-Ok-clause-only c = λ s text.
    absurd (when_none _ _ c.in_ok-state-in-Ok.field-0 c.in_ok-state-in-Ok.ensures c.in-None.is
    (rules_of_text s (state_said c.in-Ok.parts) c.args.bytes.now text c.in-Ok.ensures.said))

pub returns-clause-only : goal.returns-clause-only
returns-clause-only c = λ s text.
    absurd (never_garbage s c.args.bytes.now text
    (c.in-Err-Garbage.ensures.refused c.in-Err-Garbage.field-0-is))
