use Rattle.std.proofs.Common.{◌≡◌, sym, ap, subst, ◌∙◌}
use Rattle.std.specs.List.Sorted.{IsStrictlySortedBy}
use Rattle.std.specs.Map.{keys_of}
use Rattle.std.specs.Ordering.{nat_cmp}
use Rattle.xdr.specs.Item.{Fits}
use Rattle.state_spec.specs.server_spec.FileItems.{file_item}
use Rattle.state_spec.specs.State.{received_cmp}
use Rattle.state_spec.specs.StateItems.{state_item}
use Rattle.state_spec.specs.StateValues.{map_from, set_from, state_from}
use Rattle.state_spec.specs.Rules.{KeepsRules}
use Rattle.state_machine.specs.States.Numbered.{numbered}
use Rattle.checkpoint.specs.declared.parts.parts.MachinePart.{MachinePart}
use Rattle.state_machine.specs.Machines.{server_state, client_state}
use Rattle.checkpoint.specs.PartWorlds.{world_given}
use Rattle.checkpoint.proofs.Chosen.{when_none, when_some}
use Rattle.checkpoint.proofs.PartStates.{saying, rule_received, rule_sends, rule_clock, rule_served}
use Rattle.checkpoint.proofs.PartStates.{server_kept, client_kept}
use Rattle.checkpoint.proofs.read.state_of.Goals as goal

pub returns-in_default : goal.returns-in_default
returns-in_default c = λ h.
    let p = c.args.parts.now in
    when_none _ _ c.in_ok-received.field-0 c.in_ok-received.ensures c.in_default.is
    (subst (IsStrictlySortedBy received_cmp) (sym c.deref.ensures.value)
    (rule_received p.node p.clock p.received.items p.sends.items p.machine h))

pub returns-in_default-2 : goal.returns-in_default-2
returns-in_default-2 c = λ h.
    let p = c.args.parts.now in
    when_none _ _ c.in_ok-sends.field-0 c.in_ok-sends.ensures c.in_default-2.is
    (subst (λ ms. IsStrictlySortedBy nat_cmp (keys_of (numbered ms))) (sym c.deref-2.ensures.value)
    (rule_sends p.node p.clock p.received.items p.sends.items p.machine h))

pub returns-in_default-clock_of : goal.returns-in_default-clock_of
returns-in_default-clock_of c = λ h.
    let p = c.args.parts.now in
    when_none _ _ c.clock_of.result c.clock_of.ensures c.in_default-clock_of.is
    (rule_clock p.node p.clock p.received.items p.sends.items p.machine h)

pub returns-in_default-3 : goal.returns-in_default-3
returns-in_default-3 c = λ h.
    let p = c.args.parts.now in
    when_none _ _ c.in_ok-service-in-Server.field-0 c.in_ok-service-in-Server.ensures c.in_default-3.is
    (rule_served p.node p.clock p.received.items p.sends.items c.in-Server.world
    (subst (λ (m : MachinePart). Fits (state_item file_item)
    (saying p.node p.clock p.received.items p.sends.items m)) c.in-Server.is c.requires.fits)
    (subst (λ (m : MachinePart). KeepsRules (saying p.node p.clock p.received.items p.sends.items m))
    c.in-Server.is h))

pub returns-in_ok-stage-in-Server : goal.returns-in_ok-stage-in-Server
returns-in_ok-stage-in-Server c =
    let p = c.args.parts.now in
    let received = when_some _ _ c.in_ok-received.field-0 c.in-Some.received c.in_ok-received.ensures
    c.in-Some.is in
    let sends = when_some _ _ c.in_ok-sends.field-0 c.in-Some-2.sends c.in_ok-sends.ensures c.in-Some-2.is in
    let served = when_some _ _ c.in_ok-service-in-Server.field-0 c.in-Some-3.service
    c.in_ok-service-in-Server.ensures c.in-Some-3.is in
    let shown = when_some _ _ c.clock_of.result c.in-Some-clock_of.clock c.clock_of.ensures
    c.in-Some-clock_of.is in
    let service = served.0 ∙ ap (λ t. world_given p.node t c.in-Server.world) shown.0 in
    let messages = received.0 ∙ ap (set_from received_cmp) c.deref.ensures.value in
    let waiting = sends.0 ∙ ap (λ ms. map_from nat_cmp (numbered ms)) c.deref-2.ensures.value in
    subst (λ (m : MachinePart). (c.server-state.result.state
    ≡ state_from (saying p.node p.clock p.received.items p.sends.items m))
    × KeepsRules (saying p.node p.clock p.received.items p.sends.items m)) (sym c.in-Server.is)
    (server_kept p.node p.clock p.received.items p.sends.items
    (subst (IsStrictlySortedBy received_cmp) c.deref.ensures.value received.1)
    (subst (λ ms. IsStrictlySortedBy nat_cmp (keys_of (numbered ms))) c.deref-2.ensures.value sends.1)
    c.in-Server.world c.server-state.result.state
    (subst (λ (m : MachinePart). Fits (state_item file_item)
    (saying p.node p.clock p.received.items p.sends.items m)) c.in-Server.is c.requires.fits)
    served.1 c.is_a_state.ensures.state
    (c.server-state.ensures.state ∙ (λ i. server_state (service i) (c.in_ok-stage-in-Server.ensures i)
    (messages i) (waiting i))))

pub returns-in-Client : goal.returns-in-Client
returns-in-Client c =
    let p = c.args.parts.now in
    let received = when_some _ _ c.in_ok-received.field-0 c.in-Some.received c.in_ok-received.ensures
    c.in-Some.is in
    let sends = when_some _ _ c.in_ok-sends.field-0 c.in-Some-2.sends c.in_ok-sends.ensures c.in-Some-2.is in
    let messages = received.0 ∙ ap (set_from received_cmp) c.deref.ensures.value in
    let waiting = sends.0 ∙ ap (λ ms. map_from nat_cmp (numbered ms)) c.deref-2.ensures.value in
    let shown = when_some _ _ c.clock_of.result c.in-Some-clock_of.clock c.clock_of.ensures
    c.in-Some-clock_of.is in
    subst (λ (m : MachinePart). (c.client-state.result.state
    ≡ state_from (saying p.node p.clock p.received.items p.sends.items m))
    × KeepsRules (saying p.node p.clock p.received.items p.sends.items m)) (sym c.in-Client.is)
    (client_kept p.node p.clock p.received.items p.sends.items
    (subst (IsStrictlySortedBy received_cmp) c.deref.ensures.value received.1)
    (subst (λ ms. IsStrictlySortedBy nat_cmp (keys_of (numbered ms))) c.deref-2.ensures.value sends.1)
    c.client-state.result.state
    (subst (λ (m : MachinePart). Fits (state_item file_item)
    (saying p.node p.clock p.received.items p.sends.items m)) c.in-Client.is c.requires.fits)
    c.is_a_state-in-Client.ensures.state
    (c.client-state.ensures.state ∙ (λ i. client_state p.node (shown.0 i) (messages i)
    (waiting i))))
