use Rattle.std.proofs.Common.{◌≤◌, length, ap, subst, sym}
use Rattle.std.specs.List.Sorted.{IsStrictlySortedBy}
use Rattle.state_spec.specs.State.{received_cmp}
use Rattle.state_spec.specs.StateValues.{set_from}
use Rattle.state_machine.specs.declared.states.received.TheConstants.{MAX_RECEIVED}
use Rattle.state_machine.proofs.states.received.Received.of_rising.Goals as goal

pub invariant_of-result : goal.invariant_of-result
invariant_of-result c = record {
  few = subst (λ ks. length ks ≤ MAX_RECEIVED) (sym c.in_ok-set_of.ensures.keys) c.requires;
  rising = subst (IsStrictlySortedBy received_cmp) (sym c.in_ok-set_of.ensures.keys) c.if-not-rise.ensures;
  bounded = c.in_ok-set_of.ensures.bounded;
}

-- the set is of the messages of the list, which rise
pub returns : goal.returns
returns c = (ap (set_from received_cmp) c.in_ok-set_of.ensures.keys, c.if-not-rise.ensures)
