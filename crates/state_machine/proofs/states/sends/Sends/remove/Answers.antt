use Rattle.std.proofs.Common.{length, is_some, sym, ap, subst, ◌∙◌, arith}
use Rattle.std.specs.FinMap.{remove}
use Rattle.std.specs.List.{AllByRecursion}
use Rattle.std.proofs.lemmas.Map.Entries.{length-keys_of}
use Rattle.state_machine.specs.States.Bounds.{SentFits}
use Rattle.state_machine.proofs.OfStates.Kept.{map_without, all_without, less_within}
use Rattle.state_machine.proofs.states.sends.Sends.remove.Goals as goal

-- the ordered map without the number
pub returns : goal.returns
returns c =
    map_without c.self.inside.messages.entries c.remove.new.self.entries c.args.seq c.self.invariant.rising
    c.remove.ensures.ordered c.remove.ensures.updates.0
    ∙ ap (λ m. remove m c.args.seq) c.self.view_is

pub invariant_of-self : goal.invariant_of-self
invariant_of-self c = record {
  few =
      let old = c.self.inside.messages.entries in
      let new = c.remove.new.self.entries in
      let less = less_within (is_some c.remove.result) (length old) (length new)
      (length old) c.remove.ensures.len (omega arith) in
      omega (arith, less, length-keys_of new, length-keys_of old, c.self.invariant.few);
  rising = c.remove.ensures.ordered;
  bounded = subst (AllByRecursion SentFits) (sym c.remove.ensures.entries)
      (all_without SentFits _ c.self.inside.messages.entries c.self.invariant.bounded);
}
