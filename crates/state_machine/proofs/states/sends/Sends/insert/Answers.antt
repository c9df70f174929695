use Rattle.std.proofs.Common.{◌<◌, length, is_some, sym, ap, subst, ◌∙◌, arith}
use Rattle.std.specs.FinMap.{get, len, insert}
use Rattle.std.specs.List.{AllByRecursion}
use Rattle.std.specs.Ordering.{nat_cmp}
use Rattle.std.specs.Cmp.{nat_cmp_total}
use Rattle.std.proofs.lemmas.Map.Entries.{length-keys_of}
use Rattle.xdr.specs.Item.{Fits, word, fixed, pair}
use Rattle.state_machine.specs.States.Bounds.{SentFits}
use Rattle.state_machine.specs.declared.states.sends.TheConstants.{MAX_SENDS}
use Rattle.state_machine.proofs.OfStates.Kept.{len_of_map, one_or_none_within, map_with, all_with_entry}
use Rattle.state_machine.proofs.OfStates.Kept.{get_of_map, on_err}
use Rattle.state_machine.proofs.states.sends.Sends.insert.Goals as goal

pub invariant_of-self-2 : goal.invariant_of-self-2
invariant_of-self-2 c =
    let old = c.self.inside.messages.entries in
    let count = sym (len_of_map nat_cmp old c.self.invariant.rising) ∙ ap len c.self.view_is in
    let below : length old < MAX_SENDS = omega (arith, count, c.requires) in
    let parts : Fits (pair word (pair (fixed 32) (fixed 32)))
    (c.args.message.to, (c.args.message.prev, c.args.message.body_hash)) =
    (c.is_bounded.ensures.to, (c.is_bounded.ensures.prev, c.is_bounded.ensures.body_hash)) in
    let most = one_or_none_within (is_some c.in_ok-insert.field-0)
    (length old) _ MAX_SENDS c.in_ok-insert.ensures.len below in
    record {
      few = omega (arith, most, length-keys_of c.insert.new.self.entries);
      rising = c.in_ok-insert.ensures.ordered;
      bounded = subst (AllByRecursion SentFits) (sym c.in_ok-insert.ensures.entries)
          (all_with_entry SentFits nat_cmp old c.args.seq c.args.message c.self.invariant.bounded
          (c.ranges.seq.fits, parts) (λ e held. (held.0, parts)));
    }

pub returns-clause-ok : goal.returns-clause-ok
returns-clause-ok c =
    map_with nat_cmp nat_cmp_total c.self.inside.messages.entries c.insert.new.self.entries c.args.seq
    c.args.message c.self.invariant.rising c.in_ok-insert.ensures.ordered c.in_ok-insert.ensures.entries
    ∙ ap (λ m. insert m c.args.seq c.args.message) c.self.view_is

pub returns-in_err-insert-clause-absent : goal.returns-in_err-insert-clause-absent
returns-in_err-insert-clause-absent c =
    on_err c.from_residual.result _
    (ap (λ m. get m c.args.seq) (sym c.self.view_is)
    ∙ get_of_map c.self.inside.messages.entries c.args.seq c.self.invariant.rising
    ∙ c.in_err-insert.ensures.absent)
