use Rattle.std.proofs.Common.{sym, ◌∙◌}
use Rattle.console.proofs.Fronts.{too_many, no_charge}
use Rattle.console.proofs.input.may_accuse.Goals as goal

pub returns-then-count-gt-MAX_MEMBERS : goal.returns-then-count-gt-MAX_MEMBERS
returns-then-count-gt-MAX_MEMBERS c is more =
    let counted = rw c.count_place-place.ensures.place at c.in-Some.ensures in
    too_many c.args.front.now more c.args.first c.in-Some.count
    (record { begins = c.requires; counted = counted }) c.if-count-gt-MAX_MEMBERS.true

pub returns-in-Some-word_at : goal.returns-in-Some-word_at
returns-in-Some-word_at c is more =
    let counted = rw c.count_place-place.ensures.place at c.in-Some.ensures in
    let charged = rw (c.count_place-place.ensures.place, c.member_size.ensures.size) at c.in-Some-word_at.ensures in
    no_charge c.args.front.now more c.args.first c.in-Some.count c.in-Some-word_at.charge
    (record { begins = c.requires; counted = counted }) charged (sym c.is_charge.ensures ∙ is)
