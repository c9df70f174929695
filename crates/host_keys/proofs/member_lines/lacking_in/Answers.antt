use Rattle.host_keys.proofs.RosterLaws.{complete_all, complete_to, node_within, none_before}
use Rattle.host_keys.proofs.member_lines.lacking_in.Goals as goal

pub loop-next-init : goal.loop-next-init
loop-next-init c = none_before c.args.lines.now c.args.lines.now c.requires

pub loop-next-preserved : goal.loop-next-preserved
loop-next-preserved c =
    complete_to c.args.lines.now c.args.lines.now c.loop-next.epoch c.in-Some.next c.loop-next.invariant
    c.in-Some.ensures.least
    (λ node has. let within = node_within c.args.lines.now node c.requires has in
    c.in_default-lacking_at.ensures.none node within.0 within.1 has)

pub returns-clause-none : goal.returns-clause-none
returns-clause-none c =
    complete_all c.args.lines.now c.args.lines.now c.loop-next.epoch c.loop-next.invariant
    c.in_default.ensures.none
