use Rattle.std.proofs.Common.{◌≡◌, ◌∙◌, ◌++◌, ap, arith, flat_map, subst, sym, take, take_all}
use Rattle.std.specs.Result.{IfOk}
use Rattle.node_book.specs.Shown.{IsShown}
use Rattle.node_book.proofs.Shown.{entries_are}
use Rattle.node_book.proofs.replayed.add_segments.Goals as goal

-- all were copied
pub returns : goal.returns
returns c =
    let cs = c.args.segments.now in
    let all : take c.loop-segment.segment-index cs ≡ cs =
    take_all c.loop-segment.segment-index cs (omega (arith, c.loop-segment-test.false)) in
    subst (λ log. IfOk c.add_segment-2.result
    (λ _. IsShown c.add_segment-2.new.shown (log ++ c.args.faulty.now.segment.entries)))
    (ap (flat_map (λ d. d.segment.entries)) all ∙ sym (entries_are cs))
    (c.add_segment-2.ensures (flat_map (λ d. d.segment.entries) (take c.loop-segment.segment-index cs))
    c.loop-segment.invariant)
