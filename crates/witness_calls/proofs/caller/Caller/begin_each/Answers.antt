use Rattle.witness_calls.specs.Telling.{Extends}
use Rattle.witness_calls.proofs.Extending.{extends_none, extends_on}
use Rattle.witness_calls.proofs.caller.Caller.begin_each.Goals.{in-Ok-Some, in-Ok-None, in-Err}
use Rattle.witness_calls.proofs.caller.Caller.begin_each.Goals as goal

pub returns-then-is_err : goal.returns-then-is_err
returns-then-is_err g c =
    let kept : Extends c.begin.new.self c.match-begin.self = elim c.match-begin.branch [
      | in-Ok-Some w ↦ rw w.self-is w.keep-kept.ensures
      | in-Ok-None w ↦ extends_none _ _ w.self-is
      | in-Err w ↦ extends_none _ _ w.self-is
    ] in
    extends_on _ _ _ c.loop-node.invariant
    (extends_on _ _ _ c.begin.ensures (extends_on _ _ _ kept c.put_back_each.ensures))

pub loop-node-preserved : goal.loop-node-preserved
loop-node-preserved g c =
    let kept : Extends c.begin.new.self c.match-begin.self = elim c.match-begin.branch [
      | in-Ok-Some w ↦ rw w.self-is w.keep-kept.ensures
      | in-Ok-None w ↦ extends_none _ _ w.self-is
      | in-Err w ↦ extends_none _ _ w.self-is
    ] in
    extends_on _ _ _ c.loop-node.invariant (extends_on _ _ _ c.begin.ensures kept)
