use Rattle.std.proofs.Common.{◌≡◌, ◌++◌, map, take, drop}
use Rattle.witness_process.specs.Opened.{opened_one}
use Rattle.witness_process.proofs.opened.note_opened.Given as goal

abbrev pub invariant-loop-one : goal.invariant-loop-one
invariant-loop-one l =
    l.opened
    ≡ map (opened_one l.node l.at) (take l.one-index l.initial.opened) ++ drop l.one-index l.initial.opened
