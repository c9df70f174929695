use Rattle.std.proofs.Common.{arith}
use Rattle.witness_service.proofs.Mapping.{replaced_more}
use Rattle.witness_process.specs.Opened.{opened_one}
use Rattle.witness_process.proofs.opened.note_opened.Goals as goal

pub loop-one-preserved : goal.loop-one-preserved
loop-one-preserved c =
    replaced_more (opened_one c.args.node c.args.at) c.loop-one.opened c.args.opened.now c.loop-one.one-index
    _ c.note_one.new.one (omega (arith, c.loop-one-test.true)) c.loop-one.invariant
    c.note_one.ensures
