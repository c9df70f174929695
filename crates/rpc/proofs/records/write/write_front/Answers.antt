use Rattle.std.proofs.Common.{rules, sym, subst, take}
use Rattle.std.specs.Io.KnownBytes.{Appends}
use Rattle.std.proofs.KnownBytes.{Appends-trans}
use Rattle.rpc.proofs.OfRecords.Filling.{take-behind}
use Rattle.rpc.proofs.records.write.write_front.Goals as goal

pub loop-at-preserved : goal.loop-at-preserved
loop-at-preserved g c = (
  search rules,
  search rules,
  subst (Appends _ _) (sym (take-behind c.loop-at.at c.in-Ok.n c.args.bytes.now))
      (Appends-trans _ _ _ _ _ c.loop-at.invariant.2 c.in-Ok.ensures.bytes),
)
