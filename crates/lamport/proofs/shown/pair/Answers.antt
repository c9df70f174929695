use Rattle.std.proofs.Common.{refl}
use Rattle.lamport.proofs.LeafTexts.{halves}
use Rattle.lamport.proofs.shown.pair.Goals as goal

-- each hash fills its half
pub returns : goal.returns
returns c =
    halves c.args.first.now c.args.second.now c.copy_from_slice.new.self c.copy_from_slice-2.new.self _
    c.requires.first refl c.copy_from_slice.ensures.after c.copy_from_slice-2.ensures.after
