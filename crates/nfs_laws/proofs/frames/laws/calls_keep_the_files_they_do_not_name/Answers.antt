use Rattle.nfs_laws.proofs.OfFrames.UnnamedFiles.{heads, others}
use Rattle.nfs_laws.proofs.OfFrames.KeptParts.{absent}
use Rattle.nfs_laws.proofs.frames.laws.calls_keep_the_files_they_do_not_name.Goals as goal

pub returns-clause-node : goal.returns-clause-node
returns-clause-node c w who now call = (heads w who now call).node

pub returns-clause-next : goal.returns-clause-next
returns-clause-next c w who now call = (heads w who now call).next_is

pub returns-clause-others : goal.returns-clause-others
returns-clause-others c w who now call n h = others w who now call n h

pub returns-clause-absent : goal.returns-clause-absent
returns-clause-absent c = absent
