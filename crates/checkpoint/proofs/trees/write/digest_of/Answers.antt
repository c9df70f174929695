use Rattle.inodes.specs.Inodes.{file_in}
use Rattle.checkpoint.proofs.OfTrees.KeptFiles.{kept_is}
use Rattle.checkpoint.proofs.trees.write.digest_of.Goals as goal

pub returns-in-Some : goal.returns-in-Some
returns-in-Some c =
    kept_is c.args.tree.now.files c.args.number (file_in c.args.inode.now) c.in-Some.digest.now
    c.requires.there
    c.in-Some.ensures.digest
