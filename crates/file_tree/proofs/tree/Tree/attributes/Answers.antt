use Rattle.std.proofs.Common.{Ok, sym, ap, ◌∙◌}
use Rattle.nfs_spec.specs.Effects.{attributes_at}
use Rattle.inode_table.specs.inodes.Inodes.{file_in, fattr_of}
use Rattle.file_tree.proofs.FilesSeen.{seen, unseen, attributes_none, attributes_some}
use Rattle.file_tree.proofs.KeptDigests.{files_seen}
use Rattle.file_tree.proofs.tree.Tree.attributes.Goals as goal

pub attributes-requires : goal.attributes-requires
attributes-requires c = c.in-Some.ensures.body

-- the attributes of the inode, with the server's number, are the file's
pub returns : goal.returns
returns c =
    ap (λ a. Ok a) (c.attributes.ensures
    ∙ ap (λ n. fattr_of n c.args.number c.in-Some.inode.now) c.fsid.ensures ∙ c.in-Some.ensures.attributes)
    ∙ sym (attributes_some c.self.inside.table c.args.number (file_in c.in-Some.inode.now)
    (seen c.self.inside.table c.args.number c.get.result c.get.ensures.file c.in-Some.inode c.in-Some.is))
    ∙ ap (λ w. attributes_at w c.args.number) (files_seen c.self.view_is)

pub returns-in_default : goal.returns-in_default
returns-in_default c =
    sym (attributes_none c.self.inside.table c.args.number
    (unseen c.self.inside.table c.args.number c.get.result c.get.ensures.file c.in_default.is))
    ∙ ap (λ w. attributes_at w c.args.number) (files_seen c.self.view_is)
