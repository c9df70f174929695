use Rattle.std.proofs.Common.{cond, sym, ap, subst, ◌∙◌}
use Rattle.fs_spec.specs.Files.{File}
use Rattle.fs_spec.specs.Trees.{IsBody}
use Rattle.fs_spec.proofs.Walks.{some_same}
use Rattle.fs_spec.specs.Changes.Limits.{blocks_in}
use Rattle.inode_table.specs.Edits.Slots.{MayUnname, DropsName}
use Rattle.inode_table.specs.Edits.Moves.{LosesLink}
use Rattle.inode_table.proofs.OfEdits.Dropped.{same_stored, replaced_gone}
use Rattle.inode_table.proofs.edits.renaming.drop_replaced.Goals as goal

pub drop_name-requires-clause-body : goal.drop_name-requires-clause-body
drop_name-requires-clause-body c =
    let may = c.requires.1 in
    let same = same_stored c.args.inodes.now.entries c.drop_subdirectory.new.inodes.entries c.args.dir
    c.named-named.result.is_directory c.drop_subdirectory.ensures c.args.number in
    λ f at. subst (λ (g : File). IsBody g.body) (some_same (sym may.there ∙ (sym same ∙ at))) may.body

-- the file loses its name, by whether it was its last
pub returns : goal.returns
returns c f at =
    let es = c.args.inodes.now.entries in
    let mid = c.drop_subdirectory.new.inodes.entries in
    let may = subst (MayUnname es c.args.dir c.args.number)
    (some_same (sym c.requires.1.there ∙ at)) c.requires.1 in
    let of_directory = c.named-named.ensures.directory f at in
    let is_last = c.named-named.ensures.goes f at in
    let same = same_stored es mid c.args.dir c.named-named.result.is_directory c.drop_subdirectory.ensures
    c.args.number in
    replaced_gone es mid c.drop_name.new.inodes.entries c.args.now c.args.dir c.args.number f
    c.drop_name.result may
    (subst (λ b. LosesLink c.args.dir b es mid) of_directory c.drop_subdirectory.ensures)
    (subst (λ b. DropsName c.args.now c.args.number b mid c.drop_name.new.inodes.entries)
    is_last c.drop_name.ensures.change)
    (c.drop_name.ensures.freed f (same ∙ at) ∙ ap (λ b. cond b (blocks_in f.body) 0) is_last)
