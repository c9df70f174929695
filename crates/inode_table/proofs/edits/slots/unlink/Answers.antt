use Rattle.std.proofs.Common.{cond, sym, ap, subst, ◌∙◌}
use Rattle.fs_spec.specs.Files.{File}
use Rattle.fs_spec.specs.Trees.{IsBody}
use Rattle.fs_spec.specs.Changes.Limits.{blocks_in}
use Rattle.fs_spec.proofs.Walks.{some_same}
use Rattle.inode_table.specs.Edits.Slots.{MayUnname, TakesEntry, DropsName}
use Rattle.inode_table.proofs.OfEdits.EditedInodes.{taken_other, unnamed}
use Rattle.inode_table.proofs.edits.slots.unlink.Goals as goal

pub drop_name-requires-clause-body : goal.drop_name-requires-clause-body
drop_name-requires-clause-body c =
    let may = c.requires.1 in
    let same = taken_other c.args.inodes.now.entries c.take_entry.new.inodes.entries c.args.dir
    c.args.name.now c.named-named.result.is_directory c.take_entry.ensures c.args.number
    (λ e. may.apart (sym e)) in
    λ f at. subst (λ (g : File). IsBody g.body) (some_same (sym may.there ∙ (sym same ∙ at))) may.body

-- the name goes, and the file with it where that was its last
pub returns : goal.returns
returns c f at =
    let es = c.args.inodes.now.entries in
    let mid = c.take_entry.new.inodes.entries in
    let may = subst (MayUnname es c.args.dir c.args.number)
    (some_same (sym c.requires.1.there ∙ at)) c.requires.1 in
    let of_directory = c.named-named.ensures.directory f at in
    let is_last = c.named-named.ensures.goes f at in
    let same = taken_other es mid c.args.dir c.args.name.now c.named-named.result.is_directory
    c.take_entry.ensures c.args.number (λ e. may.apart (sym e)) in
    unnamed es mid c.drop_name.new.inodes.entries c.args.now c.args.dir c.args.name.now c.args.number f
    c.drop_name.result may
    (subst (λ b. TakesEntry c.args.dir c.args.name.now b es mid) of_directory c.take_entry.ensures)
    (subst (λ b. DropsName c.args.now c.args.number b mid c.drop_name.new.inodes.entries)
    is_last c.drop_name.ensures.change)
    (c.drop_name.ensures.freed f (same ∙ at) ∙ ap (λ b. cond b (blocks_in f.body) 0) is_last)
