use Rattle.std.proofs.Common.{ℕ, ◌<◌, List, length, get_or, arith, sym, ap, subst, ◌∙◌}
use Rattle.nfs_count_laws.specs.nfs_spec.FileAttributes.{is_directory_at}
use Rattle.tree_rules.specs.inodes.Inodes.{file_in, files_of}
use Rattle.tree_rules.specs.inodes.declared.inode.Inode.{Inode}
use Rattle.tree_rules.specs.FileRules.Rules.{AreRising}
use Rattle.tree_rules.proofs.OfFileRules.Listed.{number_at}
use Rattle.tree_rules.specs.Listed.{files_in}
use Rattle.tree_rules.proofs.Seen.{at_inode, length_numbers, same_numbers}
use Rattle.inode_table.proofs.OfLinks.Linking.{directory_at_place, no_directory}
use Rattle.inode_table.proofs.links.links.is_directory_at.Goals as goal

pub returns-in-Some : goal.returns-in-Some
returns-in-Some c = λ fsid next.
    let k = c.in-Some.place in
    let inodes = c.args.inodes.now in
    let es = files_in inodes in
    let numbers = c.requires.numbers ∙ same_numbers inodes in
    let inside : k < length inodes =
    omega (arith, c.in-Some.ensures.0, ap length c.requires.numbers, length_numbers inodes) in
    let e : ℕ × Inode = get_or inodes k c.index-inodes-place.result in
    let at = at_inode inodes k c.index-inodes-place.result inside in
    c.is_directory.ensures ∙ sym (directory_at_place fsid next es
    (subst AreRising numbers c.requires.rising) k e.0 (file_in e.1) at)
    ∙ ap (is_directory_at (files_of fsid next inodes))
    (sym (number_at es k (e.0, file_in e.1) at) ∙ ap (λ (l : List ℕ). get_or l k 0) (sym numbers)
    ∙ c.in-Some.ensures.1)

pub returns-in-None : goal.returns-in-None
returns-in-None c = λ fsid next.
    let inodes = c.args.inodes.now in
    let es = files_in inodes in
    let numbers = c.requires.numbers ∙ same_numbers inodes in
    sym (no_directory fsid next es (subst AreRising numbers c.requires.rising) c.args.number
    (λ k h is. c.in-None.ensures k (omega (arith, h, ap length numbers, length_numbers es))
    (ap (λ (l : List ℕ). get_or l k 0) numbers ∙ is)))
