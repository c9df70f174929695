use Rattle.std.proofs.Common.{◌≡◌, ◌<◌, ℕ, List, Some, length, get_or, arith, sym, ap, subst, ◌∙◌}
use Rattle.std.specs.Prelude.{slice_get}
use Rattle.std.proofs.lemmas.Option.{slice_get-get_or}
use Rattle.fs_spec.specs.Files.{File, is_directory, parent_of}
use Rattle.nfs_count_laws.specs.nfs_spec.FileAttributes.{nlink_of}
use Rattle.tree_rules.specs.inodes.Inodes.{body_in, file_in}
use Rattle.tree_rules.specs.inodes.declared.inode.Inode.{Inode}
use Rattle.tree_rules.specs.FileRules.Rules.{files_listed, numbers_of}
use Rattle.tree_rules.specs.Listed.{files_in}
use Rattle.inode_table.specs.Links.Linked.{IsLinked, IsLinks}
use Rattle.tree_rules.proofs.Seen.{at_inode, same_numbers}
use Rattle.inode_table.proofs.OfLinks.Linking.{files_stay, linked_more, linked_all, keeps_parent}
use Rattle.inode_table.proofs.links.links.link_all.Goals as goal

pub links_of-links-requires-clause-numbers : goal.links_of-links-requires-clause-numbers
links_of-links-requires-clause-numbers c =
    c.requires.numbers ∙ same_numbers c.args.inodes.now ∙ ap numbers_of (sym c.loop-place.invariant.same)
    ∙ sym (same_numbers c.loop-place.inodes)

pub loop-place-preserved : goal.loop-place-preserved
loop-place-preserved c =
    let inodes = c.loop-place.inodes in
    let i = c.loop-place.place in
    let inside : i < length inodes = omega arith in
    let e : ℕ × Inode = get_or inodes i c.index-inodes-place.result in
    let at : slice_get inodes i ≡ Some (e.0, e.1) =
    slice_get-get_or inodes i c.index-inodes-place.result inside in
    let es = files_in c.args.inodes.now in
    let links : (fsid next : ℕ) → IsLinks (files_listed fsid next es) e.0
    (body_in e.1.body) c.links_of-links.result = λ fsid next.
    subst (λ (l : List (ℕ × File)). IsLinks (files_listed fsid next l) e.0
    (body_in e.1.body) c.links_of-links.result) c.loop-place.invariant.same
    (c.links_of-links.ensures fsid next e.0 (file_in e.1)
    (at_inode inodes i c.index-inodes-place.result inside)) in
    let body : body_in c.link.new.inode.body ≡ body_in e.1.body =
    ap (λ (f : File). f.body) c.link.ensures.file in
    let here : (fsid next : ℕ) → IsLinked (files_listed fsid next es) e.0 c.link.new.inode =
    λ fsid next. record {
      nlink_is =
          c.link.ensures.nlink ∙ (links fsid next).nlink_is
          ∙ ap (nlink_of (files_listed fsid next es) e.0) (sym body);
      parent_is = keeps_parent c.link.new.inode.body (parent_of (files_listed fsid next es) e.0) (λ is.
          let directory = sym (ap is_directory body) ∙ is in
          c.link.ensures.parent directory ∙ (links fsid next).parent_is directory);
    } in
    record {
      same =
          files_stay inodes i e.0 e.1 c.link.new.inode at c.link.ensures.file ∙ c.loop-place.invariant.same;
      linked =
          linked_more inodes i e.0 e.1 c.link.new.inode at c.link.ensures.file es
          c.loop-place.invariant.linked here;
    }

pub returns-clause-linked : goal.returns-clause-linked
returns-clause-linked c =
    linked_all c.loop-place.inodes c.loop-place.place (omega arith)
    (files_in c.args.inodes.now) c.loop-place.invariant.same c.loop-place.invariant.linked
