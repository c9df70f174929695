use Rattle.std.proofs.Common.{ap, option_map}
use Rattle.nfs_laws.specs.fs_spec.Files.{is_directory}
use Rattle.nfs_laws.proofs.OfTrees.FilesFit.{dir_file, distinct_names, next_free, next_unnamed}
use Rattle.nfs_count_laws.proofs.OfLinks.LinkCounts.{changed_links, more_links, named_more, unnamed_less}
use Rattle.nfs_count_laws.proofs.OfLinks.LinkCounts.{new_own, new_others}
use Rattle.nfs_count_laws.proofs.links.laws.edits_count_links.Goals as goal

pub returns-clause-contents : goal.returns-clause-contents
returns-clause-contents c = changed_links

pub returns-clause-name_more : goal.returns-clause-name_more
returns-clause-name_more c fs dir number name f tree is free there n =
    let d = dir_file fs dir is in
    let kind = ap (option_map (λ f. is_directory f.body)) there in
    more_links fs _ dir number (is_directory f.body)
    (named_more fs dir number name (is_directory f.body) d.0 d.1 d.2
    (distinct_names fs dir d.0 tree.files d.1) kind free) n

pub returns-clause-name_less : goal.returns-clause-name_less
returns-clause-name_less c fs dir number cookie name f tree had there n =
    let d = dir_file fs dir (tree.tree.lists dir name number cookie had) in
    let kind = ap (option_map (λ f. is_directory f.body)) there in
    more_links _ fs dir number (is_directory f.body)
    (unnamed_less fs dir number name (is_directory f.body) d.0 d.1 d.2
    (distinct_names fs dir d.0 tree.files d.1) kind cookie had) n

pub returns-clause-new_file : goal.returns-clause-new_file
returns-clause-new_file c fs f tree empty = (
  new_own fs f (next_free fs tree) (next_unnamed fs tree) empty,
  new_others fs f (next_free fs tree) (next_unnamed fs tree) empty,
)
