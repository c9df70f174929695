use Rattle.std.proofs.Common.{◌+◌, cond, sym, ap, ◌∙◌}
use Rattle.fs_spec.specs.Listing.{with_entry}
use Rattle.fs_spec.specs.Changes.Edits.{map_listing}
use Rattle.tree_rules.specs.inodes.Inodes.{links_at}
use Rattle.inode_table.proofs.OfEdits.EditedInodes.{still_there}
use Rattle.inode_table.proofs.edits.slots.add_entry.Goals as goal

pub add_link-requires-clause-there : goal.add_link-requires-clause-there
add_link-requires-clause-there c =
    still_there c.args.inodes.now.entries c.put_name.new.inodes.entries c.args.dir
    (map_listing (λ l. with_entry l c.args.name.items c.args.number))
    c.in_ok-put_name.ensures.ok c.requires.there

pub returns-then-of_directory-clause-ok : goal.returns-then-of_directory-clause-ok
returns-then-of_directory-clause-ok c =
    let put = c.in_ok-put_name.ensures.ok in
    let added = c.add_link.ensures in
    record {
      files = λ fsid next. added.others.files fsid next ∙ put.files fsid next;
      own = added.own ∙ ap (λ m. m + 1) (put.links c.args.dir)
          ∙ sym (ap (λ b. links_at c.args.inodes.now.entries c.args.dir + cond b 1 0) c.if-of_directory.true);
      links = λ n ne. added.others.links n ne ∙ put.links n;
      above = λ n. added.others.above n ∙ put.above n;
    }
