use Rattle.std.proofs.Common.{option_map, nat_eq, ap, ◌∙◌}
use Rattle.std.specs.Cmp.Lexicographic.{pointwise}
use Rattle.inodes.specs.Directories.Entries.{entries_of}
use Rattle.inodes.proofs.OfDirectories.Listings.{remove_entry-shown, lookup-shown, lookup-kept}
use Rattle.inodes.proofs.directories.directory.take_out.Goals as goal

pub returns-clause-new : goal.returns-clause-new
returns-clause-new c =
    ap entries_of c.shift_remove.ensures.entries
    ∙ remove_entry-shown (λ k. k.items) (λ e. (e.number, e.cookie))
    (pointwise nat_eq c.args.name.now) c.args.entries.now.entries

pub returns-clause-gone : goal.returns-clause-gone
returns-clause-gone c =
    lookup-shown (λ k. k.items) (λ e. (e.number, e.cookie))
    (pointwise nat_eq c.args.name.now) c.shift_remove.new.self.entries
    ∙ ap (option_map (λ e. (e.number, e.cookie))) c.shift_remove.ensures.updates.1

pub returns-clause-others : goal.returns-clause-others
returns-clause-others c = λ q other.
    lookup-kept (λ k. k.items)
    (λ e. (
      e.number,
      e.cookie,
    )) c.args.name.now c.args.entries.now.entries c.shift_remove.new.self.entries
    c.shift_remove.ensures.updates.3 q other
