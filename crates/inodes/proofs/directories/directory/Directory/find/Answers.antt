use Rattle.std.proofs.Common.{nat_eq, option_map, sym, ap, ◌∙◌}
use Rattle.std.specs.Cmp.Lexicographic.{pointwise}
use Rattle.nfs_spec.specs.fs_spec.Listing.{entry_at}
use Rattle.inodes.proofs.OfDirectories.Listings.{lookup-shown}
use Rattle.inodes.proofs.directories.directory.Directory.find.Goals as goal

-- the entry that the map has under the name is the one that the listing has
pub returns : goal.returns
returns c =
    let got = rw c.deref.ensures at c.get.ensures.value in
    ap (option_map (λ e. (e.number, e.cookie))) (c.copied.ensures ∙ got)
    ∙ sym (lookup-shown (λ k. k.items) (λ e. (e.number, e.cookie))
    (pointwise nat_eq c.args.name.now) c.self.inside.entries.value.entries)
    ∙ ap (λ l. entry_at l c.args.name.now) c.self.view_is
