use Rattle.std.proofs.Common.{rules, of_calls, ◌≡◌, leb, map, sym, subst, ap, ◌∙◌}
use Rattle.std.proofs.lemmas.Fn.{always_returns_same}
use Rattle.std.proofs.lemmas.List.Sorted.{IsPartitionedBy-leb}
use Rattle.nfs_spec.specs.fs_spec.Listing.{IsRising}
use Rattle.nfs_spec.specs.Readdir.{page_entry}
use Rattle.inodes.specs.Directories.Entries.{entries_of}
use Rattle.inodes.specs.Directories.Pages.{above}
use Rattle.inodes.proofs.OfDirectories.Cuts.{in_order, after_point}
use Rattle.inodes.proofs.directories.directory.Directory.entries_above.Goals as goal

-- cookies rise, so the entries after the partition point are those above the cookie
pub returns : goal.returns
returns c =
    let es = c.as_slice-entries.result in
    let inside : es ≡ c.self.inside.entries.value.entries =
    c.as_slice-entries.ensures.entries ∙ ap (λ m. m.entries) c.deref.ensures in
    let rising = subst (λ l. IsRising 3 (entries_of l) c.self.inside.next) (sym inside) c.self.invariant in
    let parts = IsPartitionedBy-leb (λ e. e.1.cookie) es c.args.cookie
    (in_order (λ e. (e.0.items, (e.1.number, e.1.cookie))) 3 es c.self.inside.next rising) in
    let point = c.partition_point-first.ensures.partitioned (λ e. leb e.1.cookie c.args.cookie)
    (always_returns_same _ _ _ (λ a r f k. search (rules, of_calls))) parts in
    ap (λ l. map page_entry (entries_of l)) c.split_at.ensures.back
    ∙ after_point (λ e. (
      e.0.items,
      (
        e.1.number,
        e.1.cookie,
      ),
    )) c.args.cookie c.partition_point-first.result es point
    ∙ ap (λ l. above c.args.cookie (map page_entry (entries_of l))) inside
    ∙ ap (λ l. above c.args.cookie (map page_entry l.entries)) c.self.view_is
