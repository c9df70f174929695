use Rattle.std.proofs.Common.{◌≡◌, map}
use Rattle.nfs_spec.specs.Readdir.{page_entry}
use Rattle.inodes.specs.Directories.Entries.{entries_of}
use Rattle.inodes.specs.Directories.Pages.{page_with}
use Rattle.inodes.proofs.directories.page.Filling.add_all.Given as goal

-- what would become of the page with all is what becomes of it with those that are left
abbrev pub invariant-loop-name : goal.invariant-loop-name
invariant-loop-name l =
    page_with l.self (map page_entry (entries_of l.name-iterator))
    ≡ page_with l.fn.self (map page_entry (entries_of l.fn.entries))
