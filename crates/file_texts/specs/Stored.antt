-- What a stored entry says.
use Rattle.std.specs.Prelude.{ℕ}
use Rattle.std.specs.declared.vec.Vec.{Vec}
use Rattle.fs_spec.specs.Listing.{NamedEntry}
use Rattle.tree_rules.specs.inodes.declared.directories.directory.Entry.{Entry}

-- the entry of a directory that a stored name, number and cookie are
abbrev pub entry_in : {A : Type 0} → Vec ℕ A × Entry → NamedEntry
entry_in e = (e.0.items, (e.1.number, e.1.cookie))
