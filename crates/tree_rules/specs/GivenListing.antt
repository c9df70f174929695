-- Entries of a directory that come from outside.
use Rattle.std.specs.Prelude.{List, map, IsTrue}
use Rattle.std.specs.List.{All}
use Rattle.nfs_items.specs.Terms.{Cookie}
use Rattle.nfs_laws.specs.fs_spec.Listing.{NamedEntry, IsRising, HasDistinctNames, entry_name}
use Rattle.nfs_laws.specs.fs_spec.Names.{is_name}
use Rattle.tree_rules.specs.declared.entries.GivenEntry.{GivenEntry}

-- what an entry says
abbrev pub said_entry : GivenEntry → NamedEntry
said_entry e = (e.name.now, (e.number, e.cookie))

-- what entries say
abbrev pub said_entries : List GivenEntry → List NamedEntry
said_entries es = map said_entry es

-- entries are a directory's: their cookies rise from 3 to below the next,
-- and their names are names and differ
pub record IsListing (next : Cookie) (entries : List NamedEntry) : Type 0 where
  -- the cookies rise
  pub rising : IsRising 3 entries next
  -- the names differ
  pub distinct : HasDistinctNames entries
  -- each is a name
  pub names : All (λ (e : NamedEntry). IsTrue (is_name (entry_name e))) entries
