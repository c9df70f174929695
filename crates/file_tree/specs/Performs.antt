-- What a call that changes files did, against its effect by definition.
use Rattle.std.specs.Prelude.{◌≡◌, Bool, true, false, List, [], ◌∷◌, ◌++◌, Result, Ok, Err}
use Rattle.std.specs.Prelude.{if◌then◌else◌}
use Rattle.std.specs.List.{list_any}
use Rattle.std.specs.Option.{option_map_or}
use Rattle.std.specs.Ordering.{eq_by_cmp, nat_cmp}
use Rattle.nfs_spec.specs.nfs_items.Terms.{FileNumber, Name}
use Rattle.nfs_spec.specs.nfs_items.declared.attributes.Fattr.{Fattr}
use Rattle.nfs_spec.specs.nfs_items.declared.stat.Stat.{Stat}
use Rattle.nfs_spec.specs.fs_spec.Files.{Files, directory_entries}
use Rattle.nfs_spec.specs.fs_spec.Listing.{DirectoryEntry, file_number}
use Rattle.nfs_spec.specs.Sattr.{GivenFields, gives_any}
use Rattle.nfs_spec.specs.Changes.{Effect}
use Rattle.nfs_spec.specs.Effects.{attributes_at}
use Rattle.file_tree.specs.KeptDigests.{DropsOnly, KeptFiles}

-- done, and these are the files after it; or refused, and the files are as they were
abbrev pub Does : {A : Type 0} → Effect A → Files → Result A Stat → Files → Type 0
Does effect old (Ok x) new = effect ≡ Ok (x, new)
Does effect old (Err e) new = (effect ≡ Err e) × (new ≡ old)

-- the same of a call that may be refused memory: then too the files are as they were
abbrev pub Performs : {A E : Type 0} → Effect A → Files → Result (Result A Stat) E → Files → Type 0
Performs effect old (Ok r) new = Does effect old r new
Performs effect old (Err e) new = new ≡ old

-- a call that was done
abbrev pub IfDone : {A E : Type 0} → Result (Result A Stat) E → (A → Type 0) → Type 0
IfDone (Ok (Ok x)) P = P x
IfDone (Ok (Err e)) P = Unit {0}
IfDone (Err e) P = Unit {0}

-- what a call did that changes the file of a number, and gives the attributes of the file after it
abbrev pub DoesAt : Effect (Unit {0}) → FileNumber → Files → Result Fattr Stat → Files → Type 0
DoesAt effect n old (Ok a) new = (effect ≡ Ok (tt, new)) × (attributes_at new n ≡ Ok a)
DoesAt effect n old (Err e) new = (effect ≡ Err e) × (new ≡ old)

-- the same where memory may be refused: then too the files are as they were
abbrev pub PerformsAt : {E : Type 0} → Effect (Unit {0}) → FileNumber → Files
    → Result (Result Fattr Stat) E → Files → Type 0
PerformsAt effect n old (Ok r) new = DoesAt effect n old r new
PerformsAt effect n old (Err e) new = new ≡ old

-- A call that was done drops the digests of the files that it changed, and no others; one that was refused
-- keeps all.
abbrev pub Keeps : {A : Type 0} → (A → List FileNumber) → KeptFiles → Result A Stat → KeptFiles → Type 0
Keeps changed old (Ok x) new = DropsOnly (changed x) old new
Keeps changed old (Err e) new = new ≡ old

-- the same of a call that may be refused memory: then too it keeps all
abbrev pub KeepsDigests : {A E : Type 0} → (A → List FileNumber) → KeptFiles → Result (Result A Stat) E
    → KeptFiles → Type 0
KeepsDigests changed old (Ok r) new = Keeps changed old r new
KeepsDigests changed old (Err e) new = new ≡ old

-- the number of the file that a directory lists under a name, if it lists one
abbrev pub named_in : Files → FileNumber → Name → List FileNumber
named_in fs dir name = option_map_or (λ (e : DirectoryEntry). file_number e ∷ [])
    (directory_entries fs dir name) []

-- a number where this holds, and else none
abbrev pub number_if : Bool → FileNumber → List FileNumber
number_if true n = n ∷ []
number_if false n = []

-- the files that CREATE changes: the directory and the new file where the name is free, and else the file
-- that has the name, where an attribute is given
abbrev pub changed_by_create : GivenFields → Files → FileNumber → Name → FileNumber → List FileNumber
changed_by_create given fs dir name number =
    option_map_or (λ (e : DirectoryEntry). number_if (gives_any given) number)
    (directory_entries fs dir name) (dir ∷ number ∷ [])

-- whether one file has both names
abbrev pub is_same_file : Files → FileNumber → Name → FileNumber → Name → Bool
is_same_file fs from from_name to to_name =
    list_any (λ n. list_any (eq_by_cmp nat_cmp n) (named_in fs to to_name)) (named_in fs from from_name)

-- the files that RENAME changes: none where one file has both names, and else both directories, what moves,
-- and what stands at the new name
abbrev pub changed_by_rename : Files → FileNumber → Name → FileNumber → Name → List FileNumber
changed_by_rename fs from from_name to to_name =
    if is_same_file fs from from_name to to_name then [] else
    (from ∷ to ∷ named_in fs from from_name ++ named_in fs to to_name)
