-- The checks of each procedure of NFS version 2 (RFC 1094, section 2.2), in order, each with its stat. The
-- standard leaves the choice and the order of stats open.
use Rattle.std.specs.Prelude.{ℕ, ◌+◌, ◌==◌, ◌||◌, ◌&&◌, not, nat_le, Bool, false, List, [], ◌∷◌, ◌++◌, length}
use Rattle.std.specs.Prelude.{Option, is_some, is_none, if◌then◌else◌}
use Rattle.std.specs.Option.{option_map_or}
use Rattle.nfs_items.specs.Timeval.{Timeval}
use Rattle.nfs_items.specs.Caller.{Caller}
use Rattle.fs_spec.specs.Maxima.{max_file_size, max_number}
use Rattle.nfs_items.specs.Terms.{FileNumber, Name}
use Rattle.fs_spec.specs.Listing.{DirectoryEntry}
use Rattle.nfs_items.specs.declared.stat.Stat.TheVariants as stats
use Rattle.fs_spec.specs.Names.{is_name}
use Rattle.fs_spec.specs.Files.{File, Files, listing, directory_entries}
use Rattle.fs_spec.specs.Changes.Edits.{with_changed_file, with_name}
use Rattle.fs_spec.specs.Changes.Limits.{has_room}
use Rattle.nfs_spec.specs.FileAttributes.{is_directory_at}
use Rattle.nfs_spec.specs.ProcedureChecks.{permits, may_search, may_read, may_write, owns}
use Rattle.nfs_spec.specs.Effects.{number_named}
use Rattle.nfs_spec.specs.Sattr.{GivenFields, given_fields}
use Rattle.nfs_spec.specs.Changes.{touch, touch_ctime, apply_fields, is_in_group}
use Rattle.nfs_spec.specs.Procedures.{with_bytes_written, add_file, is_regular, is_above}
use Rattle.nfs_types.specs.Calls as calls
use Rattle.nfs_laws.specs.Steps.Granted.{new_regular, new_directory, new_link}
use Rattle.nfs_types.specs.Calls.{Call}
use Rattle.nfs_spec.specs.NfsCalls.{number_for}
use Rattle.nfs_error_laws.specs.Checks.{Checks, is_there, holds_at, holds_named, names_directory, if_given}
use Rattle.nfs_error_laws.specs.Checks.{is_link, lists_nothing, bytes_at}

-- ---- shared

-- a file: STALE
abbrev pub file_checks : Files → FileNumber → Checks
file_checks fs n = (is_there fs n, stats.Stale) ∷ []

-- a directory: STALE, then NOTDIR
abbrev pub directory_checks : Files → FileNumber → Checks
directory_checks fs dir = (is_there fs dir, stats.Stale) ∷ (is_directory_at fs dir, stats.NotDir) ∷ []

-- an edit of a directory: the rule for names, then search and write permission in it, else ACCES
abbrev pub edit_checks : Files → Caller → FileNumber → Name → Checks
edit_checks fs who dir name =
    (is_name name, stats.Acces)
    ∷ (holds_at fs dir (λ f. may_search who f && may_write who f), stats.Acces)
    ∷ []

-- ---- each procedure, by file numbers

-- whether neither mode nor a time is given
abbrev pub keeps_mode_and_times : GivenFields → Bool
keeps_mode_and_times a = is_none a.mode && is_none a.atime && is_none a.mtime

-- whether a caller may give a file this group as its owner: the same, or one of its own
abbrev pub may_give_group : Caller → ℕ → File → Bool
may_give_group who gid f = owns who f && ((gid == f.gid) || is_in_group who gid)

-- GETATTR (section 2.2.2), STATFS (section 2.2.18): file_checks

-- SETATTR (section 2.2.3): mode or a time by one who is neither owner nor user 0, uid by one who is neither
-- user 0 nor the owner giving the same, gid by one who is neither user 0 nor the owner giving the same or one
-- of its own groups; and what is asked of a given size
abbrev pub set_checks : Files → Caller → Timeval → FileNumber → GivenFields → Checks
set_checks fs who now n a =
    (is_there fs n, stats.Stale)
    ∷ (holds_at fs n (owns who) || (who.uid == 0) || keeps_mode_and_times a, stats.Perm)
    ∷ (if_given a.uid (λ u. (who.uid == 0) || holds_at fs n (λ f. owns who f && (u == f.uid))), stats.Perm)
    ∷ (if_given a.gid (λ gid. (who.uid == 0) || holds_at fs n (may_give_group who gid)), stats.Perm)
    ∷ (if_given a.size (λ size. not (is_directory_at fs n)), stats.IsDir)
    ∷ (if_given a.size (λ size. not (holds_at fs n (λ f. is_link f.body))), stats.NxIo)
    ∷ (if_given a.size (λ size. holds_at fs n (may_write who)), stats.Acces)
    ∷ (if_given a.size (λ size. nat_le size max_file_size), stats.FBig)
    ∷ (if_given a.size (λ size. has_room (with_changed_file fs n (apply_fields now a))), stats.NoSpc)
    ∷ []

-- LOOKUP (section 2.2.5)
abbrev pub lookup_checks : Files → Caller → FileNumber → Name → Checks
lookup_checks fs who dir name =
    directory_checks fs dir
    ++ (holds_at fs dir (may_search who), stats.Acces)
    ∷ (is_some (number_named fs dir (listing fs dir) name), stats.NoEnt)
    ∷ []

-- READLINK (section 2.2.6)
abbrev pub read_link_checks : Files → FileNumber → Checks
read_link_checks fs n = (is_there fs n, stats.Stale) ∷ (holds_at fs n (λ f. is_link f.body), stats.NxIo) ∷ []

-- READ (section 2.2.7)
abbrev pub read_checks : Files → Caller → FileNumber → Checks
read_checks fs who n =
    (is_there fs n, stats.Stale)
    ∷ (not (is_directory_at fs n), stats.IsDir)
    ∷ (not (holds_at fs n (λ f. is_link f.body)), stats.NxIo)
    ∷ (holds_at fs n (λ f. may_read who f || permits who f 1), stats.Acces)
    ∷ []

-- the files after a write
abbrev pub after_write : Files → Timeval → FileNumber → ℕ → List ℕ → Files
after_write fs now n offset new = with_changed_file fs n (with_bytes_written now offset new (bytes_at fs n))

-- WRITE (section 2.2.9): the last two are asked only of some bytes
abbrev pub write_checks : Files → Caller → Timeval → FileNumber → ℕ → List ℕ → Checks
write_checks fs who now n offset new =
    (is_there fs n, stats.Stale)
    ∷ (not (is_directory_at fs n), stats.IsDir)
    ∷ (not (holds_at fs n (λ f. is_link f.body)), stats.NxIo)
    ∷ (holds_at fs n (may_write who), stats.Acces)
    ∷ ((length new == 0) || nat_le (offset + length new) max_file_size, stats.FBig)
    ∷ ((length new == 0) || has_room (after_write fs now n offset new), stats.NoSpc)
    ∷ []

-- CREATE (section 2.2.10) of a name that is there: EXIST unless regular, and then as SETATTR
abbrev pub create_over_checks : Files → Caller → Timeval → GivenFields → FileNumber → Checks
create_over_checks fs who now a n =
    (holds_at fs n (λ f. is_regular f.body), stats.Exist) ∷ set_checks fs who now n a

-- CREATE of a new name: write permission in the directory, a given size within its limit, and room
abbrev pub create_new_checks : Files → Caller → Timeval → FileNumber → Name → GivenFields → Checks
create_new_checks fs who now dir name a =
    (holds_at fs dir (may_write who), stats.Acces)
    ∷ (if_given a.size (λ size. nat_le size max_file_size), stats.FBig)
    ∷ (has_room (add_file now fs dir name (new_regular who now a)), stats.NoSpc)
    ∷ []

-- what CREATE asks for by what has the name
abbrev pub create_at_checks :
    Files → Caller → Timeval → FileNumber → Name → GivenFields → Option DirectoryEntry → Checks
create_at_checks fs who now dir name a entry =
    option_map_or (λ e. create_over_checks fs who now a e.0) entry (create_new_checks fs who now dir name a)

-- CREATE: the directory, the name, search permission, and then what the name asks for
abbrev pub create_checks : Files → Caller → Timeval → FileNumber → Name → GivenFields → Checks
create_checks fs who now dir name a =
    directory_checks fs dir
    ++ (is_name name, stats.Acces)
    ∷ (holds_at fs dir (may_search who), stats.Acces)
    ∷ create_at_checks fs who now dir name a (directory_entries fs dir name)

-- REMOVE (section 2.2.11)
abbrev pub remove_checks : Files → Caller → FileNumber → Name → Checks
remove_checks fs who dir name =
    directory_checks fs dir ++ edit_checks fs who dir name
    ++ (is_some (directory_entries fs dir name), stats.NoEnt)
    ∷ (not (names_directory fs dir name), stats.IsDir)
    ∷ []

-- whether a name stands for this number
abbrev pub stands_for : Files → FileNumber → Name → FileNumber → Bool
stands_for fs dir name n = option_map_or (λ e. e.0 == n) (directory_entries fs dir name) false

-- whether two names stand for one file
abbrev pub is_same_file : Files → FileNumber → Name → FileNumber → Name → Bool
is_same_file fs from from_name to to_name =
    option_map_or (λ s. stands_for fs to to_name s.0) (directory_entries fs from from_name) false

-- whether a name stands for a directory that is another, or above it
abbrev pub is_named_above : Files → FileNumber → Name → FileNumber → Bool
is_named_above fs dir name lower =
    names_directory fs dir name && option_map_or (λ e. is_above fs e.0 lower)
    (directory_entries fs dir name) false

-- whether nothing has a name, or what has it passes a test with what the other name stands for: a directory
-- goes over a directory alone, another kind over another kind
abbrev pub may_replace_as_directory : Files → FileNumber → Name → FileNumber → Name → Bool
may_replace_as_directory fs from from_name to to_name =
    is_none (directory_entries fs to to_name) || not
    (names_directory fs from from_name) || names_directory fs to to_name

-- the same the other way round: what is no directory goes over what is none
abbrev pub may_replace_as_other : Files → FileNumber → Name → FileNumber → Name → Bool
may_replace_as_other fs from from_name to to_name =
    is_none (directory_entries fs to to_name) || names_directory fs from from_name || not
    (names_directory fs to to_name)

-- whether nothing has a name, or what has it lists nothing
abbrev pub is_free_or_empty : Files → FileNumber → Name → Bool
is_free_or_empty fs dir name =
    is_none (directory_entries fs dir name) || holds_named fs dir name lists_nothing

-- RENAME (section 2.2.12): where both names stand for one file, no more is asked
abbrev pub rename_checks : Files → Caller → FileNumber → Name → FileNumber → Name → Checks
rename_checks fs who from from_name to to_name =
    directory_checks fs from ++ directory_checks fs to
    ++ edit_checks fs who from from_name ++ edit_checks fs who to to_name
    ++ (is_some (directory_entries fs from from_name), stats.NoEnt)
    ∷ (if is_same_file fs from from_name to to_name then [] else
    (not (is_named_above fs from from_name to), stats.Acces)
    ∷ (may_replace_as_directory fs from from_name to to_name, stats.NotDir)
    ∷ (may_replace_as_other fs from from_name to to_name, stats.IsDir)
    ∷ (is_free_or_empty fs to to_name, stats.NotEmpty)
    ∷ (nat_le (listing fs to).next max_number, stats.NoSpc)
    ∷ [])

-- LINK (section 2.2.13)
abbrev pub link_checks : Files → Caller → Timeval → FileNumber → FileNumber → Name → Checks
link_checks fs who now from dir name =
    (is_there fs from, stats.Stale)
    ∷ (not (is_directory_at fs from), stats.IsDir)
    ∷ directory_checks fs dir ++ edit_checks fs who dir name
    ++ (is_none (directory_entries fs dir name), stats.Exist)
    ∷ (has_room (touch now (with_name (touch_ctime now fs from) dir name from) dir), stats.NoSpc)
    ∷ []

-- SYMLINK (section 2.2.14)
abbrev pub symlink_checks : Files → Caller → Timeval → FileNumber → Name → List ℕ → Checks
symlink_checks fs who now dir name target =
    directory_checks fs dir ++ edit_checks fs who dir name
    ++ (is_none (directory_entries fs dir name), stats.Exist)
    ∷ (has_room (add_file now fs dir name (new_link who now target)), stats.NoSpc)
    ∷ []

-- MKDIR (section 2.2.15)
abbrev pub make_dir_checks : Files → Caller → Timeval → FileNumber → Name → GivenFields → Checks
make_dir_checks fs who now dir name a =
    directory_checks fs dir ++ edit_checks fs who dir name
    ++ (is_none (directory_entries fs dir name), stats.Exist)
    ∷ (has_room (add_file now fs dir name (new_directory who now a)), stats.NoSpc)
    ∷ []

-- RMDIR (section 2.2.16)
abbrev pub remove_dir_checks : Files → Caller → FileNumber → Name → Checks
remove_dir_checks fs who dir name =
    directory_checks fs dir ++ edit_checks fs who dir name
    ++ (is_some (directory_entries fs dir name), stats.NoEnt)
    ∷ (names_directory fs dir name, stats.NotDir)
    ∷ (holds_named fs dir name lists_nothing, stats.NotEmpty)
    ∷ []

-- READDIR (section 2.2.17)
abbrev pub read_dir_checks : Files → Caller → FileNumber → Checks
read_dir_checks fs who dir = directory_checks fs dir ++ (holds_at fs dir (may_read who), stats.Acces) ∷ []

-- ---- each call, by file handles

-- the checks of a call, in their order
abbrev pub checks_of : Files → Caller → Timeval → Call → Checks
checks_of fs who now calls.Null = []
checks_of fs who now (calls.Getattr file) = file_checks fs (number_for fs file)
checks_of fs who now (calls.Setattr file s) = set_checks fs who now (number_for fs file) (given_fields now s)
checks_of fs who now calls.Root = []
checks_of fs who now (calls.Lookup dir name) = lookup_checks fs who (number_for fs dir) name
checks_of fs who now (calls.Readlink file) = read_link_checks fs (number_for fs file)
checks_of fs who now (calls.Read file offset count) = read_checks fs who (number_for fs file)
checks_of fs who now calls.Writecache = []
checks_of fs who now (calls.Write file offset new) = write_checks fs who now (number_for fs file) offset new
checks_of fs who now (calls.Create dir name s) =
    create_checks fs who now (number_for fs dir) name (given_fields now s)
checks_of fs who now (calls.Remove dir name) = remove_checks fs who (number_for fs dir) name
checks_of fs who now (calls.Rename from from_name to to_name) =
    rename_checks fs who (number_for fs from) from_name (number_for fs to) to_name
checks_of fs who now (calls.Link from dir name) =
    link_checks fs who now (number_for fs from) (number_for fs dir) name
checks_of fs who now (calls.Symlink dir name target s) =
    symlink_checks fs who now (number_for fs dir) name target
checks_of fs who now (calls.Mkdir dir name s) =
    make_dir_checks fs who now (number_for fs dir) name (given_fields now s)
checks_of fs who now (calls.Rmdir dir name) = remove_dir_checks fs who (number_for fs dir) name
checks_of fs who now (calls.Readdir dir cookie count) = read_dir_checks fs who (number_for fs dir)
checks_of fs who now (calls.Statfs file) = file_checks fs (number_for fs file)
