-- CREATE, by what stands at its name.
use Rattle.std.specs.Prelude.{◌≡◌, ℕ, Bool, Option, Some, None, Result, Ok, Err}
use Rattle.nfs_spec.specs.nfs_items.Timeval.{Timeval}
use Rattle.nfs_spec.specs.nfs_items.Caller.{Caller}
use Rattle.nfs_spec.specs.nfs_items.declared.stat.Stat.{Stat}
use Rattle.nfs_spec.specs.nfs_items.declared.stat.Stat.TheVariants as stats
use Rattle.nfs_spec.specs.nfs_items.Terms.{FileNumber, Cookie, Name}
use Rattle.nfs_spec.specs.fs_spec.Files.{File, Files, directory_entries}
use Rattle.nfs_spec.specs.ProcedureChecks.{◌>>=◌, file_of, check, check_size, may_write}
use Rattle.nfs_spec.specs.Sattr.{GivenFields}
use Rattle.nfs_spec.specs.Procedures.{set_attributes, is_regular, create}

-- a number of a regular file: STALE, EXIST
abbrev pub regular_number : Files → FileNumber → Result (Option FileNumber) Stat
regular_number fs n = do
  f ← file_of fs n
  _ ← check (is_regular f.body) stats.Exist
  Ok (Some n)

-- a new file in a directory: ACCES, FBIG, and NOSPC by a test for room
abbrev pub check_new : Caller → File → ℕ → Bool → Result (Unit {0}) Stat
check_new who d size room = do
  _ ← check (may_write who d) stats.Acces
  _ ← check_size size
  check room stats.NoSpc

-- CREATE of a name that is there does as SETATTR of its number; of one that is free it is granted; else it
-- is refused, with this stat
abbrev pub DecidesCreate : Files → Caller → Timeval → FileNumber → Name → GivenFields
    → Result (Option FileNumber) Stat → Type 0
DecidesCreate fs who now dir name a (Ok (Some n)) =
    ((cookie : Cookie) × (directory_entries fs dir name ≡ Some (n, cookie)))
    × (create fs who now dir name a ≡ (set_attributes fs who now n a >>= λ after. Ok (n, after.1)))
DecidesCreate fs who now dir name a (Ok None) =
    (directory_entries fs dir name ≡ None)
    × ((x : FileNumber × Files) × (create fs who now dir name a ≡ Ok x))
DecidesCreate fs who now dir name a (Err e) = create fs who now dir name a ≡ Err e
