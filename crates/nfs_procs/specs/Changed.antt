-- What a call that changes files gave.
use Rattle.std.specs.Prelude.{◌≡◌, Result, Ok, Err}
use Rattle.nfs_items.specs.Timeval.{Timeval}
use Rattle.nfs_items.specs.Caller.{Caller}
use Rattle.nfs_items.specs.Handle.{FileHandle, handle_of}
use Rattle.nfs_items.specs.Terms.{FileNumber}
use Rattle.nfs_items.specs.declared.attributes.Fattr.{Fattr}
use Rattle.nfs_items.specs.declared.stat.Stat.{Stat}
use Rattle.file_tree.specs.nfs_types.declared.results.NfsResult.{NfsResult}
use Rattle.file_tree.specs.nfs_types.Calls.{Call}
use Rattle.file_tree.specs.nfs_types.Results.{answer_of, IsShort}
use Rattle.nfs_laws.specs.fs_spec.Files.{Files}
use Rattle.nfs_laws.specs.nfs_spec.ProcedureChecks.{◌>>=◌}
use Rattle.nfs_laws.specs.nfs_spec.Effects.{attributes_at}
use Rattle.nfs_laws.specs.nfs_spec.NfsCalls.{call_does}

-- the answer and the files after it
abbrev pub IsDone : Files → Caller → Timeval → Call → NfsResult → Files → Type 0
IsDone old who now call answer new = IsShort answer × (call_does old who now call ≡ (answer_of answer, new))

-- the same where memory may be refused: then the files are as they were
abbrev pub IsChanged : {E : Type 0} → Files → Caller → Timeval → Call → Result NfsResult E → Files → Type 0
IsChanged old who now call (Ok answer) new = IsDone old who now call answer new
IsChanged old who now call (Err e) new = new ≡ old

-- the handle and the attributes of a number that was made or found
abbrev pub file_then : Files → Result FileNumber Stat → Result (FileHandle × Fattr) Stat
file_then fs made = do
  n ← made
  a ← attributes_at fs n
  Ok (handle_of fs.fsid n, a)
