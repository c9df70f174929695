-- What a call that may change the mounts did, against its effect by definition.
use Rattle.std.specs.Prelude.{◌≡◌, Result, Ok, Err}
use Rattle.mount_types.specs.Calls.{MountAnswer}
use Rattle.mount_types.specs.Results.{answer_of, IsShort}
use Rattle.mount_types.specs.declared.results.MountResult.{MountResult}
use Rattle.mount_types.specs.Mounts.{Mounts}

-- this is the answer, and these are the mounts after it; or memory was refused,
-- and the mounts are as they were
abbrev pub Performs : {E : Type 0} → MountAnswer × Mounts → Mounts → Result MountResult E → Mounts → Type 0
Performs effect old (Ok answer) new = IsShort answer × (effect ≡ (answer_of answer, new))
Performs effect old (Err e) new = new ≡ old
