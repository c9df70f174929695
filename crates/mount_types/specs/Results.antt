-- What the program's results say.
use Rattle.std.specs.Prelude.{ℕ, ◌<◌, ◌^◌, All, List, [], ◌∷◌, length, map}
use Rattle.nfs_items.specs.xdr.Item.{spelling}
use Rattle.nfs_items.specs.Handle.{fhandle}
use Rattle.nfs_items.specs.Attributes.{outcome_of, outcome_text}
use Rattle.mount_types.specs.declared.results.MountResult.{MountResult}
use Rattle.mount_types.specs.declared.results.MountResult.TheVariants as code
use Rattle.mount_types.specs.Items.{mountlist, exportlist}
use Rattle.mount_types.specs.Calls as calls
use Rattle.mount_types.specs.Calls.{MountAnswer}

-- the answer that a value of the program is
abbrev pub answer_of : MountResult → MountAnswer
answer_of code.Nothing = calls.Nothing
answer_of (code.Mounted r) = calls.Mounted (outcome_of (λ handle. handle.0) r)
answer_of (code.Mounts hosts directory) = calls.Mounts (map (λ h. (h.items, directory.now)) hosts.now)
answer_of (code.Exported directory) = calls.Exports ((directory.now, []) ∷ [])

-- names and directories are shorter than 2^32 bytes
abbrev pub HasLengths : MountResult → Type 0
HasLengths (code.Mounts hosts directory) =
    All (λ h. length h.items < 2 ^ 32) hosts.now × (length directory.now < 2 ^ 32)
HasLengths (code.Exported directory) = length directory.now < 2 ^ 32
HasLengths _ = Unit {0}

-- an answer of a call that changes what is mounted: nothing, or a file handle or an error's number
abbrev pub IsShort : MountResult → Type 0
IsShort code.Nothing = Unit {0}
IsShort (code.Mounted r) = Unit {0}
IsShort _ = ⊥

-- the bytes of an answer, by what it is
abbrev pub answer_bytes : MountResult → List ℕ
answer_bytes code.Nothing = []
answer_bytes (code.Mounted r) = outcome_text (λ handle. spelling fhandle handle.0) r
answer_bytes (code.Mounts hosts directory) =
    spelling mountlist (map (λ h. (h.items, directory.now)) hosts.now)
answer_bytes (code.Exported directory) = spelling exportlist ((directory.now, []) ∷ [])
