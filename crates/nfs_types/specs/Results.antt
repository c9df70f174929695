-- What the program's results say.
use Rattle.std.specs.Prelude.{ℕ, ◌<◌, ◌^◌, All, List, [], ◌++◌, length, map, Ok}
use Rattle.nfs_items.specs.xdr.Item.{flag, linked, spelling}
use Rattle.nfs_items.specs.Handle.{FileHandle, fhandle}
pub use Rattle.nfs_items.specs.Attributes.{outcome_of}
use Rattle.nfs_items.specs.Attributes.{fattr, fattr_value, outcome_text}
use Rattle.nfs_items.specs.declared.attributes.Fattr.{Fattr}
use Rattle.nfs_types.specs.declared.results.DirOpOk.{DirOpOk}
use Rattle.nfs_types.specs.declared.results.ReadOk.{ReadOk}
use Rattle.nfs_types.specs.declared.results.PageEntry as stored_entry
use Rattle.nfs_types.specs.declared.results.Page as stored
use Rattle.nfs_types.specs.declared.results.NfsResult.{NfsResult}
use Rattle.nfs_types.specs.declared.results.NfsResult.TheVariants as code
use Rattle.nfs_types.specs.Items.{path, nfsdata, entry, fs_stats}
use Rattle.nfs_types.specs.Texts.{entry_value, fs_stats_value}
use Rattle.nfs_types.specs.Calls as calls
use Rattle.nfs_types.specs.Calls.{Answer, PageEntry, Page}

-- the entry that a value of the program stands for
abbrev pub entry_of : stored_entry.PageEntry → PageEntry
entry_of e = record { fileid = e.fileid; name = e.name.now; cookie = e.cookie }

-- the page that a value of the program stands for
abbrev pub page_of : stored.Page → Page
page_of p = record { entries = map entry_of p.entries.items; eof = p.eof }

-- a file's handle and its attributes
abbrev pub dir_op_of : DirOpOk → FileHandle × Fattr
dir_op_of x = (x.file.0, x.attributes)

-- a file's attributes, and the bytes that were read of it
abbrev pub bytes_of : ReadOk → Fattr × List ℕ
bytes_of x = (x.attributes, x.data.now)

-- the answer that a value of the program is
abbrev pub answer_of : NfsResult → Answer
answer_of code.Nothing = calls.Nothing
answer_of (code.Attributes r) = calls.Attributes r
answer_of (code.DirOp r) = calls.DirOp (outcome_of dir_op_of r)
answer_of (code.Target r) = calls.Target (outcome_of (λ t. t.now) r)
answer_of (code.Bytes r) = calls.Bytes (outcome_of bytes_of r)
answer_of (code.Status r) = calls.Status r
answer_of (code.Entries r) = calls.Entries (outcome_of page_of r)
answer_of (code.Free r) = calls.Free r

-- bytes, a target or names are shorter than 2^32 bytes
abbrev pub HasLengths : NfsResult → Type 0
HasLengths (code.Target (Ok target)) = length target.now < 2 ^ 32
HasLengths (code.Bytes (Ok x)) = length x.data.now < 2 ^ 32
HasLengths (code.Entries (Ok p)) = All (λ e. length e.name.now < 2 ^ 32) p.entries.items
HasLengths _ = Unit {0}

-- an answer of a call that changes files: nothing, attributes, a file handle with attributes, or a stat alone
abbrev pub IsShort : NfsResult → Type 0
IsShort code.Nothing = Unit {0}
IsShort (code.Attributes r) = Unit {0}
IsShort (code.DirOp r) = Unit {0}
IsShort (code.Status r) = Unit {0}
IsShort _ = ⊥

-- the bytes of an answer, by what it is
abbrev pub answer_bytes : NfsResult → List ℕ
answer_bytes code.Nothing = []
answer_bytes (code.Attributes r) = outcome_text (λ a. spelling fattr (fattr_value a)) r
answer_bytes (code.DirOp r) =
    outcome_text (λ x. spelling fhandle x.file.0 ++ spelling fattr (fattr_value x.attributes)) r
answer_bytes (code.Target r) = outcome_text (λ t. spelling path t.now) r
answer_bytes (code.Bytes r) =
    outcome_text (λ x. spelling fattr (fattr_value x.attributes) ++ spelling nfsdata x.data.now) r
answer_bytes (code.Status r) = outcome_text (λ x. []) r
answer_bytes (code.Entries r) =
    outcome_text (λ p.
    spelling (linked entry) (map entry_value (map entry_of p.entries.items)) ++ spelling flag p.eof) r
answer_bytes (code.Free r) = outcome_text (λ f. spelling fs_stats (fs_stats_value f)) r
