-- An answer's spelling, read back, is the answer: so no answer of a procedure begins another.
-- Serves: the law `answers_have_one_meaning`.
use Rattle.std.proofs.Common.{◌≡◌, ℕ, ◌<◌, ◌^◌, cond, eqb, List, [], ◌∷◌, ◌++◌, map, Result, Ok}
use Rattle.std.proofs.Common.{Err, refl, sym, ap, ◌∙◌, append-nil, arith}
use Rattle.std.specs.List.{AllByRecursion}
use Rattle.byteorder.specs.Endian.{big_number, big_bytes}
use Rattle.byteorder.specs.Numbers.{big_number-reads_back}
use Rattle.nfs_items.specs.xdr.Item.{pair, linked, flag, empty, Value}
use Rattle.nfs_items.specs.xdr.Reading.{Read}
use Rattle.nfs_items.specs.Timeval.{Timeval, timeval}
use Rattle.nfs_items.specs.Handle.{fhandle}
use Rattle.nfs_items.specs.Attributes.{ftype_number, fattr, fattr_value}
use Rattle.nfs_items.proofs.Outcomes.{read_outcome, outcome_again}
use Rattle.nfs_items.proofs.Programs.{read_back_is_one}
use Rattle.nfs_items.specs.declared.attributes.FileType.{FileType}
use Rattle.nfs_items.specs.declared.attributes.FileType.TheVariants.{Regular, Directory, Symlink}
use Rattle.nfs_items.specs.declared.attributes.Fattr.{Fattr}
use Rattle.nfs_items.specs.declared.stat.Stat.{Stat}
use Rattle.nfs_types.specs.declared.arguments.NfsProcedure.{NfsProcedure}
use Rattle.nfs_types.specs.declared.arguments.NfsProcedure.TheVariants as procedures
use Rattle.nfs_types.specs.declared.results.FsStats.{FsStats}
use Rattle.nfs_types.specs.Items.{path, nfsdata, entry, fs_stats}
use Rattle.nfs_types.specs.Calls as calls
use Rattle.nfs_types.specs.Calls.{Answer, PageEntry, Page}
use Rattle.nfs_types.specs.Texts.{nfs_program, entry_value, fs_stats_value, answer_item, answer_text}
use Rattle.nfs_types.specs.Texts.{procedure_of, IsSpelled, IsAnswerTo}

-- ---- attributes

-- the type of a file's number
abbrev file_type_at : ℕ → FileType
file_type_at n = cond (eqb n 1) Regular (cond (eqb n 2) Directory Symlink)

file_type_is : (t : FileType) → file_type_at (ftype_number t) ≡ t
file_type_is Regular = refl
file_type_is Directory = refl
file_type_is Symlink = refl

-- attributes back from their value
abbrev time_at : Value timeval → Timeval
time_at v = record { seconds = v.0; microseconds = v.1 }

abbrev fattr_at : Value fattr → Fattr
fattr_at (
  t,
  (
    mode,
    (
      nlink,
      (
        uid,
        (
          gid,
          (
            size,
            (blocksize, (rdev, (blocks, (fsid, (fileid, (atime, (mtime, ctime))))))),
          ),
        ),
      ),
    ),
  ),
) = record {
  file_type = file_type_at t.0;
  mode = mode;
  nlink = nlink;
  uid = uid;
  gid = gid;
  size = size;
  blocksize = blocksize;
  rdev = rdev;
  blocks = blocks;
  fsid = fsid;
  fileid = fileid;
  atime = time_at atime;
  mtime = time_at mtime;
  ctime = time_at ctime;
}

fattr_is : (a : Fattr) → fattr_at (fattr_value a) ≡ a
fattr_is a = ap (λ (t : FileType). record a { file_type = t }) (file_type_is a.file_type)

-- ---- entries

-- a cookie's four bytes give it back
cookie_is : (c : ℕ) → c < 2 ^ 32 → big_number 4 (big_bytes 4 c) ≡ c
cookie_is c lt =
    ap (big_number 4) (sym (append-nil (big_bytes 4 c))) ∙ big_number-reads_back 4 c [] (omega (arith, lt))

-- an entry back from its value
abbrev entry_from : Value entry → PageEntry
entry_from v = record { fileid = v.0; name = v.1.0; cookie = big_number 4 v.1.1 }

entries_are : (es : List PageEntry) → AllByRecursion (λ c. c < 2 ^ 32) (map (λ e. e.cookie) es)
    → map entry_from (map entry_value es) ≡ es
entries_are [] all = refl
entries_are (e ∷ es) all =
    let first : entry_from (entry_value e) ≡ e =
    ap (λ (c : ℕ). record e { cookie = c }) (cookie_is e.cookie all.0) in
    let rest = entries_are es all.1 in
    (λ i. first i ∷ rest i)

-- a page back from its value
abbrev page_from : Value (pair (linked entry) flag) → Page
page_from v = record { entries = map entry_from v.0; eof = v.1 }

page_is : (r : Result Page Stat) → IsSpelled (calls.Entries r) → (p : Page) → r ≡ Ok p
    → page_from (map entry_value p.entries, p.eof) ≡ p
page_is (Ok q) h p is =
    let same : q ≡ p = cc in
    let all = entries_are q.entries h.cookies in
    ap (λ (x : Page). page_from (map entry_value x.entries, x.eof)) (sym same)
    ∙ ap (λ (es : List PageEntry). record { entries = es; eof = q.eof }) all ∙ same
page_is (Err e) h p is = absurd cc

-- the figures of a file system back from their value
abbrev fs_stats_from : Value fs_stats → FsStats
fs_stats_from v = record {
  transfer_size = v.0;
  block_size = v.1.0;
  blocks = v.1.1.0;
  free = v.1.1.1.0;
  available = v.1.1.1.1;
}

-- ---- answers

-- the answer of a procedure that stands at the front
answer_at : NfsProcedure → List ℕ → Read Answer
answer_at procedures.Null bytes = Ok (calls.Nothing, bytes)
answer_at procedures.Getattr bytes = read_outcome fattr fattr_at calls.Attributes bytes
answer_at procedures.Setattr bytes = read_outcome fattr fattr_at calls.Attributes bytes
answer_at procedures.Root bytes = Ok (calls.Nothing, bytes)
answer_at procedures.Lookup bytes =
    read_outcome (pair fhandle fattr) (λ v. (v.0, fattr_at v.1)) calls.DirOp bytes
answer_at procedures.Readlink bytes = read_outcome path (λ v. v) calls.Target bytes
answer_at procedures.Read bytes =
    read_outcome (pair fattr nfsdata) (λ v. (fattr_at v.0, v.1)) calls.Bytes bytes
answer_at procedures.Writecache bytes = Ok (calls.Nothing, bytes)
answer_at procedures.Write bytes = read_outcome fattr fattr_at calls.Attributes bytes
answer_at procedures.Create bytes =
    read_outcome (pair fhandle fattr) (λ v. (v.0, fattr_at v.1)) calls.DirOp bytes
answer_at procedures.Remove bytes = read_outcome empty (λ v. v) calls.Status bytes
answer_at procedures.Rename bytes = read_outcome empty (λ v. v) calls.Status bytes
answer_at procedures.Link bytes = read_outcome empty (λ v. v) calls.Status bytes
answer_at procedures.Symlink bytes = read_outcome empty (λ v. v) calls.Status bytes
answer_at procedures.Mkdir bytes =
    read_outcome (pair fhandle fattr) (λ v. (v.0, fattr_at v.1)) calls.DirOp bytes
answer_at procedures.Rmdir bytes = read_outcome empty (λ v. v) calls.Status bytes
answer_at procedures.Readdir bytes = read_outcome (pair (linked entry) flag) page_from calls.Entries bytes
answer_at procedures.Statfs bytes = read_outcome fs_stats fs_stats_from calls.Free bytes

attributes_again : (r : Result Fattr Stat) (rest : List ℕ) → IsSpelled (calls.Attributes r)
    → read_outcome fattr fattr_at calls.Attributes (answer_text (calls.Attributes r) ++ rest)
    ≡ Ok (calls.Attributes r, rest)
attributes_again r rest h =
    outcome_again fattr fattr_value fattr_at calls.Attributes r rest (λ x _. fattr_is x) h.fits

dir_op_again : (r : Result (List ℕ × Fattr) Stat) (rest : List ℕ) → IsSpelled (calls.DirOp r)
    → read_outcome (pair fhandle fattr) (λ v. (v.0, fattr_at v.1)) calls.DirOp
    (answer_text (calls.DirOp r) ++ rest) ≡ Ok (calls.DirOp r, rest)
dir_op_again r rest h =
    outcome_again (pair fhandle fattr) (λ x. (x.0, fattr_value x.1))
    (λ v. (v.0, fattr_at v.1)) calls.DirOp r rest
    (λ x _. ap (λ (a : Fattr). (x.0, a)) (fattr_is x.1)) h.fits

status_again : (r : Result (Unit {0}) Stat) (rest : List ℕ) → IsSpelled (calls.Status r)
    → read_outcome empty (λ v. v) calls.Status (answer_text (calls.Status r) ++ rest)
    ≡ Ok (calls.Status r, rest)
status_again r rest h = outcome_again empty (λ x. x) (λ v. v) calls.Status r rest (λ x _. refl) h.fits

-- an answer of a procedure is read back from its spelling
answer_again : (procedure : NfsProcedure) (a : Answer) (rest : List ℕ) → IsAnswerTo procedure a → IsSpelled a
    → answer_at procedure (answer_text a ++ rest) ≡ Ok (a, rest)
unfolding answer_at
answer_again procedures.Null calls.Nothing rest of h = refl
answer_again procedures.Getattr (calls.Attributes r) rest of h = attributes_again r rest h
answer_again procedures.Setattr (calls.Attributes r) rest of h = attributes_again r rest h
answer_again procedures.Root calls.Nothing rest of h = refl
answer_again procedures.Lookup (calls.DirOp r) rest of h = dir_op_again r rest h
answer_again procedures.Readlink (calls.Target r) rest of h =
    outcome_again path (λ t. t) (λ v. v) calls.Target r rest (λ x _. refl) h.fits
answer_again procedures.Read (calls.Bytes r) rest of h =
    outcome_again (pair fattr nfsdata) (λ x. (fattr_value x.0, x.1))
    (λ v. (fattr_at v.0, v.1)) calls.Bytes r rest
    (λ x _. ap (λ (a : Fattr). (a, x.1)) (fattr_is x.0)) h.fits
answer_again procedures.Writecache calls.Nothing rest of h = refl
answer_again procedures.Write (calls.Attributes r) rest of h = attributes_again r rest h
answer_again procedures.Create (calls.DirOp r) rest of h = dir_op_again r rest h
answer_again procedures.Remove (calls.Status r) rest of h = status_again r rest h
answer_again procedures.Rename (calls.Status r) rest of h = status_again r rest h
answer_again procedures.Link (calls.Status r) rest of h = status_again r rest h
answer_again procedures.Symlink (calls.Status r) rest of h = status_again r rest h
answer_again procedures.Mkdir (calls.DirOp r) rest of h = dir_op_again r rest h
answer_again procedures.Rmdir (calls.Status r) rest of h = status_again r rest h
answer_again procedures.Readdir (calls.Entries r) rest of h =
    outcome_again (pair (linked entry) flag)
    (λ p. (map entry_value p.entries, p.eof)) page_from calls.Entries r rest (page_is r h) h.fits
answer_again procedures.Statfs (calls.Free r) rest of h =
    outcome_again fs_stats fs_stats_value fs_stats_from calls.Free r rest (λ x _. refl) h.fits
answer_again _ _ rest of h = absurd of

-- no answer of a procedure begins another
pub one_meaning : (procedure : NfsProcedure) (a b : Answer) (x y : List ℕ) → IsAnswerTo procedure a
    → IsAnswerTo procedure b → IsSpelled a → IsSpelled b
    → answer_text a ++ x ≡ answer_text b ++ y → (a ≡ b) × (x ≡ y)
one_meaning procedure a b x y i j h k e =
    read_back_is_one nfs_program (answer_at procedure) a b x y (answer_again procedure a x i h)
    (answer_again procedure b y j k) e

-- an answer of a procedure is of its results
pub own_item : (procedure : NfsProcedure) (a : Answer) → IsAnswerTo procedure a
    → answer_item a ≡ (procedure_of procedure).results
own_item procedures.Null calls.Nothing of = refl
own_item procedures.Getattr (calls.Attributes r) of = refl
own_item procedures.Setattr (calls.Attributes r) of = refl
own_item procedures.Root calls.Nothing of = refl
own_item procedures.Lookup (calls.DirOp r) of = refl
own_item procedures.Readlink (calls.Target r) of = refl
own_item procedures.Read (calls.Bytes r) of = refl
own_item procedures.Writecache calls.Nothing of = refl
own_item procedures.Write (calls.Attributes r) of = refl
own_item procedures.Create (calls.DirOp r) of = refl
own_item procedures.Remove (calls.Status r) of = refl
own_item procedures.Rename (calls.Status r) of = refl
own_item procedures.Link (calls.Status r) of = refl
own_item procedures.Symlink (calls.Status r) of = refl
own_item procedures.Mkdir (calls.DirOp r) of = refl
own_item procedures.Rmdir (calls.Status r) of = refl
own_item procedures.Readdir (calls.Entries r) of = refl
own_item procedures.Statfs (calls.Free r) of = refl
own_item _ _ of = absurd of
