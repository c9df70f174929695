-- Attributes and stats as items (RFC 1094, section 2.3).
use Rattle.std.specs.Prelude.{ℕ, Bool, ◌==◌, ◌||◌, nat_le, List, ◌++◌, Result, Ok, Err, if◌then◌else◌}
use Rattle.xdr.specs.Item.{Item, word, empty, pair, choice, Value, spelling}
use Rattle.nfs_items.specs.Timeval.{timeval, timeval_value}
use Rattle.nfs_items.specs.declared.attributes.FileType.{FileType}
use Rattle.nfs_items.specs.declared.attributes.FileType.TheVariants.{Regular, Directory, Symlink}
use Rattle.nfs_items.specs.declared.attributes.Fattr.{Fattr}
use Rattle.nfs_items.specs.declared.stat.Stat.{Stat}
use Rattle.nfs_items.specs.declared.stat.Stat.TheVariants as stats

-- ftype (section 2.3.2): NFNON, NFREG, NFDIR, NFBLK, NFCHR and NFLNK are 0 to 5
abbrev pub ftype : Item
ftype = choice (λ n. nat_le n 5) (λ n. empty)

-- the number of a file type: NFREG is 1, NFDIR 2, NFLNK 5
abbrev pub ftype_number : FileType → ℕ
ftype_number Regular = 1
ftype_number Directory = 2
ftype_number Symlink = 5

-- a file's three times: atime, mtime, ctime
abbrev pub times : Item
times = pair timeval (pair timeval timeval)

-- the three times of a file, as a value of that item
abbrev pub times_value : Fattr → Value times
times_value a = (timeval_value a.atime, (timeval_value a.mtime, timeval_value a.ctime))

-- the last fields of a fattr: blocksize, rdev, blocks, fsid, fileid and the times
abbrev pub fattr_end : Item
fattr_end = pair word (pair word (pair word (pair word (pair word times))))

-- the last fields of a fattr, as a value of that item
abbrev pub fattr_end_value : Fattr → Value fattr_end
fattr_end_value a = (a.blocksize, (a.rdev, (a.blocks, (a.fsid, (a.fileid, times_value a)))))

-- fattr (section 2.3.5): type, mode, nlink, uid, gid, size, and the last fields
abbrev pub fattr : Item
fattr = pair ftype (pair word (pair word (pair word (pair word (pair word fattr_end)))))

-- the attributes of a file, as a value of that item
abbrev pub fattr_value : Fattr → Value fattr
fattr_value a =
    ((ftype_number a.file_type, tt), (a.mode, (a.nlink, (a.uid, (a.gid, (a.size, fattr_end_value a))))))

-- stat (section 2.3.1): OK is 0
abbrev pub is_stat : ℕ → Bool
is_stat n =
    (n == 0) || (n == 1) || (n == 2) || (n == 5) || (n == 6) || (n == 13) || (n == 17) || (n == 19)
    || (n == 20) || (n == 21) || (n == 27) || (n == 28) || (n == 30) || (n == 63) || (n == 66) || (n == 69)
    || (n == 70) || (n == 99)

-- a stat, and after OK an item
abbrev pub stat_or : Item → Item
stat_or a = choice is_stat (λ n. if n == 0 then a else empty)

-- a stat other than OK, with nothing after it
abbrev pub stat_value : (a : Item) → Stat → Value (stat_or a)
stat_value a stats.Perm = (1, tt)
stat_value a stats.NoEnt = (2, tt)
stat_value a stats.Io = (5, tt)
stat_value a stats.NxIo = (6, tt)
stat_value a stats.Acces = (13, tt)
stat_value a stats.Exist = (17, tt)
stat_value a stats.NoDev = (19, tt)
stat_value a stats.NotDir = (20, tt)
stat_value a stats.IsDir = (21, tt)
stat_value a stats.FBig = (27, tt)
stat_value a stats.NoSpc = (28, tt)
stat_value a stats.RoFs = (30, tt)
stat_value a stats.NameTooLong = (63, tt)
stat_value a stats.NotEmpty = (66, tt)
stat_value a stats.DQuot = (69, tt)
stat_value a stats.Stale = (70, tt)
stat_value a stats.WFlush = (99, tt)

-- an outcome with another result
abbrev pub outcome_of : {X Y : Type 0} → (X → Y) → Result X Stat → Result Y Stat
outcome_of view (Ok x) = Ok (view x)
outcome_of view (Err e) = Err e

-- a result, or the stat of its refusal
abbrev pub outcome_value : {X : Type 0} (a : Item) → (X → Value a) → Result X Stat → Value (stat_or a)
outcome_value a view (Ok x) = (0, view x)
outcome_value a view (Err e) = stat_value a e

-- the number of a stat other than OK
abbrev pub stat_number : Stat → ℕ
stat_number e = (stat_value empty e).0

-- the bytes of an outcome, by whether there is a result: OK and what is after it, or the stat alone
abbrev pub outcome_text : {X : Type 0} → (X → List ℕ) → Result X Stat → List ℕ
outcome_text text (Ok x) = spelling word 0 ++ text x
outcome_text text (Err e) = spelling word (stat_number e)
