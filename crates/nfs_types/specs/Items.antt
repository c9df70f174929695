-- Arguments and results of all procedures as items (RFC 1094, sections 2.2 and 2.3).
use Rattle.nfs_items.specs.xdr.Item.{Item, word, fixed, opaque, empty, flag, pair, linked}
use Rattle.nfs_items.specs.Handle.{fhandle}
use Rattle.nfs_items.specs.Attributes.{fattr, stat_or}
use Rattle.nfs_items.specs.Sattr.{sattr}
use Rattle.nfs_types.specs.declared.limits.TheConstants.{MAXNAMLEN, MAXPATHLEN, MAXDATA}

-- a name (section 2.3.7): string<MAXNAMLEN>, at most 255 bytes
abbrev pub filename : Item
filename = opaque MAXNAMLEN

-- path (section 2.3.8): string<MAXPATHLEN>, at most 1,024 bytes
abbrev pub path : Item
path = opaque MAXPATHLEN

-- nfsdata (section 2.2.7): opaque<MAXDATA>, at most 8,192 bytes
abbrev pub nfsdata : Item
nfsdata = opaque MAXDATA

-- ---- arguments

-- diropargs (section 2.3.10)
abbrev pub diropargs : Item
diropargs = pair fhandle filename

-- sattrargs (section 2.2.3)
abbrev pub sattrargs : Item
sattrargs = pair fhandle sattr

-- readargs (section 2.2.7): file, offset, count, totalcount
abbrev pub readargs : Item
readargs = pair fhandle (pair word (pair word word))

-- writeargs (section 2.2.9): file, beginoffset, offset, totalcount, data
abbrev pub writeargs : Item
writeargs = pair fhandle (pair word (pair word (pair word nfsdata)))

-- createargs (section 2.2.10)
abbrev pub createargs : Item
createargs = pair diropargs sattr

-- renameargs (section 2.2.12): from, to
abbrev pub renameargs : Item
renameargs = pair diropargs diropargs

-- linkargs (section 2.2.13): from, to
abbrev pub linkargs : Item
linkargs = pair fhandle diropargs

-- symlinkargs (section 2.2.14): from, to, attributes
abbrev pub symlinkargs : Item
symlinkargs = pair diropargs (pair path sattr)

-- readdirargs (section 2.2.17): dir, cookie, count
abbrev pub readdirargs : Item
readdirargs = pair fhandle (pair (fixed 4) word)

-- ---- results

-- attrstat (section 2.3.9)
abbrev pub attrstat : Item
attrstat = stat_or fattr

-- diropres (section 2.3.11)
abbrev pub diropres : Item
diropres = stat_or (pair fhandle fattr)

-- readlinkres (section 2.2.6)
abbrev pub readlinkres : Item
readlinkres = stat_or path

-- readres (section 2.2.7): attributes and data
abbrev pub readres : Item
readres = stat_or (pair fattr nfsdata)

-- a stat alone
abbrev pub status : Item
status = stat_or empty

-- entry (section 2.2.17): fileid, name, cookie
abbrev pub entry : Item
entry = pair word (pair filename (fixed 4))

-- readdirres (section 2.2.17): entries, eof
abbrev pub readdirres : Item
readdirres = stat_or (pair (linked entry) flag)

-- the figures of a file system: tsize, bsize, blocks, bfree, bavail
abbrev pub fs_stats : Item
fs_stats = pair word (pair word (pair word (pair word word)))

-- statfsres (section 2.2.18)
abbrev pub statfsres : Item
statfsres = stat_or fs_stats
