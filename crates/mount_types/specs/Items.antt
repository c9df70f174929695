-- Arguments and results of all procedures as items (RFC 1094, appendix A.4 and A.5).
use Rattle.nfs_items.specs.xdr.Item.{Item, opaque, pair, linked}
use Rattle.nfs_items.specs.Handle.{fhandle}
use Rattle.nfs_items.specs.Attributes.{stat_or}
use Rattle.mount_types.specs.declared.limits.TheConstants.{MNTPATHLEN, MNTNAMLEN}

-- dirpath (A.4.3): string<MNTPATHLEN>, at most 1,024 bytes
abbrev pub dirpath : Item
dirpath = opaque MNTPATHLEN

-- name (A.4.4): string<MNTNAMLEN>, at most 255 bytes
abbrev pub name : Item
name = opaque MNTNAMLEN

-- fhstatus (A.4.2): 0 and a file handle, or a UNIX error number
abbrev pub fhstatus : Item
fhstatus = stat_or fhandle

-- a machine's name and a directory
abbrev pub mount : Item
mount = pair name dirpath

-- mountlist (A.5.3)
abbrev pub mountlist : Item
mountlist = linked mount

-- a directory, and the groups that may mount it (A.5.6, groups)
abbrev pub exported : Item
exported = pair dirpath (linked name)

-- exportlist (A.5.6)
abbrev pub exportlist : Item
exportlist = linked exported
