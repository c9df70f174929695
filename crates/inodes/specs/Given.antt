-- The attributes that a call gives, as definitions see them.
use Rattle.nfs_spec.specs.Sattr.{GivenFields}
use Rattle.inodes.specs.declared.given.Given.{Given}

-- the fields that a value of the program gives
abbrev pub given_in : Given → GivenFields
given_in g = record {
  mode = g.mode;
  uid = g.uid;
  gid = g.gid;
  size = g.size;
  atime = g.atime;
  mtime = g.mtime;
}
