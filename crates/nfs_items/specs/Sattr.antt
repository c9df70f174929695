-- The attributes that a call brings (RFC 1094, section 2.3.6, sattr).
use Rattle.xdr.specs.Item.{Item, word, pair, Value}
use Rattle.nfs_items.specs.Timeval.{timeval, timeval_value}
use Rattle.nfs_items.specs.declared.sattr.Sattr.{Sattr}

-- mode, uid, gid, size, atime, mtime
abbrev pub sattr : Item
sattr = pair word (pair word (pair word (pair word (pair timeval timeval))))

-- attributes that a call brings, as a value of that item
abbrev pub sattr_value : Sattr → Value sattr
sattr_value s = (s.mode, (s.uid, (s.gid, (s.size, (timeval_value s.atime, timeval_value s.mtime)))))

-- the attributes that a value says
abbrev pub sattr_of : Value sattr → Sattr
sattr_of v = record {
  mode = v.0;
  uid = v.1.0;
  gid = v.1.1.0;
  size = v.1.1.1.0;
  atime = record { seconds = v.1.1.1.1.0.0; microseconds = v.1.1.1.1.0.1 };
  mtime = record { seconds = v.1.1.1.1.1.0; microseconds = v.1.1.1.1.1.1 };
}
