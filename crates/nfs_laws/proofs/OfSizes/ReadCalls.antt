-- What a call that was read from bytes brings is within the bounds that the laws of procedures ask for.
-- Serves: `laws::read_calls_are_bounded`.
use Rattle.nfs_spec.specs.nfs_items.declared.sattr.Sattr.{Sattr}
use Rattle.nfs_spec.specs.nfs_types.Calls as calls
use Rattle.nfs_spec.specs.nfs_types.Calls.{Call}
use Rattle.nfs_spec.specs.nfs_types.Bounds.{HasSattrWords, HasBounds}
use Rattle.nfs_laws.specs.Laws.{IsBounded}
use Rattle.nfs_laws.specs.Sizes.Bounds.{AsksWords, HasWordsIn}

asks_words : (s : Sattr) → HasSattrWords s → AsksWords s
asks_words s h = record { uid = h.uid; gid = h.gid; atime = h.atime.0; mtime = h.mtime.0 }

-- names and targets of a call that was read are within the lengths that the laws ask for
pub bounded : (call : Call) → HasBounds call → IsBounded call
bounded calls.Null h = tt
bounded (calls.Getattr file) h = tt
bounded (calls.Setattr file s) h = tt
bounded calls.Root h = tt
bounded (calls.Lookup dir name) h = tt
bounded (calls.Readlink file) h = tt
bounded (calls.Read file offset count) h = tt
bounded calls.Writecache h = tt
bounded (calls.Write file offset new) h = tt
bounded (calls.Create dir name s) h = h.0
bounded (calls.Remove dir name) h = tt
bounded (calls.Rename from from_name to to_name) h = h.1
bounded (calls.Link from dir name) h = h
bounded (calls.Symlink dir name target s) h = (h.0, h.1)
bounded (calls.Mkdir dir name s) h = h.0
bounded (calls.Rmdir dir name) h = tt
bounded (calls.Readdir dir cookie count) h = tt
bounded (calls.Statfs file) h = tt

-- and the attributes that it brings, as far as the laws ask, are words
pub has_words : (call : Call) → HasBounds call → HasWordsIn call
has_words calls.Null h = tt
has_words (calls.Getattr file) h = tt
has_words (calls.Setattr file s) h = asks_words s h
has_words calls.Root h = tt
has_words (calls.Lookup dir name) h = tt
has_words (calls.Readlink file) h = tt
has_words (calls.Read file offset count) h = tt
has_words calls.Writecache h = tt
has_words (calls.Write file offset new) h = tt
has_words (calls.Create dir name s) h = asks_words s h.1
has_words (calls.Remove dir name) h = tt
has_words (calls.Rename from from_name to to_name) h = tt
has_words (calls.Link from dir name) h = tt
has_words (calls.Symlink dir name target s) h = tt
has_words (calls.Mkdir dir name s) h = asks_words s h.1
has_words (calls.Rmdir dir name) h = tt
has_words (calls.Readdir dir cookie count) h = tt
has_words (calls.Statfs file) h = tt
