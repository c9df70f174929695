-- What follows from the Ok of a procedure that only reads.
use Rattle.std.specs.Prelude.{◌≡◌, ℕ, ◌||◌, IsTrue, List, take, drop, min, Some, Ok}
use Rattle.nfs_spec.specs.nfs_items.Caller.{Caller}
use Rattle.nfs_spec.specs.nfs_items.Handle.{FileHandle, number_in, handle_of}
use Rattle.nfs_spec.specs.nfs_items.declared.attributes.Fattr.{Fattr}
use Rattle.nfs_spec.specs.nfs_items.Terms.{Name, FileNumber, Cookie}
use Rattle.nfs_spec.specs.fs_spec.Maxima.{max_data}
use Rattle.nfs_spec.specs.fs_spec.Listing.{Listing}
use Rattle.nfs_spec.specs.fs_spec.Files.{Regular, Symlink, Directory, File, Files, file_at}
use Rattle.nfs_spec.specs.FileAttributes.{attributes_of}
use Rattle.nfs_spec.specs.ProcedureChecks.{permits, may_read}
use Rattle.nfs_spec.specs.Effects.{number_at_name}
use Rattle.nfs_spec.specs.nfs_types.Calls.{Page}
use Rattle.nfs_spec.specs.Readdir.{dir_entries, page_of}

-- attributes are those of a file that is there
pub record AttributesOk (fs : Files) (n : FileNumber) (a : Fattr) : Type 0 where
  pub file : File
  pub there : file_at fs n ≡ Some file
  pub answer : a ≡ attributes_of fs n file

-- GETATTR gives the attributes of the file that a handle names
pub record GetattrOk (fs : Files) (handle : FileHandle) (a : Fattr) : Type 0 where
  pub number : FileNumber
  pub is_named : number_in fs.fsid handle ≡ Some number
  pub attributes : AttributesOk fs number a

-- LOOKUP gives the handle and the attributes of what a name stands for in a directory
pub record LookupOk (fs : Files) (who : Caller) (dir : FileHandle) (name : Name) (handle : FileHandle)
    (a : Fattr) : Type 0 where
  pub dir_number : FileNumber
  pub dir_is_named : number_in fs.fsid dir ≡ Some dir_number
  pub number : FileNumber
  pub is_named : number_at_name fs who dir_number name ≡ Ok number
  pub answer : handle ≡ handle_of fs.fsid number
  pub attributes : AttributesOk fs number a

-- READLINK gives the target of a symbolic link
pub record ReadLinkOk (fs : Files) (n : FileNumber) (target : List ℕ) : Type 0 where
  pub file : File
  pub there : file_at fs n ≡ Some file
  pub answer : file.body ≡ Symlink target

-- READ gives attributes and a part of a regular file that the caller may read or execute
pub record ReadOk (fs : Files) (who : Caller) (n : FileNumber) (offset count : ℕ) (a : Fattr)
    (part : List ℕ) : Type 0 where
  pub file : File
  pub bytes : List ℕ
  pub there : file_at fs n ≡ Some file
  pub regular : file.body ≡ Regular bytes
  pub permitted : IsTrue (may_read who file || permits who file 1)
  pub attributes : a ≡ attributes_of fs n file
  pub answer : part ≡ take (min count max_data) (drop offset bytes)

-- READDIR gives a page of a directory that the caller may read
pub record ReadDirOk (fs : Files) (who : Caller) (n : FileNumber) (cookie : Cookie) (count : ℕ)
    (page : Page) : Type 0 where
  pub file : File
  pub listing : Listing
  pub there : file_at fs n ≡ Some file
  pub directory : file.body ≡ Directory listing
  pub permitted : IsTrue (may_read who file)
  pub answer : page ≡ page_of cookie count (dir_entries fs n listing)
