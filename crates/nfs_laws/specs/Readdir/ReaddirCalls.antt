-- Calls of READDIR one after the other (RFC 1094, section 2.2.17).
use Rattle.std.specs.Prelude.{◌≡◌, ℕ, false, List, [], ◌∷◌, ◌++◌, IsTrue, Result, Ok, Err}
use Rattle.nfs_spec.specs.nfs_items.Timeval.{Timeval}
use Rattle.nfs_spec.specs.nfs_items.Caller.{Caller}
use Rattle.nfs_spec.specs.nfs_items.Handle.{FileHandle}
use Rattle.nfs_spec.specs.nfs_items.declared.stat.Stat.{Stat}
use Rattle.nfs_spec.specs.nfs_items.Terms.{Cookie}
use Rattle.nfs_spec.specs.fs_spec.Files.{Files}
use Rattle.nfs_spec.specs.ProcedureChecks.{NumberedDir, dir_of, may_read}
use Rattle.nfs_spec.specs.nfs_types.Calls.{PageEntry, Page, Answer, Entries, Readdir}
use Rattle.nfs_spec.specs.Readdir.{dir_entries}
use Rattle.nfs_laws.specs.Readdir.Pages.{last_cookie}
use Rattle.nfs_spec.specs.NfsCalls.{number_for, call_does}

-- what a caller reads of a directory that it may read: `.`, `..`, and the entries in order of insertion
pub record Lists (fs : Files) (who : Caller) (handle : FileHandle) (es : List PageEntry) : Type 0 where
  pub dir : NumberedDir
  pub there : dir_of fs (number_for fs handle) ≡ Ok dir
  pub permitted : IsTrue (may_read who dir.file)
  pub is : es ≡ dir_entries fs (number_for fs handle) dir.listing

-- the page of an answer; a refusal has an empty one
abbrev pub page_or_none : Result Page Stat → Page
page_or_none (Ok page) = page
page_or_none (Err e) = record { entries = []; eof = false }

-- the page that an answer holds; one to another procedure has an empty one
abbrev pub page_in : Answer → Page
page_in (Entries r) = page_or_none r
page_in _ = record { entries = []; eof = false }

-- the page that READDIR answers
abbrev pub readdir_page : Files → Caller → Timeval → FileHandle → Cookie → ℕ → Page
readdir_page fs who now handle cookie count = page_in (call_does fs who now (Readdir handle cookie count)).0

-- the entries that calls with these counts give, each from the last cookie of the one before
abbrev pub readdir_gives : Files → Caller → Timeval → FileHandle → Cookie → List ℕ → List PageEntry
readdir_gives fs who now handle cookie [] = []
readdir_gives fs who now handle cookie (count ∷ counts) =
    let es = (readdir_page fs who now handle cookie count).entries in
    es ++ readdir_gives fs who now handle (last_cookie cookie es) counts
