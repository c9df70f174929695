-- A page while it is filled.
use Rattle.std.specs.Prelude.{ℕ, ◌==◌, ◌&&◌, nat_lt, List, ◌++◌, length, map}
use Rattle.std.specs.List.{filter}
use Rattle.nfs_spec.specs.nfs_items.Terms.{Cookie}
use Rattle.nfs_spec.specs.nfs_types.Calls.{PageEntry, Page}
use Rattle.nfs_spec.specs.nfs_types.Results.{entry_of}
use Rattle.nfs_spec.specs.Readdir.{longest_front}
use Rattle.inodes.specs.declared.directories.page.Filling.{Filling}

-- those above a cookie
abbrev pub above : Cookie → List PageEntry → List PageEntry
above cookie es = filter (λ e. nat_lt cookie e.cookie) es

-- the longest front that a room in bytes takes, and whether that is all
abbrev pub front_page : ℕ → List PageEntry → Page
front_page room es =
    record { entries = longest_front room es; eof = length (longest_front room es) == length es }

-- what becomes of a page that is filled so far, if these entries come
abbrev pub page_with : Filling → List PageEntry → Page
page_with f es = record {
  entries = map entry_of f.page.entries.items ++ (front_page f.room es).entries;
  eof = f.page.eof && (front_page f.room es).eof;
}
