-- READDIR's listing (RFC 1094, section 2.2.17).
use Rattle.std.specs.Prelude.{ℕ, ◌+◌, ◌-◌, ◌*◌, ◌/◌, nat_le, nat_lt, min, List, [], ◌∷◌, length, map, ◌==◌}
use Rattle.std.specs.Prelude.{if◌then◌else◌}
use Rattle.std.specs.List.{filter}
use Rattle.fs_spec.specs.Maxima.{max_data}
use Rattle.fs_spec.specs.nfs_items.Terms.{FileNumber, Cookie}
use Rattle.fs_spec.specs.Names.{dot, dot_dot}
use Rattle.nfs_types.specs.Calls.{PageEntry, Page}
use Rattle.fs_spec.specs.Listing.{NamedEntry, Listing, entry_name, entry_number, entry_cookie}
use Rattle.fs_spec.specs.Files.{Files, parent_of}

-- an entry of a directory as READDIR gives it
abbrev pub page_entry : NamedEntry → PageEntry
page_entry e = record { fileid = entry_number e; name = entry_name e; cookie = entry_cookie e }

-- `.` and `..`, then the entries in order of insertion, by the directory's own number, the one above and what
-- it lists
abbrev pub entries_listed : FileNumber → FileNumber → Listing → List PageEntry
entries_listed own above l =
    record { fileid = own; name = dot; cookie = 1 }
    ∷ record { fileid = above; name = dot_dot; cookie = 2 }
    ∷ map page_entry l.entries

-- of files: the directory above the root is the root
abbrev pub dir_entries : Files → FileNumber → Listing → List PageEntry
dir_entries fs dir l = entries_listed dir (parent_of fs dir) l

-- the bytes that an entry takes of the count: 16 and the padded name
abbrev pub cost : PageEntry → ℕ
cost e = 16 + 4 * ((length e.name + 3) / 4)

-- the longest front whose costs add up to at most the count
abbrev pub longest_front : ℕ → List PageEntry → List PageEntry
longest_front count [] = []
longest_front count (e ∷ es) = if nat_le (cost e) count then e ∷ longest_front (count - cost e) es else []

-- the page after a cookie, of so many bytes at most: the longest front, and whether it is the last page
abbrev pub page_of : Cookie → ℕ → List PageEntry → Page
page_of cookie count es =
    let above = filter (λ e. nat_lt cookie e.cookie) es in
    let entries = longest_front (min count max_data) above in
    record { entries = entries; eof = length entries == length above }
