-- Pages of a listing, one after the other (RFC 1094, section 2.2.17).
use Rattle.std.specs.Prelude.{ℕ, ◌+◌, nat_lt, List, [], ◌∷◌, ◌++◌, ◌≡◌, ◌<◌, ◌≤◌, sum_by}
use Rattle.std.specs.List.{filter}
use Rattle.nfs_spec.specs.nfs_items.Terms.{Cookie}
use Rattle.nfs_spec.specs.nfs_types.Calls.{PageEntry}
use Rattle.nfs_spec.specs.Readdir.{cost, page_of}

-- the cookie of the last entry
abbrev pub last_cookie : Cookie → List PageEntry → Cookie
last_cookie cookie [] = cookie
last_cookie cookie (e ∷ es) = last_cookie e.cookie es

-- what pages of these counts give, each from the last cookie of the one before
abbrev pub pages : List ℕ → Cookie → List PageEntry → List PageEntry
pages [] cookie es = []
pages (count ∷ counts) cookie es =
    (page_of cookie count es).entries
    ++ pages counts (last_cookie cookie (page_of cookie count es).entries) es

-- the entries above a cookie
abbrev pub entries_above : Cookie → List PageEntry → List PageEntry
entries_above cookie es = filter (λ e. nat_lt cookie e.cookie) es

-- cookies rise, all above the first
abbrev pub RisesAbove : Cookie → List PageEntry → Type 0
RisesAbove low [] = Unit {0}
RisesAbove low (e ∷ es) = (low < e.cookie) × RisesAbove e.cookie es

-- the longest front of a list whose costs add up to at most the count
pub record IsLongestFront (count : ℕ) (es page : List PageEntry) : Type 0 where
  pub rest : List PageEntry
  pub splits : es ≡ page ++ rest
  pub fits : sum_by cost page ≤ count
  pub longest : (e : PageEntry) (more : List PageEntry) → rest ≡ e ∷ more → count < sum_by cost page + cost e
