-- How much files take, and how much they may.
use Rattle.std.specs.Prelude.{ℕ, ◌+◌, ◌/◌, ◌&&◌, nat_le, Bool, length, sum_by}
use Rattle.std.specs.List.{list_all}
use Rattle.std.specs.FinMap as finite
use Rattle.fs_spec.specs.Maxima.{max_files, max_entries, max_blocks, max_number}
use Rattle.fs_spec.specs.Files.{Body, Regular, Symlink, Directory, Files, listing_in}

-- blocks of 512 bytes, of regular files alone
abbrev pub blocks_in : Body → ℕ
blocks_in (Regular bytes) = (length bytes + 511) / 512
blocks_in (Symlink target) = 0
blocks_in (Directory l) = 0

-- the blocks of all files
abbrev pub block_count : Files → ℕ
block_count fs = sum_by (λ f. blocks_in f.body) (finite.values fs.files)

-- the entries of all directories
abbrev pub entry_count : Files → ℕ
entry_count fs = sum_by (λ f. length (listing_in f.body).entries) (finite.values fs.files)

-- how many files there are
abbrev pub file_count : Files → ℕ
file_count fs = finite.len fs.files

-- no limit is passed: of files, entries and blocks in all; and no number and no cookie above the greatest was
-- given
abbrev pub has_room : Files → Bool
has_room fs =
    nat_le (file_count fs) max_files && (nat_le (entry_count fs) max_entries
    && (nat_le (block_count fs) max_blocks && (nat_le fs.next (max_number + 1)
    && list_all (λ f. nat_le (listing_in f.body).next (max_number + 1)) (finite.values fs.files))))
