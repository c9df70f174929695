-- What is read of a file.
use Rattle.std.specs.Prelude.{◌≡◌, ◌==◌, ◌<◌, ◌≤◌, ◌⊎◌, ℕ, if◌then◌else◌, List, ◌++◌, length, drop, Ok}
use Rattle.xdr.specs.Reading.{number_at}
use Rattle.authenticator.specs.declared.roster.TheConstants.{SECOND_FORM}
use Rattle.console.specs.Checking.{HoldsNone}
use Rattle.console.specs.declared.input.Contents.{Contents}
use Rattle.console.specs.declared.input.Contents.TheVariants.{Whole, Front}

-- The most bytes of a file with evidence: 3,080 of a roster of 64 members in its second form, 8 of the node
-- and the charge, 67,306,100 of a base of a log of version 2, with 4,096 links and 67,108,864 bytes of a state, and
-- 1,917,076,068 of such a log of 65,536 entries after it. An entry has 29,252 bytes at most: its word, and a
-- message received, with a body of 12,288 bytes and a signature whose path has 16 hashes.
abbrev pub longest_case : ℕ
longest_case = 1984385256

-- where a roster's text has the count of its members, by its first word
abbrev pub count_place : (first : ℕ) → ℕ
count_place first = if first == SECOND_FORM then 4 else 0

-- how many bytes each member has there
abbrev pub member_size : (first : ℕ) → ℕ
member_size first = if first == SECOND_FORM then 48 else 44

-- the word at a place (RFC 4506, section 4.2)
pub record IsWordAt (bytes : List ℕ) (at n : ℕ) : Type 0 where
  pub rest : List ℕ
  pub word : number_at 4 (drop at bytes) ≡ Ok (n, rest)
  pub inside : at ≤ length bytes

-- What was read of a file is all of it, or a beginning; then it holds no roster, alone
-- or with evidence after it.
abbrev pub IsContents : Contents → List ℕ → Type 0
IsContents (Whole bytes) input = bytes.items ≡ input
IsContents (Front bytes) input = HoldsNone input

-- More than so many bytes, with which all begin.
pub record IsMoreThan (most : ℕ) (bytes input : List ℕ) : Type 0 where
  pub rest : List ℕ
  pub many : most < length bytes
  pub begins : input ≡ bytes ++ rest

-- What was read of a file is all of it, or more than so many bytes.
abbrev pub IsFront : (most : ℕ) → (bytes input : List ℕ) → Type 0
IsFront most bytes input = (bytes ≡ input) ⊎ IsMoreThan most bytes input
