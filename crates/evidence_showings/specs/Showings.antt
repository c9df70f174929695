-- Showings whose parts have spellings, and that end in their closings.
use Rattle.std.specs.Prelude.{◌≡◌, ℕ, ◌-◌, ◌<◌, ◌≤◌, ◌^◌, List, [], ◌∷◌}
use Rattle.std.specs.List.{AllByRecursion}
use Rattle.xdr.specs.Item.{Fits}
use Rattle.authenticator.specs.declared.member.LogVersion.{LogVersion}
use Rattle.authenticator.specs.declared.member.LogVersion.TheVariants.{One, Two}
use Rattle.authenticator.specs.Numbers.{word_of}
use Rattle.evidence_spec.specs.secure_log.LogEntries.Chain.{Link, last_hash}
use Rattle.evidence_spec.specs.secure_log.LogEntries.Words.{ClosesAt, MAX_SKIPPED, MaySkip}
use Rattle.evidence_spec.specs.Showing.{ShowingParts, ShownLink, links_in}
use Rattle.evidence_spec.specs.Showing.{showing_item, showing_value}

-- Each part of a showing but what it skips has a spelling: it has a text of a log of version 1.
abbrev pub HasText : ShowingParts → Type 0
HasText s = Fits (showing_item One) (showing_value One s)

-- What it skips may be skipped in a text of a log of version 2: it has one.
abbrev pub HasWords : ShowingParts → Type 0
HasWords s = AllByRecursion (MaySkip Two) (links_in s)

-- A showing speaks of numbers from 1 on, skips as a log of this version may, and ends in the word and hash of
-- its closing, which is of the same node.
pub record Ends (v : LogVersion) (s : ShowingParts) : Type 0 where
  pub first : 0 < s.first
  pub skips : AllByRecursion (MaySkip v) (links_in s)
  pub node : s.closing.node ≡ s.node
  pub last : ClosesAt v (s.first - 1) (links_in s) s.closing.word
  pub hash : s.closing.hash ≡ last_hash s.opening (links_in s)

-- A showing says no more than its text of a log of a version does: in version 1 its links skip nothing, in
-- version 2 its first number is at least 1.
abbrev pub SaysNoMore : LogVersion → ShowingParts → Type 0
SaysNoMore One s = AllByRecursion (λ l. l.skipped ≡ 0) s.links
SaysNoMore Two s = 0 < s.first

-- An entry that skips so many numbers may have this number in a text of a log of this version.
abbrev pub MayHave : LogVersion → (skipped number : ℕ) → Type 0
MayHave One skipped number = skipped ≡ 0
MayHave Two skipped number = (skipped ≤ MAX_SKIPPED) × (number < 2 ^ 32)

-- a shown link with its number
abbrev pub numbered_link : ShownLink → (number : ℕ) → Link
numbered_link l number =
    record { skipped = l.skipped; number = number; kind = l.kind; content = l.content }

-- the word of the last of some links, or the one before them
abbrev pub word_after : ℕ → List Link → ℕ
word_after entry_word [] = entry_word
word_after entry_word (l ∷ ls) = word_after (word_of l.skipped l.number) ls
