-- What holds of signatures, rosters and words: each law is the contract of a function in src/laws.rt.
use Rattle.std.specs.Prelude.{◌≡◌, ◌↔◌, ℕ, IsTrue, List, false}
use Rattle.xdr.specs.Item.{array, spelling}
use Rattle.merkle_keys.specs.Signing.{SignatureParts, Signed}
use Rattle.authenticator.specs.Signed.{IsSignedIn}
use Rattle.authenticator.specs.Signing.{is_signed, is_signed_in}
use Rattle.authenticator.specs.Roster.{IsRoster, member_item, member_values, roster_item, roster_value}
use Rattle.authenticator.specs.Roster.{some_gaps}
use Rattle.authenticator.specs.declared.roster.TheConstants.{MAX_MEMBERS}
use Rattle.authenticator.specs.declared.member.LogVersion.{LogVersion}
use Rattle.authenticator.specs.Numbers.{IsNumber, number_in, skipped_in, word_of}
use Rattle.authenticator.specs.declared.member.Member.{Member}
use Rattle.authenticator.specs.declared.authenticator.Authenticator.{Authenticator}

-- The tests on signatures are what it means that something is signed.
abbrev pub TestsAsItIsSigned : Type 0
TestsAsItIsSigned =
    (root : List ℕ) (height : ℕ) (digest : List ℕ) (signature : SignatureParts)
    → IsTrue (is_signed root height digest signature) ↔ Signed root height digest signature

-- The test of an authenticator under a list of members is what it means that the member it names signed it.
abbrev pub TestsAsItIsSignedIn : Type 0
TestsAsItIsSignedIn =
    (ms : List Member) (a : Authenticator) → IsTrue (is_signed_in ms a) ↔ IsSignedIn ms a

-- The text of a roster without a log of version 2 is the array of its members.
abbrev pub RostersWithoutGaps : Type 0
RostersWithoutGaps =
    (ms : List Member) → IsRoster ms → some_gaps ms ≡ false
    → spelling roster_item (roster_value ms) ≡ spelling (array MAX_MEMBERS member_item) (member_values ms)

-- A word has one number, and skips one count.
abbrev pub WordsAreRead : Type 0
WordsAreRead =
    (v : LogVersion) (skipped number : ℕ) → IsNumber v skipped number
    → (number_in v (word_of skipped number) ≡ number) × (skipped_in v (word_of skipped number) ≡ skipped)
