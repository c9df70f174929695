-- Rosters: the members of a service, by rising numbers.
use Rattle.std.specs.Prelude.{ℕ, suc, Bool, true, false, ◌&&◌, ◌||◌, ◌==◌, nat_le, nat_lt, IsTrue, List, []}
use Rattle.std.specs.Prelude.{◌∷◌, map, Option, Some, None, if◌then◌else◌, length}
use Rattle.std.specs.List.{AllByRecursion, list_any}
use Rattle.xdr.specs.Item.{Item, Value, Fits, word_where, fixed, pair, array, repeated, choice}
use Rattle.xdr.specs.Texts.Text.{Text}
use Rattle.authenticator.specs.declared.member.Kind.{Kind}
use Rattle.authenticator.specs.declared.member.Kind.TheVariants.{Server, Client}
use Rattle.authenticator.specs.declared.member.LogVersion.{LogVersion}
use Rattle.authenticator.specs.declared.member.LogVersion.TheVariants.{One, Two}
use Rattle.authenticator.specs.declared.member.Member.{Member}
use Rattle.authenticator.specs.declared.member.TheConstants.{MAX_NODE}
use Rattle.authenticator.specs.declared.roster.TheConstants.{MAX_MEMBERS, SECOND_FORM}
use Rattle.merkle_keys.specs.declared.signature.TheConstants.{MAX_HEIGHT}
use Rattle.authenticator.specs.declared.refusal.RosterFault.{RosterFault}
use Rattle.authenticator.specs.declared.refusal.RosterFault.TheVariants.{TooMany, BadNumber, BadHeight}
use Rattle.authenticator.specs.declared.refusal.RosterFault.TheVariants.{NotRising}

-- a kind's number in a text
abbrev pub kind_number : Kind → ℕ
kind_number Server = 1
kind_number Client = 2

-- a member's number is from 1 to MAX_NODE
abbrev pub is_node : ℕ → Bool
is_node n = nat_lt 0 n && nat_lt n (suc MAX_NODE)

-- its kind is 1 or 2
abbrev pub is_kind : ℕ → Bool
is_kind n = n == 1 || n == 2

-- the height of its tree of keys is from 1 to MAX_HEIGHT
abbrev pub is_height : ℕ → Bool
is_height n = nat_lt 0 n && nat_lt n (suc MAX_HEIGHT)

-- the number of a log's version in a text
abbrev pub log_number : LogVersion → ℕ
log_number One = 1
log_number Two = 2

-- it is 1 or 2
abbrev pub is_log : ℕ → Bool
is_log n = n == 1 || n == 2

-- whether numbers may be skipped in a log of a version
abbrev pub has_gaps : LogVersion → Bool
has_gaps One = false
has_gaps Two = true

-- A member in a text (RFC 4506): number, kind, root and height.
abbrev pub member_item : Item
member_item = pair (word_where is_node) (pair (word_where is_kind) (pair (fixed 32) (word_where is_height)))

-- what the text says
abbrev pub member_value : Member → Value member_item
member_value m = (m.node, (kind_number m.kind, (m.root, m.height)))

-- members in a text, but for the versions of their logs
abbrev pub member_values : List Member → List (Value member_item)
member_values ms = map member_value ms

-- each number is above the one before, the first above `low`
abbrev pub rises_above : ℕ → List (Value member_item) → Bool
rises_above low [] = true
rises_above low (m ∷ ms) = nat_lt low m.0 && rises_above m.0 ms

-- Members are a roster: at most MAX_MEMBERS, each of which can be spelled, by rising numbers.
abbrev pub IsRoster : List Member → Type 0
IsRoster ms =
    Fits (array MAX_MEMBERS member_item) (member_values ms) × IsTrue (rises_above 0 (member_values ms))

-- each member can be spelled
abbrev pub EachFits : List Member → Type 0
EachFits ms = AllByRecursion (λ v. Fits member_item v) (member_values ms)

-- ---- the text of a roster, which has two forms

-- some member's log is of version 2
abbrev pub some_gaps : List Member → Bool
some_gaps ms = list_any (λ m. has_gaps m.log_version) ms

-- The first word of the text: in the first form the count of the members, in the second SECOND_FORM.
abbrev pub is_roster_word : ℕ → Bool
is_roster_word n = nat_le n MAX_MEMBERS || n == SECOND_FORM

-- a member in the second form: the version of its log comes last
abbrev pub versioned_item : Item
versioned_item = pair member_item (word_where is_log)

-- what the text says
abbrev pub versioned_value : Member → Value versioned_item
versioned_value m = (member_value m, log_number m.log_version)

-- What stands after the first word: in the first form so many members, all of whose logs are of version 1; in
-- the second an array of members with their logs.
abbrev pub members_item : (second : Bool) (count : ℕ) → Item
members_item true count = array MAX_MEMBERS versioned_item
members_item false count = repeated count member_item

-- what it says of members
abbrev pub members_value : (second : Bool) (count : ℕ) → List Member → Value (members_item second count)
members_value true count ms = map versioned_value ms
members_value false count ms = member_values ms

-- a roster in a text, in either form
abbrev pub roster_item : Item
roster_item = choice is_roster_word (λ n. members_item (n == SECOND_FORM) n)

-- the members that a text lists, and whether it is in the second form
pub record ListedParts : Type 0 where
  pub second : Bool
  pub members : List Member

-- the first word of the text that lists them
abbrev pub listed_word : ListedParts → ℕ
listed_word l = if l.second then SECOND_FORM else length l.members

-- what the text says
abbrev pub listed_value : ListedParts → Value roster_item
listed_value l =
    (listed_word l, members_value (listed_word l == SECOND_FORM) (listed_word l) l.members)

-- the numbers rise, and in the second form some log is of version 2
abbrev pub members_pass : (second : Bool) (count : ℕ) → Value (members_item second count) → Bool
members_pass true count vs = rises_above 0 (map (λ v. v.0) vs) && list_any (λ v. v.1 == 2) vs
members_pass false count vs = rises_above 0 vs

-- so of what a roster's text says
abbrev pub is_roster_value : Value roster_item → Bool
is_roster_value v = members_pass (v.0 == SECOND_FORM) v.0 v.1

-- The text of a roster: the test holds, and nothing may follow.
abbrev pub roster_text : Text
roster_text = record { item = roster_item; test = is_roster_value }

-- What the text says. It is in the second form exactly where some log is of version 2.
abbrev pub roster_value : List Member → Value roster_item
roster_value ms = listed_value (record { second = some_gaps ms; members = ms })

-- ---- faults and members

-- What is wrong with a member after one with the number `low`, if something is.
abbrev pub member_fault : ℕ → Member → Option RosterFault
member_fault low m =
    if is_node m.node then (
    if is_height m.height then (if nat_lt low m.node then None else Some NotRising) else Some BadHeight
    ) else Some BadNumber

-- the first fault of two
abbrev pub first_of : Option RosterFault → Option RosterFault → Option RosterFault
first_of (Some fault) later = Some fault
first_of None later = later

-- the fault of the first member that has one
abbrev pub first_fault : ℕ → List Member → Option RosterFault
first_fault low [] = None
first_fault low (m ∷ ms) = first_of (member_fault low m) (first_fault m.node ms)

-- what is wrong with members that are no roster
abbrev pub roster_fault : List Member → Option RosterFault
roster_fault ms = if nat_lt MAX_MEMBERS (length ms) then Some TooMany else first_fault 0 ms

-- the member with a number
abbrev pub member_of : List Member → ℕ → Option Member
member_of [] node = None
member_of (m ∷ ms) node = if m.node == node then Some m else member_of ms node

-- whether two versions of logs are the same
abbrev pub same_version : LogVersion → LogVersion → Bool
same_version v w = log_number v == log_number w

-- whether a member's log is of a version; who is no member has none, and may be of any
abbrev pub is_of_version : LogVersion → Option Member → Bool
is_of_version v None = true
is_of_version v (Some m) = same_version m.log_version v

-- whether the log of a node is of a version, as a roster has it
abbrev pub keeps_version : List Member → ℕ → LogVersion → Bool
keeps_version ms node v = is_of_version v (member_of ms node)
