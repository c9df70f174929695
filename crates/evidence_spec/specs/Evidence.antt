-- Evidence against a node: that it keeps two logs, or that its log isn't honest; and what is accepted.
use Rattle.std.specs.Prelude.{◌≡◌, ◌≢◌, ℕ, ◌+◌, Bool, true, false, ◌==◌, ◌&&◌, nat_lt, if◌then◌else◌, IsTrue, List}
use Rattle.std.specs.Prelude.{Option, Some, None, option_map}
use Rattle.xdr.specs.Item.{Item, Value, word, pair, choice, optional}
use Rattle.xdr.specs.Texts.Text.{Text}
use Rattle.replay_spec.specs.authenticator.declared.member.LogVersion.{LogVersion}
use Rattle.replay_spec.specs.authenticator.declared.member.LogVersion.TheVariants.{One, Two}
use Rattle.replay_spec.specs.authenticator.declared.member.Member.{Member}
use Rattle.replay_spec.specs.authenticator.Roster.{is_log, keeps_version, member_of}
use Rattle.replay_spec.specs.authenticator.Numbers.{number_item}
use Rattle.replay_spec.specs.secure_log.LogEntries.Chain.{zeros}
use Rattle.replay_spec.specs.secure_log.Versioned.{VersionedParts, IsClosedIn, is_whole_in, versioned_item}
use Rattle.replay_spec.specs.secure_log.Versioned.{versioned_value}
use Rattle.replay_spec.specs.state_spec.State.{State}
use Rattle.replay_spec.specs.Placed.{places_in}
use Rattle.replay_spec.specs.Stepping.{ReplayFault}
use Rattle.replay_spec.specs.Replay.{Fault, verdict_of}
use Rattle.replay_spec.specs.Opening.{opening_of}
use Rattle.evidence_spec.specs.declared.limits.TheConstants as limits
use Rattle.evidence_spec.specs.Base.{BaseParts, IsGoodBase, begun_item, begun_value}
use Rattle.evidence_spec.specs.Showing.{ShowingParts, IsClosedShowing, Shows, showing_item, showing_value}
use Rattle.evidence_spec.specs.Showing.{links_follow}

-- the entries that a replay of a node's log may take up: those that are audited
abbrev pub MAX_AUDITED : ℕ
MAX_AUDITED = limits.MAX_AUDITED

-- A fork of a log of a version: at a number two marks are shown, by one showing each. With one showing alone,
-- it shows another hash than 32 zero bytes before the first entry.
pub record ForkParts : Type 0 where
  pub log_version : LogVersion
  pub at : ℕ
  pub a : ShowingParts
  pub b : Option ShowingParts

-- what is shown against a node
pub data Charge : Type 0 where
  Fork : ForkParts → Charge
  -- a segment from the first entry on, in which a replay finds a fault
  Replay : VersionedParts → Charge
  -- a base, and a segment from the entry after it on, in which a replay from the base's state finds a fault
  Based : BaseParts → VersionedParts → Charge

-- the version of the log that is shown
abbrev pub charge_version : Charge → LogVersion
charge_version (Fork f) = f.log_version
charge_version (Replay s) = s.log_version
charge_version (Based b s) = b.log_version

-- what a node is charged with
pub record EvidenceParts : Type 0 where
  pub node : ℕ
  pub charge : Charge

-- ---- texts (RFC 4506)

-- a fork in a text: the number, a showing, and another one if there is one
abbrev pub fork_item : LogVersion → Item
fork_item v = pair number_item (pair (showing_item v) (optional (showing_item v)))

-- a fork, as its text's value
abbrev pub fork_value : (v : LogVersion) → ForkParts → Value (fork_item v)
fork_value v f = (f.at, (showing_value v f.a, option_map (showing_value v) f.b))

-- the charges' numbers: of a log of version 1 a fork is 1 and a replay 2, of one of version 2 they are 3
-- and 4; 5 is a replay from a base, of a log of either version
abbrev pub is_charge : ℕ → Bool
is_charge n = nat_lt 0 n && nat_lt n 6

-- a replay in a text: a segment of at most MAX_AUDITED entries
abbrev pub replay_item : LogVersion → Item
replay_item v = versioned_item v MAX_AUDITED

-- what stands after the version's number of a base: the rest of the base, and a segment
abbrev pub begun_replay : LogVersion → Item
begun_replay v = pair (begun_item v) (replay_item v)

-- a replay from a base in a text: the base, and a segment of a log of its version
abbrev pub based_item : Item
based_item = choice is_log (λ n. if n == 1 then begun_replay One else begun_replay Two)

-- what stands after a charge's number: a fork, a segment, or a base and a segment
abbrev pub charge_item : ℕ → Item
charge_item n =
    if n == 1 then fork_item One
    else if n == 2 then replay_item One
    else if n == 3 then fork_item Two
    else if n == 4 then replay_item Two
    else based_item

-- evidence in a text: the node, and the charge
abbrev pub evidence_item : Item
evidence_item = pair word (choice is_charge charge_item)

-- a fork, after the number of its charge
abbrev pub fork_charge : LogVersion → ForkParts → Value (choice is_charge charge_item)
fork_charge One f = (1, fork_value One f)
fork_charge Two f = (3, fork_value Two f)

-- a replay, after the number of its charge
abbrev pub replay_charge : LogVersion → VersionedParts → Value (choice is_charge charge_item)
replay_charge One s = (2, versioned_value One s)
replay_charge Two s = (4, versioned_value Two s)

-- a base and a segment of a log of a version, as their text's value
abbrev pub based_value : LogVersion → BaseParts → VersionedParts → Value based_item
based_value One b s = (1, (begun_value One b, versioned_value One s))
based_value Two b s = (2, (begun_value Two b, versioned_value Two s))

-- a charge, as its text's value
abbrev pub charge_value : Charge → Value (choice is_charge charge_item)
charge_value (Fork f) = fork_charge f.log_version f
charge_value (Replay s) = replay_charge s.log_version s
charge_value (Based b s) = (5, based_value b.log_version b s)

-- evidence, as its text's value
abbrev pub evidence_value : EvidenceParts → Value evidence_item
evidence_value e = (e.node, charge_value e.charge)

-- the words of a second showing follow, if there is one
abbrev pub second_follows : Option (Value (showing_item Two)) → Bool
second_follows None = true
second_follows (Some x) = links_follow Two x

-- what stands after the version's number of a base: words of the base's showing follow, and the segment is whole
abbrev pub is_whole_begun : (is_one : Bool) → Value (if is_one then begun_replay One else begun_replay Two) → Bool
is_whole_begun true x = is_whole_in One x.1
is_whole_begun false x = links_follow Two x.0.0 && is_whole_in Two x.1

-- what stands after a charge's number is a fork of a log of version 1; or a segment of such a log that is
-- whole, as each segment's text asks; or a fork of a log of version 2, whose showings' words follow; or a
-- segment of such a log that is whole; or a base with a segment, of which so it is
abbrev pub is_whole_after : (is_fork is_replay is_worded_fork is_worded_replay : Bool)
    → Value (if is_fork then fork_item One
    else if is_replay then replay_item One
    else if is_worded_fork then fork_item Two
    else if is_worded_replay then replay_item Two
    else based_item)
    → Bool
is_whole_after true is_replay is_worded_fork is_worded_replay x = true
is_whole_after false true is_worded_fork is_worded_replay x = is_whole_in One x
is_whole_after false false true is_worded_replay x = links_follow Two x.1.0 && second_follows x.1.1
is_whole_after false false false true x = is_whole_in Two x
is_whole_after false false false false x = is_whole_begun (x.0 == 1) x.1

-- so of a charge
abbrev pub is_whole_charge : Value (choice is_charge charge_item) → Bool
is_whole_charge x = is_whole_after (x.0 == 1) (x.0 == 2) (x.0 == 3) (x.0 == 4) x.1

-- its text: a replay's segment is whole, words follow, and nothing may stand after it
abbrev pub evidence_text : Text
evidence_text = record { item = evidence_item; test = λ v. is_whole_charge v.1 }

-- ---- what is accepted

-- Two showings of a node are closed and show two marks at a number: two hashes, or a hash and that no entry
-- has the number.
pub record ShowsTwo (v : LogVersion) (ms : List Member) (node at : ℕ) (a b : ShowingParts) : Type 0 where
  pub a_node : a.node ≡ node
  pub b_node : b.node ≡ node
  pub a_closed : IsClosedShowing v ms a
  pub b_closed : IsClosedShowing v ms b
  pub one : List ℕ
  pub other : List ℕ
  pub one_shown : Shows a at one
  pub other_shown : Shows b at other
  pub differ : one ≢ other

-- One showing of a node is closed and shows another hash than 32 zero bytes before the first entry.
pub record ShowsNoOpening (v : LogVersion) (ms : List Member) (node : ℕ) (a : ShowingParts) : Type 0 where
  pub a_node : a.node ≡ node
  pub closed : IsClosedShowing v ms a
  pub hash : List ℕ
  pub shown : Shows a 0 hash
  pub differs : hash ≢ zeros

-- a fork is accepted: two showings show two marks at a number, or one alone shows a wrong opening
abbrev pub AcceptsFork : LogVersion → List Member → (node at : ℕ) → ShowingParts → Option ShowingParts → Type 0
AcceptsFork v ms node at a (Some b) = ShowsTwo v ms node at a b
AcceptsFork v ms node at a None = ShowsNoOpening v ms node a

-- A closed segment of a node from the first entry on, in which a replay of the node's kind of machine, from
-- the state that it begins with, finds a fault.
pub record AcceptsReplay (ms : List Member) (node : ℕ) (s : VersionedParts) : Type 0 where
  pub of_node : s.node ≡ node
  pub first : s.first ≡ 1
  pub opening : s.opening ≡ zeros
  pub closed : IsClosedIn ms s
  pub member : Member
  pub is_member : member_of ms node ≡ Some member
  pub fault : ReplayFault
  pub number : ℕ
  pub found : verdict_of ms (opening_of member) (places_in s) ≡ Fault fault number

-- A good base of a node, and a closed segment of the node's log that begins after the base's number and has the hash
-- there as its opening, in which a replay from the base's state finds a fault.
pub record AcceptsBased (ms : List Member) (node : ℕ) (b : BaseParts) (s : VersionedParts) : Type 0 where
  pub member : Member
  pub state : State
  pub good : IsGoodBase ms b member state
  pub base_node : b.showing.node ≡ node
  pub of_node : s.node ≡ node
  pub version : s.log_version ≡ b.log_version
  pub first : s.first ≡ b.at + 1
  pub opening : Shows b.showing b.at s.opening
  pub closed : IsClosedIn ms s
  pub fault : ReplayFault
  pub number : ℕ
  pub found : verdict_of ms state (places_in s) ≡ Fault fault number

-- a charge against a node is accepted under a roster
abbrev pub AcceptsCharge : List Member → (node : ℕ) → Charge → Type 0
AcceptsCharge ms node (Fork f) = AcceptsFork f.log_version ms node f.at f.a f.b
AcceptsCharge ms node (Replay s) = AcceptsReplay ms node s
AcceptsCharge ms node (Based b s) = AcceptsBased ms node b s

-- Evidence is accepted under a roster: the log of the node that it is against, where that is a member, is of
-- the version of what is shown of it, and the charge is accepted.
abbrev pub Accepts : List Member → EvidenceParts → Type 0
Accepts ms e = IsTrue (keeps_version ms e.node (charge_version e.charge)) × AcceptsCharge ms e.node e.charge
