-- Bases: where a witness that comes later begins. A part of a node's log is shown, with a CHECK among its links, and
-- beside it stand the bytes of the state there.
use Rattle.std.specs.Prelude.{◌≡◌, ℕ, ◌<◌, ◌≤◌, ◌==◌, Bool, true, false, if◌then◌else◌, IsTrue, List, Some, filter, nat_le}
use Rattle.std.specs.FinMap.{contains_key, len}
use Rattle.xdr.specs.Item.{Item, Value, pair, opaque, choice}
use Rattle.xdr.specs.Texts.Text.{Text}
use Rattle.replay_spec.specs.authenticator.declared.member.LogVersion.{LogVersion}
use Rattle.replay_spec.specs.authenticator.declared.member.LogVersion.TheVariants.{One, Two}
use Rattle.replay_spec.specs.authenticator.declared.member.Member.{Member}
use Rattle.replay_spec.specs.authenticator.Roster.{is_log, member_of}
use Rattle.replay_spec.specs.authenticator.Numbers.{number_in, number_item}
use Rattle.replay_spec.specs.secure_log.declared.log_entries.entry.Entry.TheVariants.{Check}
use Rattle.replay_spec.specs.secure_log.LogEntries.Chain.{IsAmong, Link, logged_link, zeros}
use Rattle.replay_spec.specs.state_spec.State.{State}
use Rattle.replay_spec.specs.state_spec.StateText.{IsStateText, state_digest}
use Rattle.replay_spec.specs.Opening.{kind_of}
use Rattle.evidence_spec.specs.declared.limits.TheConstants as limits
use Rattle.evidence_spec.specs.Showing.{ShowingParts, IsClosedShowing, Shows, links_follow, links_in}
use Rattle.evidence_spec.specs.Showing.{showing_item, showing_marks, showing_value}

-- the most bytes that a base may have for a state
abbrev pub MAX_STATE : ℕ
MAX_STATE = limits.MAX_STATE

-- the most messages that the state of a base knows as received, and the most that it knows as sent
abbrev pub MAX_KNOWN : ℕ
MAX_KNOWN = limits.MAX_KNOWN

-- What a base says: the version of the node's log, a showing of it, the number of one of its links, and bytes
-- that are to be the text of the state there.
pub record BaseParts : Type 0 where
  pub log_version : LogVersion
  pub showing : ShowingParts
  pub at : ℕ
  pub state : List ℕ

-- ---- texts (RFC 4506)

-- what stands after the version: the showing, the number, the bytes of the state
abbrev pub begun_item : LogVersion → Item
begun_item v = pair (showing_item v) (pair number_item (opaque MAX_STATE))

-- what it says
abbrev pub begun_value : (v : LogVersion) → BaseParts → Value (begun_item v)
begun_value v b = (showing_value v b.showing, (b.at, b.state))

-- a base in a text: the number of the version, and what stands after it
abbrev pub base_item : Item
base_item = choice is_log (λ n. if n == 1 then begun_item One else begun_item Two)

-- a base of a log of a version, as its text's value
abbrev pub base_by : LogVersion → BaseParts → Value base_item
base_by One b = (1, begun_value One b)
base_by Two b = (2, begun_value Two b)

-- a base, as its text's value
abbrev pub base_value : BaseParts → Value base_item
base_value b = base_by b.log_version b

-- in a log of version 2 the words of the showing follow
abbrev pub base_follows : (is_one : Bool) → Value (if is_one then begun_item One else begun_item Two) → Bool
base_follows true x = true
base_follows false x = links_follow Two x.0

-- its text
abbrev pub base_text : Text
base_text = record { item = base_item; test = λ v. base_follows (v.0 == 1) v.1 }

-- ---- what is good

-- the link of a CHECK of a state's digest, before which so many numbers are skipped
abbrev pub check_link : (skipped number : ℕ) → State → Link
check_link skipped number s = logged_link number (record { skipped = skipped; entry = Check (state_digest s) })

-- At the number stands the link of a CHECK with the digest of this state: of that kind, and with H of the digest.
pub record IsCheckAt (b : BaseParts) (s : State) : Type 0 where
  pub skipped : ℕ
  pub link : IsAmong (check_link skipped b.at s) (links_in b.showing)

-- The words under which a state of a log of a version keeps messages that were sent have numbers below one.
abbrev pub SendsLieBelow : LogVersion → State → (number : ℕ) → Type 0
SendsLieBelow v s number = (word : ℕ) → IsTrue (contains_key s.sends word) → number_in v word < number

-- The showing of a base shows no other hash before the first entry than 32 zero bytes, and has the CHECK of a state
-- at the number; and the bytes are the text of that state, which is of the showing's node and knows few messages, of
-- which those sent have numbers below that of the CHECK.
pub record HasState (b : BaseParts) (s : State) : Type 0 where
  pub zero : (mark : List ℕ) → Shows b.showing 0 mark → mark ≡ zeros
  pub check : IsCheckAt b s
  pub text : IsStateText s b.state
  pub node : s.node ≡ b.showing.node
  pub few_received : len s.received ≤ MAX_KNOWN
  pub few_sends : len s.sends ≤ MAX_KNOWN
  pub sends : SendsLieBelow b.log_version s b.at

-- It is of a member: of the version of its log, and the state is that of its kind of node.
pub record IsBaseOf (b : BaseParts) (s : State) (m : Member) : Type 0 where
  pub log_version : b.log_version ≡ m.log_version
  pub kind : kind_of s.machine ≡ m.kind

-- A base is good under a roster, of a member, with this state: its showing is closed besides.
pub record IsGoodBase (ms : List Member) (b : BaseParts) (m : Member) (s : State) : Type 0 where
  pub is_member : member_of ms b.showing.node ≡ Some m
  pub closed : IsClosedShowing b.log_version ms b.showing
  pub state : HasState b s
  pub of_member : IsBaseOf b s m

-- the marks that a base shows up to its number
abbrev pub base_marks : BaseParts → List (ℕ × List ℕ)
base_marks b = filter (λ p. nat_le p.0 b.at) (showing_marks b.showing)
