-- Where the audit of a node begins: at its log's first entry, or at a base.
use Rattle.std.specs.Prelude.{ℕ, ◌-◌, Bool, false, ◌==◌, nat_lt, nat_le, List, [], ◌∷◌, map, find}
use Rattle.std.specs.Prelude.{Option, Some, None, if◌then◌else◌}
use Rattle.std.specs.List.{AllByRecursion, IsDistinct}
use Rattle.xdr.specs.Item.{Fits}
use Rattle.authenticator.specs.declared.member.Member.{Member}
use Rattle.secure_log.specs.LogEntries.Chain.{zeros}
use Rattle.state_spec.specs.State.{State}
use Rattle.evidence_spec.specs.replay_spec.Opening.{opening_of}
use Rattle.evidence_spec.specs.Showing.{ShowingParts}
use Rattle.evidence_spec.specs.Base.{BaseParts, IsGoodBase, base_item, base_value, base_marks}
use Rattle.witness_spec.specs.Pairs.{Pair, first_pair}

-- a base that was found good, with its state
pub record KnownBase : Type 0 where
  pub parts : BaseParts
  pub state : State

-- the node that a base is of
abbrev pub node_of : KnownBase → ℕ
node_of b = b.parts.showing.node

-- what a witness begins with: a roster, and bases of some of its members
pub record Beginning : Type 0 where
  pub roster : List Member
  pub bases : List KnownBase

-- a beginning without bases
abbrev pub from_the_first : List Member → Beginning
from_the_first ms = record { roster = ms; bases = [] }

-- the base of the member with a number, if there is one
abbrev pub base_of : Beginning → (node : ℕ) → Option KnownBase
base_of g node = find (λ b. node_of b == node) g.bases

-- A base has a text and is good under a roster, of a member.
pub record IsKnownBase (ms : List Member) (m : Member) (b : KnownBase) : Type 0 where
  pub text : Fits base_item (base_value b.parts)
  pub good : IsGoodBase ms b.parts m b.state

-- A base, where there is one, is of this member.
abbrev pub IsBaseAt : List Member → Member → Option KnownBase → Type 0
IsBaseAt ms m None = Unit {0}
IsBaseAt ms m (Some b) = IsKnownBase ms m b

-- a base is of some member
pub record IsOfSome (ms : List Member) (b : KnownBase) : Type 0 where
  pub member : Member
  pub known : IsKnownBase ms member b

-- What a witness may begin with: bases of members, no two of one node.
pub record IsBeginning (g : Beginning) : Type 0 where
  pub known : AllByRecursion (IsOfSome g.roster) g.bases
  pub apart : IsDistinct (λ n m. n == m) (map node_of g.bases)

-- ---- what is known there

-- the number at which the audit begins: 0, or that of the base
abbrev pub start_number : Option KnownBase → ℕ
start_number None = 0
start_number (Some b) = b.parts.at

-- the state there: that which the node begins with, or that of the base
abbrev pub start_state : Member → Option KnownBase → State
start_state m None = opening_of m
start_state m (Some b) = b.state

-- the mark of the first pair with a number; no bytes if there is none
abbrev pub mark_at : (number : ℕ) → List Pair → List ℕ
mark_at number [] = []
mark_at number (p ∷ pairs) = if p.0 == number then p.1 else mark_at number pairs

-- the hash there: 32 zero bytes, or that of the base's CHECK
abbrev pub start_hash : Option KnownBase → List ℕ
start_hash None = zeros
start_hash (Some b) = mark_at b.parts.at (base_marks b.parts)

-- what is shown there: the pair before the first entry, and the marks that the base has up to its number
abbrev pub start_pairs : Option KnownBase → List Pair
start_pairs None = first_pair ∷ []
start_pairs (Some b) = first_pair ∷ base_marks b.parts

-- a number is below all that the base's showing marks
abbrev pub is_below : Option KnownBase → (number : ℕ) → Bool
is_below None number = false
is_below (Some b) number = nat_lt number (b.parts.showing.first - 1)

-- the base's showing, of a number up to the base's
abbrev pub start_showing : Option KnownBase → (number : ℕ) → Option ShowingParts
start_showing None number = None
start_showing (Some b) number = if nat_le number b.parts.at then Some b.parts.showing else None
