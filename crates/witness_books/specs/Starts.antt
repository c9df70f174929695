-- What a witness may begin with.
use Rattle.std.specs.Prelude.{◌≡◌, ℕ, ◌==◌, List, map, find, Option, Some}
use Rattle.std.specs.List.{AllByRecursion, IsDistinct}
use Rattle.authenticator.specs.Roster.{member_of}
use Rattle.authenticator.specs.declared.member.Member.{Member}
use Rattle.node_book.specs.challenge.KnownBases as bases
use Rattle.node_book.specs.evidence_spec.Base.{IsBaseOf}
use Rattle.node_book.specs.witness_spec.Starting.{KnownBase, node_of}
use Rattle.node_book.specs.Rows.{known_in}
use Rattle.witness_books.specs.declared.start.StartFault.{StartFault}
use Rattle.witness_books.specs.declared.start.StartFault.TheVariants.{TwoBases, OtherRoot, NoMemory}

-- A base as it is handed in: with the member under whose key it was checked.
pub record Handed : Type 0 where
  pub base : KnownBase
  pub member : Member

-- a base with that member
abbrev pub handed : bases.KnownBase → Member → Handed
handed k m = record { base = known_in k; member = m }

-- the bases alone
abbrev pub handed_bases : List Handed → List KnownBase
handed_bases hs = map (λ h. h.base) hs

-- the base of a node, if there is one
abbrev pub base_at : List KnownBase → (node : ℕ) → Option KnownBase
base_at bs node = find (λ b. node_of b == node) bs

-- No two bases are of one node.
abbrev pub AreApart : List KnownBase → Type 0
AreApart bs = IsDistinct (λ n m. n == m) (map node_of bs)

-- A base is of a roster: its node is a member, with the root and height under which the base was checked,
-- with a log of the base's version, and of the kind of its state.
pub record IsOfRoster (ms : List Member) (h : Handed) : Type 0 where
  -- the member
  pub member : Member
  -- it is the roster's
  pub is_member : member_of ms (node_of h.base) ≡ Some member
  -- its key is the one under which the base was checked
  pub root : member.root ≡ h.member.root
  pub height : member.height ≡ h.member.height
  -- the base is of its log and kind
  pub of_member : IsBaseOf h.base.parts h.base.state member

-- Each base is of the roster.
abbrev pub AreOfRoster : List Member → List Handed → Type 0
AreOfRoster ms hs = AllByRecursion (IsOfRoster ms) hs

-- A witness of a roster may begin with these bases.
pub record MayStart (ms : List Member) (hs : List Handed) : Type 0 where
  -- no two are of one node
  pub apart : AreApart (handed_bases hs)
  -- each is of the roster
  pub of_roster : AreOfRoster ms hs

-- Why it doesn't: two bases are of one node; or none are, and some base isn't of the roster; or memory was
-- refused.
abbrev pub StartFails : List Member → List Handed → StartFault → Type 0
StartFails ms hs TwoBases = ¬ AreApart (handed_bases hs)
StartFails ms hs OtherRoot = AreApart (handed_bases hs) × ¬ AreOfRoster ms hs
StartFails ms hs NoMemory = Unit {0}

-- the number of a fault
abbrev pub start_fault_number : StartFault → ℕ
start_fault_number TwoBases = 1
start_fault_number OtherRoot = 2
start_fault_number NoMemory = 3
