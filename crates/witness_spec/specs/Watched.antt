-- Which node is watched, under which roster, and from where.
use Rattle.std.specs.Prelude.{◌≡◌, List, Option, Some}
use Rattle.authenticator.specs.Roster.{member_of}
use Rattle.authenticator.specs.declared.member.Member.{Member}
use Rattle.witness_spec.specs.Starting.{KnownBase, Beginning, base_of, IsBaseAt}

-- a node that is watched: a roster, the member of it that the node is, and the base of it, if there is one
pub record Watched : Type 0 where
  pub roster : List Member
  pub member : Member
  pub base : Option KnownBase

-- a roster's member, watched from a beginning
abbrev pub watched : Beginning → Member → Watched
watched g m = record { roster = g.roster; member = m; base = base_of g m.node }

-- It is watched from a beginning: under its roster, and from the base that it has of the node.
pub record IsWatchedFrom (g : Beginning) (w : Watched) : Type 0 where
  pub roster : g.roster ≡ w.roster
  pub base : base_of g w.member.node ≡ w.base

-- The roster has that member under its number, and the base, where there is one, is of it.
pub record IsInRoster (w : Watched) : Type 0 where
  pub is_member : member_of w.roster w.member.node ≡ Some w.member
  pub base : IsBaseAt w.roster w.member w.base
