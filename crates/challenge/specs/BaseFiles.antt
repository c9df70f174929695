-- Files of bases: a roster's text (RFC 4506), and after it that of a base.
use Rattle.std.specs.Prelude.{◌≡◌, ◌⊎◌, ℕ, List, Result, Ok, Err, IsTrue}
use Rattle.xdr.specs.Reading.{read_at}
use Rattle.authenticator.specs.declared.member.Member.{Member}
use Rattle.authenticator.specs.declared.refusal.Refusal.{Refusal}
use Rattle.authenticator.specs.declared.refusal.Refusal.TheVariants.{Garbage, NoMemory}
use Rattle.authenticator.specs.Roster.{is_roster_value, roster_item, roster_value}
use Rattle.challenge.specs.KnownBases.{ChecksBase, KnownBase}

-- The bytes begin with a roster's text, after which these are left.
pub record HasRoster (bytes : List ℕ) (ms : List Member) (rest : List ℕ) : Type 0 where
  pub item : read_at roster_item bytes ≡ Ok (roster_value ms, rest)
  pub passes : IsTrue (is_roster_value (roster_value ms))

-- They begin with none.
abbrev pub HasNoRoster : List ℕ → Type 0
HasNoRoster bytes = (ms : List Member) (rest : List ℕ) → ¬ HasRoster bytes ms rest

-- What is left after the roster is checked under it as a base's text, with this result.
pub record ChecksRest {C : Type 0} (bytes : List ℕ) (value : C → KnownBase) (member : C → Member)
    (result : Result C Refusal) : Type 0 where
  pub roster : List Member
  pub rest : List ℕ
  pub has : HasRoster bytes roster rest
  pub checks : ChecksBase roster rest value member result

-- What checking such a file answers: that, or Garbage where it begins with no roster.
abbrev pub ChecksFile : {C : Type 0} (bytes : List ℕ) (value : C → KnownBase) (member : C → Member)
    → Result C Refusal → Type 0
ChecksFile bytes value member (Ok c) = ChecksRest bytes value member (Ok c)
ChecksFile bytes value member (Err Garbage) = HasNoRoster bytes ⊎ ChecksRest bytes value member (Err Garbage)
ChecksFile bytes value member (Err NoMemory) = Unit {0}
ChecksFile bytes value member (Err e) = ChecksRest bytes value member (Err e)
