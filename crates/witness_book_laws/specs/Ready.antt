-- What a book's step asks of the book, and of the step; and the books of all members that have it.
use Rattle.std.specs.Prelude.{◌≡◌, ℕ, ◌+◌, ◌-◌, ◌≤◌, List, Option, Some, None}
use Rattle.std.specs.List.{AllByRecursion}
use Rattle.std.specs.FinMap.{len}
use Rattle.authenticator.specs.declared.member.LogVersion.{LogVersion}
use Rattle.witness_laws.specs.evidence_spec.Base.{MAX_KNOWN}
use Rattle.witness_laws.specs.witness_spec.Starting.{KnownBase, Beginning, start_number}
use Rattle.witness_laws.specs.witness_spec.Steps.{Step, Answer}
use Rattle.witness_book_laws.specs.Books.{Book}
use Rattle.witness_book_laws.specs.Fitting.{FitsTogether}
use Rattle.witness_book_laws.specs.LookUps.{HasOneMark}
use Rattle.witness_book_laws.specs.Keeping.{KeepsLimits}
use Rattle.witness_book_laws.specs.Together.{AreKept}

-- the most messages of either kind that a state knows where an audit begins: none without a base
abbrev pub known_at_start : Option KnownBase → ℕ
known_at_start None = 0
known_at_start (Some b) = MAX_KNOWN

-- The end's state knows no more messages of either kind than may be known where the audit began, and one more for
-- each number that was audited since.
pub record KnowsFew (b : Book) : Type 0 where
  -- messages received
  pub received : len b.end.state.received ≤ known_at_start b.base + (b.end.number - start_number b.base)
  -- messages sent that have no acknowledgement
  pub sends : len b.end.state.sends ≤ known_at_start b.base + (b.end.number - start_number b.base)

-- A book can make a step.
pub record IsReady (b : Book) : Type 0 where
  -- its parts fit together
  pub fits : FitsTogether b
  -- it shows one mark at each number, unless the node is exposed
  pub one : HasOneMark b
  -- it keeps its limits
  pub limits : KeepsLimits b
  -- its state knows few messages
  pub few : KnowsFew b

-- A segment that is given is of a log of this version.
abbrev pub IsOfLog : LogVersion → Step → Type 0
IsOfLog v (Answer c) = c.segment.log_version ≡ v
IsOfLog v _ = Unit {0}

-- The books of a beginning's members can make their steps.
pub record AreReady (g : Beginning) (books : List Book) : Type 0 where
  -- they are kept: each fits together, and they stand for a history
  pub kept : AreKept g books
  -- each keeps its limits
  pub limits : AllByRecursion KeepsLimits books
  -- each knows few messages
  pub few : AllByRecursion KnowsFew books
