-- How the witnesses of a script close, one after the other, and how it comes to its end.
use Rattle.std.specs.Prelude.{◌≡◌, ℕ, ⊤, List, [], ◌∷◌, ◌++◌, Option, Some, None, codes}
use Rattle.std.specs.Io.KnownBytes.{Appends, IsAtEnd}
use Rattle.std.specs.List.{flat_map, AllByRecursion}
use Rattle.witness_calls.specs.witness_service.Claims.{Claim, claims_of}
use Rattle.witness_calls.specs.witness_service.declared.shared.ReceiptFault.{ReceiptFault}
use Rattle.witness_calls.specs.witness_service.declared.shared.ReceiptFault.TheVariants as faults
use Rattle.witness_books.specs.Books.{bases_in, beginning_of}
use Rattle.witness_spec.specs.Starting.{KnownBase}
use Rattle.witness_calls.specs.Closing.{IsFaulty, IsOneRun, passes_in}
use Rattle.scripts.specs.Turns.{Turn, IsTurn, added_by, texts_of}
use Rattle.scripts.specs.declared.script.ScriptEnd.{ScriptEnd}
use Rattle.scripts.specs.declared.script.ScriptEnd.TheVariants.{Closed, NotInJournal, Bad}
use Rattle.scripts.specs.declared.stop.Stop.{Stop}
use Rattle.scripts.specs.declared.stop.Stop.TheVariants as stops

-- ---- a witness

-- Where the witness closed, all its steps make one history, in which each receipt stands once; else it closed
-- with a fault.
abbrev pub IsEnd : ScriptEnd → Type 0
IsEnd (Closed c) = IsOneRun c
IsEnd (NotInJournal fault) = IsFaulty fault
IsEnd (Bad line) = ⊥

-- the last line of a witness that closed so; none where a line was bad
abbrev pub last_line : ScriptEnd → List ℕ
last_line (Closed c) = codes "closed ok\n"
last_line (NotInJournal fault) = codes "closed fault 1\n"
last_line (Bad line) = []

-- The witness closed with one pass, which has these claims.
abbrev pub Closes : List Claim → ScriptEnd → Type 0
Closes claims (Closed c) = claims_of c.passes.items ≡ claims ∷ []
Closes claims (NotInJournal fault) = claims_of (passes_in fault) ≡ claims ∷ []
Closes claims (Bad line) = ⊥

-- the bases that come back with a fault
abbrev pub bases_of : ReceiptFault → List KnownBase
bases_of (faults.NotInJournal passes journal roster bases) = bases_in bases.items
bases_of (faults.AnotherBeginning passes journal roster bases) = bases_in bases.items

-- A witness that closed so began with these bases: so did its journal, where it closed well.
abbrev pub Began : List KnownBase → ScriptEnd → Type 0
Began bases (Closed c) = (beginning_of c.journal.books).bases ≡ bases
Began bases (NotInJournal fault) = bases_of fault ≡ bases
Began bases (Bad line) = ⊥

-- a witness of a script: the bases with which it began, the turns of its lines, and how it closed
pub record Watch : Type 0 where
  pub bases : List KnownBase
  pub turns : List Turn
  pub closing : ScriptEnd

-- It began with these bases, each turn is what its line does, the witness closed, and the claims of all turns
-- are those of the one pass with which it closed.
pub record IsWatch (w : Watch) : Type 0 where
  pub began : Began w.bases w.closing
  pub each : AllByRecursion IsTurn w.turns
  pub end : IsEnd w.closing
  pub pass : Closes (added_by w.turns) w.closing

-- what is printed of it: the texts of its turns, and its last line
abbrev pub watch_text : Watch → List ℕ
watch_text w = texts_of w.turns ++ last_line w.closing

-- One witness was there, began with these bases and closed so, and what is printed of it was written.
pub record Watches (bases : List KnownBase) (before after : Option (List ℕ)) (closing : ScriptEnd) : Type 0 where
  pub watch : Watch
  pub is : IsWatch watch
  pub begins : watch.bases ≡ bases
  pub closes : watch.closing ≡ closing
  pub wrote : Appends before after (watch_text watch)

-- ---- one after the other

-- the line of a witness that begins after another one
abbrev pub joined_line : List ℕ
joined_line = codes "joined\n"

-- what is printed of witnesses after each of which another one began
abbrev pub joined_text : List Watch → List ℕ
joined_text watches = flat_map (λ w. watch_text w ++ joined_line) watches

-- There is one base.
abbrev pub IsOneBase : List KnownBase → Type 0
IsOneBase bases = (base : KnownBase) × (bases ≡ base ∷ [])

-- The first of these witnesses began with these bases, and each one after it with one base.
abbrev pub AreJoined : List KnownBase → List Watch → Type 0
AreJoined bases [] = ⊤
AreJoined bases (w ∷ watches) = (w.bases ≡ bases) × AllByRecursion (λ x. IsOneBase x.bases) watches

-- the first fault with which a witness closed, once one more closed
abbrev pub fault_after : Option ReceiptFault → ScriptEnd → Option ReceiptFault
fault_after (Some fault) end = Some fault
fault_after None (Closed c) = None
fault_after None (NotInJournal fault) = Some fault
fault_after None (Bad line) = None

-- the first fault with which one of these witnesses closed, if one did, where a first one is known
abbrev pub first_fault : Option ReceiptFault → List Watch → Option ReceiptFault
first_fault known [] = known
first_fault known (w ∷ watches) = first_fault (fault_after known w.closing) watches

-- the end of a script by that fault, and by how its last witness closed
abbrev pub end_by : Option ReceiptFault → ScriptEnd → ScriptEnd
end_by None closing = closing
end_by (Some fault) closing = NotInJournal fault

-- Each line was run: those of one witness after the other, the first of which began with these bases. What is
-- printed of them was written. The script ends with the first fault with which a witness closed, or else as the
-- last one closed.
pub record Plays (bases : List KnownBase) (before after : Option (List ℕ)) (end : ScriptEnd) : Type 0 where
  pub earlier : List Watch
  pub last : Watch
  pub each : AllByRecursion IsWatch earlier
  pub is_last : IsWatch last
  pub joined : AreJoined bases (earlier ++ last ∷ [])
  pub wrote : Appends before after (joined_text earlier ++ watch_text last)
  pub ends : end ≡ end_by (first_fault None earlier) last.closing

-- Lines were run, and what is printed of them was written, and nothing else: those of earlier witnesses, and
-- some of a last one.
pub record WritesLines (bases : List KnownBase) (before after : Option (List ℕ)) : Type 0 where
  pub earlier : List Watch
  pub each : AllByRecursion IsWatch earlier
  pub joined : AreJoined bases earlier
  pub turns : List Turn
  pub each_turn : AllByRecursion IsTurn turns
  pub wrote : Appends before after (joined_text earlier ++ texts_of turns)

-- What was written at an end: all that is printed of the script's lines and of how its witnesses closed; or,
-- where a line is bad, what is printed of the lines before it.
abbrev pub Writes : List KnownBase → (before after : Option (List ℕ)) → ScriptEnd → Type 0
Writes bases before after (Closed c) = Plays bases before after (Closed c)
Writes bases before after (NotInJournal fault) = Plays bases before after (NotInJournal fault)
Writes bases before after (Bad line) = WritesLines bases before after

-- Why no line was run after some others: if the next one is bad, what is printed of these was written.
abbrev pub LeavesScript : List KnownBase → (before after : Option (List ℕ)) → Stop → Type 0
LeavesScript bases before after stop = stop ≡ stops.Bad → WritesLines bases before after

-- A script ended as its witnesses closed; of a bad line nothing is said here.
abbrev pub IsScriptEnd : ScriptEnd → Type 0
IsScriptEnd (Closed c) = IsOneRun c
IsScriptEnd (NotInJournal fault) = IsFaulty fault
IsScriptEnd (Bad line) = ⊤

-- Where each line ran, the script was read to its end, where it is known what is left of it.
abbrev pub IsReadToEnd : (left : Option (List ℕ)) → ScriptEnd → Type 0
IsReadToEnd left (Closed c) = IsAtEnd left
IsReadToEnd left (NotInJournal fault) = IsAtEnd left
IsReadToEnd left (Bad line) = ⊤
