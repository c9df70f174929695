-- A connection on which requests are read and answered, in order.
use Rattle.std.specs.Prelude.{◌≡◌, ℕ, Bool, true, false, List, [], ◌∷◌, Option, Some, Result, Ok, Err}
use Rattle.std.specs.Io.KnownBytes.{Appends}
use Rattle.rpc.specs.Records.Record.{fragment}
use Rattle.rpc.specs.Records.Reading.{StaysAtEnd}
use Rattle.rpc.specs.Records.Writing.{WritesFront}
use Rattle.frames.specs.Reading.{TakesRecord}
use Rattle.frames.specs.declared.fault.FrameFault.{FrameFault}
use Rattle.frames.specs.declared.fault.FrameFault.TheVariants as frames
use Rattle.request_streams.specs.declared.answerer.Outcome.{Outcome}
use Rattle.request_streams.specs.declared.answerer.Outcome.TheVariants as outcomes
use Rattle.request_streams.specs.declared.serve.ServeEnd.{ServeEnd}
use Rattle.request_streams.specs.declared.serve.ServeEnd.TheVariants.{AtEnd, AtNoCall}
use Rattle.request_streams.specs.declared.serve.ServeFault.{ServeFault}
use Rattle.request_streams.specs.declared.serve.ServeFault.TheVariants.{NoMemory, Reading, TooLong, Writing}

-- what says which texts are answers to a record
abbrev pub AnswersOf : Type 1
AnswersOf = List ℕ → List ℕ → Type 0

-- A text is an answer to a record, where there is one.
abbrev pub IsAnswerIf : AnswersOf → (bytes text : List ℕ) → Outcome → Type 0
IsAnswerIf Answers bytes text outcomes.Replied = Answers bytes text
IsAnswerIf Answers bytes text outcomes.NoCall = Unit {0}
IsAnswerIf Answers bytes text outcomes.NoMemory = Unit {0}

-- An answer was written as one fragment, or a front of that; too long a one isn't written.
abbrev pub IsWritten : (text : List ℕ) → Result (Unit {0}) ServeFault → (before after : Option (List ℕ)) → Type 0
IsWritten text (Ok x) before after = Appends before after (fragment true text)
IsWritten text (Err NoMemory) before after = ⊥
IsWritten text (Err (Reading fault)) before after = ⊥
IsWritten text (Err TooLong) before after = after ≡ before
IsWritten text (Err Writing) before after = WritesFront before after (fragment true text)

-- What became of a record: an answer was written; or it is no call; or there is none.
abbrev pub IsAnsweredBy : AnswersOf → (bytes : List ℕ) → Result Bool ServeFault → (before after : Option (List ℕ))
    → Type 0
IsAnsweredBy Answers bytes (Ok true) before after =
    (text : List ℕ) × Answers bytes text × Appends before after (fragment true text)
IsAnsweredBy Answers bytes (Ok false) before after = after ≡ before
IsAnsweredBy Answers bytes (Err NoMemory) before after = after ≡ before
IsAnsweredBy Answers bytes (Err (Reading fault)) before after = ⊥
IsAnsweredBy Answers bytes (Err TooLong) before after = after ≡ before
IsAnsweredBy Answers bytes (Err Writing) before after =
    (text : List ℕ) × Answers bytes text × WritesFront before after (fragment true text)

-- the fault of a reader, as a connection answers it
abbrev pub of_reading : FrameFault → ServeFault
of_reading frames.NoMemory = NoMemory
of_reading frames.TooLong = Reading frames.TooLong
of_reading frames.Device = Reading frames.Device
of_reading frames.EndInRecord = Reading frames.EndInRecord

-- a record that was read, and its answer
pub record Made : Type 0 where
  pub request : List ℕ
  pub answer : List ℕ

-- A record was taken from a stream, of at most as many bytes as some bound allows.
abbrev pub Takes : (record_bytes : List ℕ) → (left left' : Option (List ℕ)) → Type 0
Takes record_bytes left left' = (most : List ℕ → ℕ) × TakesRecord most (Some record_bytes) left left'

-- These records were taken, one after the other, and the answer to each was written before the next was taken:
-- what was left of the stream and what was written, before and after.
abbrev pub LeadsTo : AnswersOf → List Made → (left before left' after : Option (List ℕ)) → Type 0
LeadsTo Answers [] left before left' after = (left' ≡ left) × (after ≡ before)
LeadsTo Answers (m ∷ made) left before left' after =
    (l : Option (List ℕ)) × (b : Option (List ℕ)) × Takes m.request left l × Answers m.request m.answer
    × Appends before b (fragment true m.answer) × LeadsTo Answers made l b left' after

-- What was taken and written after the last answer that was written whole.
abbrev pub StopsWith : AnswersOf → Result ServeEnd ServeFault → (left before left' after : Option (List ℕ)) → Type 0
StopsWith Answers (Ok AtEnd) left before left' after = StaysAtEnd left left' × (after ≡ before)
StopsWith Answers (Ok AtNoCall) left before left' after =
    (bytes : List ℕ) × Takes bytes left left' × (after ≡ before)
StopsWith Answers (Err NoMemory) left before left' after = after ≡ before
StopsWith Answers (Err (Reading fault)) left before left' after = after ≡ before
StopsWith Answers (Err TooLong) left before left' after = after ≡ before
StopsWith Answers (Err Writing) left before left' after =
    (bytes : List ℕ) × (text : List ℕ) × Takes bytes left left' × Answers bytes text
    × WritesFront before after (fragment true text)

-- All of it: the answers that were written whole, and how it stopped.
pub record Serves (Answers : AnswersOf) (result : Result ServeEnd ServeFault)
    (left before left' after : Option (List ℕ)) : Type 0 where
  pub made : List Made
  pub reached : Option (List ℕ)
  pub written : Option (List ℕ)
  pub answered : LeadsTo Answers made left before reached written
  pub stops : StopsWith Answers result reached written left' after
