-- Remote programs, of which NFS and MOUNT are two: procedures with numbers, each of which takes arguments and
-- gives results (RFC 5531, section 8.1); and what bytes say of their calls and answers.
use Rattle.std.specs.Prelude.{◌≡◌, ◌↔◌, ℕ, List, ◌++◌, Option, Result, Ok, Err}
use Rattle.std.specs.List.{slice_get}
use Rattle.xdr.specs.declared.fault.XdrFault.{XdrFault}
use Rattle.xdr.specs.Item.{Item, Value, Fits, IsBytes, spelling}
use Rattle.xdr.specs.Reading.{Read, ◌>>=◌, read_at}

-- what a procedure takes and gives: the item of its arguments, the call that their value says, and the item
-- of its results
pub record Procedure (Call : Type 0) : Type 0 where
  pub arguments : Item
  pub says : Value arguments → Call
  pub results : Item

-- A remote program in one version. P are its procedures, which have the numbers from 0 on; a call is one of
-- them with its arguments; an answer is spelled as the value of an item.
pub record Program (P Call Answer : Type 0) : Type 0 where
  -- the procedures by their numbers
  pub numbered : List P
  pub procedure_of : P → Procedure Call
  -- the procedure of a call
  pub procedure_in : Call → P
  pub answer_item : Answer → Item
  pub answer_value : (a : Answer) → Value (answer_item a)

-- the procedure of a number
abbrev pub procedure_at : {P Call Answer : Type 0} → Program P Call Answer → ℕ → Option P
procedure_at program n = slice_get program.numbered n

-- ---- calls

-- an item at the front, and the call that it says
abbrev pub said : {Call : Type 0} (a : Item) → (Value a → Call) → List ℕ → Read Call
said a say bytes = read_at a bytes >>= λ x. Ok (say x.0, x.1)

-- the call that the bytes after a procedure's header say
abbrev pub call_at : {P Call Answer : Type 0} → Program P Call Answer → P → List ℕ → Read Call
call_at program procedure bytes =
    said (program.procedure_of procedure).arguments (program.procedure_of procedure).says bytes

-- The spelling of arguments that say a call stands at the front, and the rest after it. Arguments that mean
-- nothing may be any.
abbrev pub SaysCall : {P Call Answer : Type 0} → Program P Call Answer → P → List ℕ → Call → List ℕ → Type 0
SaysCall program procedure bytes call rest =
    (v : Value (program.procedure_of procedure).arguments)
    × Fits (program.procedure_of procedure).arguments v
    × (call ≡ (program.procedure_of procedure).says v)
    × (bytes ≡ spelling (program.procedure_of procedure).arguments v ++ rest)

-- A reader gave what reading gives: the arguments and the bytes after them, or the first fault. The function
-- says which call the arguments are.
abbrev pub GivesCall : {P Call Answer X : Type 0} → Program P Call Answer → (X → Call) → P
    → List ℕ → Result X XdrFault → List ℕ → Type 0
GivesCall program call_of procedure old (Ok a) new = call_at program procedure old ≡ Ok (call_of a, new)
GivesCall program call_of procedure old (Err e) new = call_at program procedure old ≡ Err e

-- The same where what follows the arguments is ignored.
abbrev pub ReadsCall : {P Call Answer X : Type 0} → Program P Call Answer → (X → Call) → P
    → List ℕ → Result X XdrFault → Type 0
ReadsCall program call_of procedure bytes result =
    (rest : List ℕ) × GivesCall program call_of procedure bytes result rest

-- ---- answers

-- the one spelling of an answer
abbrev pub answer_text : {P Call Answer : Type 0} → Program P Call Answer → Answer → List ℕ
answer_text program a = spelling (program.answer_item a) (program.answer_value a)

-- ---- what holds of a program

-- Reading gives a call exactly where bytes say it, whatever stands after it.
abbrev pub ReadsWhatIsSaid : {P Call Answer : Type 0} → Program P Call Answer → Type 0
ReadsWhatIsSaid {P = P} {Call = Call} program =
    (procedure : P) (bytes rest : List ℕ) (call : Call) → IsBytes bytes →
    ((call_at program procedure bytes ≡ Ok (call, rest)) ↔ SaysCall program procedure bytes call rest)

-- The fault of a call is that of reading its arguments' item.
abbrev pub HasFaultsOfItems : {P Call Answer : Type 0} → Program P Call Answer → Type 0
HasFaultsOfItems {P = P} program =
    (procedure : P) (bytes : List ℕ) (fault : XdrFault) →
    ((call_at program procedure bytes ≡ Err fault)
    ↔ (read_at (program.procedure_of procedure).arguments bytes ≡ Err fault))

-- Bytes say one call at most.
abbrev pub SaysOneCall : {P Call Answer : Type 0} → Program P Call Answer → Type 0
SaysOneCall {P = P} {Call = Call} program =
    (procedure : P) (bytes x y : List ℕ) (a b : Call) →
    SaysCall program procedure bytes a x → SaysCall program procedure bytes b y → (a ≡ b) × (x ≡ y)

-- What bytes say after a procedure's header is a call of that procedure.
abbrev pub SaysOwnCalls : {P Call Answer : Type 0} → Program P Call Answer → Type 0
SaysOwnCalls {P = P} {Call = Call} program =
    (procedure : P) (bytes rest : List ℕ) (call : Call) →
    SaysCall program procedure bytes call rest → program.procedure_in call ≡ procedure

-- A call that is read from bytes keeps a bound.
abbrev pub KeepsBounds : {P Call Answer : Type 0} → Program P Call Answer → (Call → Type 0) → Type 0
KeepsBounds {P = P} {Call = Call} program HasBounds =
    (procedure : P) (bytes rest : List ℕ) (call : Call) → IsBytes bytes →
    call_at program procedure bytes ≡ Ok (call, rest) → HasBounds call

-- An answer's text can be read back, and says the answer, exactly where the answer's value fits.
abbrev pub SpellsAnswers : {P Call Answer : Type 0} → Program P Call Answer → Type 0
SpellsAnswers {Answer = Answer} program =
    (a : Answer) (rest : List ℕ) → IsBytes (answer_text program a ++ rest) →
    ((read_at (program.answer_item a) (answer_text program a ++ rest) ≡ Ok (program.answer_value a, rest))
    ↔ Fits (program.answer_item a) (program.answer_value a))
