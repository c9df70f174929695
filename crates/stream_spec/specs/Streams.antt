-- What is taken from a stream of records and written for them, whatever is owed. Two parameters say what is:
-- `owed` is the text owed to a list of records; `Leaves` is what else holds once the records of its first
-- list have been answered, and those of its second taken and not answered.
use Rattle.std.specs.Prelude.{◌≡◌, ◌<◌, ℕ, List, [], ◌∷◌, ◌++◌, length, Option, IfSome}
use Rattle.std.specs.Io.KnownBytes.{Appends, Consumes}
use Rattle.rpc.specs.Records.Record.{IsUnfinished}
use Rattle.rpc.specs.Records.Stream.{AreRecords}
use Rattle.rpc.specs.Records.Reading.{TakesAll}

-- The whole input is count records, and the text owed to them was written.
pub record Serves (owed : List (List ℕ) → List ℕ) (Leaves : (answered unanswered : List (List ℕ)) → Type 0)
    (count : ℕ) (input : List ℕ) (before after : Option (List ℕ)) : Type 0 where
  pub records : List (List ℕ)
  pub are_records : AreRecords input records
  pub count_is : length records ≡ count
  pub written : Appends before after (owed records)
  pub leaves : Leaves records []

-- The input is records, and then bytes of which this holds; the whole text owed to those records was written.
pub record ServesUpTo (owed : List (List ℕ) → List ℕ) (IsRest : List ℕ → Type 0) (input : List ℕ)
    (before after : Option (List ℕ)) : Type 0 where
  pub records : List (List ℕ)
  pub text : List ℕ
  pub rest : List ℕ
  pub are_records : AreRecords text records
  pub input_is : input ≡ text ++ rest
  pub rest_is : IsRest rest
  pub written : Appends before after (owed records)

-- The input begins with records, and a beginning of the text owed to them was written.
pub record ServesPart (owed : List (List ℕ) → List ℕ) (input : List ℕ) (before after : Option (List ℕ))
    : Type 0 where
  pub records : List (List ℕ)
  pub text : List ℕ
  pub rest : List ℕ
  pub are_records : AreRecords text records
  pub input_is : input ≡ text ++ rest
  pub front : List ℕ
  pub unwritten : List ℕ
  pub owed_is : owed records ≡ front ++ unwritten
  pub written : Appends before after front

-- ---- what was taken of the reader: what it has left before and after, where that is known

-- Whole records were taken, and what is owed to them was written; then more was taken, of which this holds.
pub record StopsAfterRecords (owed : List (List ℕ) → List ℕ)
    (Leaves : (answered unanswered : List (List ℕ)) → Type 0)
    (Takes : Option (List ℕ) → Option (List ℕ) → Type 0) (left left' before after : Option (List ℕ))
    : Type 0 where
  pub answered : List (List ℕ)
  pub text : List ℕ
  pub between : Option (List ℕ)
  pub are_records : AreRecords text answered
  pub taken : Consumes left between text
  pub then_takes : Takes between left'
  pub written : Appends before after (owed answered)
  pub leaves : Leaves answered []

-- Whole records were taken. What is owed to all of them but the last was written, and the last got no answer.
pub record StopsBeforeReply (owed : List (List ℕ) → List ℕ)
    (Leaves : (answered unanswered : List (List ℕ)) → Type 0) (left left' before after : Option (List ℕ))
    : Type 0 where
  pub answered : List (List ℕ)
  pub last : List ℕ
  pub text : List ℕ
  pub are_records : AreRecords text (answered ++ last ∷ [])
  pub taken : Consumes left left' text
  pub written : Appends before after (owed answered)
  pub leaves : Leaves answered (last ∷ [])

-- Whole records were taken. What is owed to all of them but the last was written, and a beginning of the
-- reply to the last, but not all of it.
pub record StopsInReply (owed : List (List ℕ) → List ℕ)
    (Leaves : (answered unanswered : List (List ℕ)) → Type 0) (left left' before after : Option (List ℕ))
    : Type 0 where
  pub answered : List (List ℕ)
  pub last : List ℕ
  pub text : List ℕ
  pub front : List ℕ
  pub unwritten : List ℕ
  pub are_records : AreRecords text (answered ++ last ∷ [])
  pub taken : Consumes left left' text
  pub owed_is : owed (answered ++ last ∷ []) ≡ owed answered ++ (front ++ unwritten)
  pub is_short : 0 < length unwritten
  pub written : Appends before after (owed answered ++ front)
  pub leaves : Leaves (answered ++ last ∷ []) []

-- Nothing was taken.
abbrev pub TakesNothing : Option (List ℕ) → Option (List ℕ) → Type 0
TakesNothing old new = new ≡ old

-- The bytes ended within a record, and all of them were taken.
abbrev pub TakesUnfinished : Option (List ℕ) → Option (List ℕ) → Type 0
TakesUnfinished old new = TakesAll old new × IfSome old IsUnfinished
