-- Which line is said of a node, and when.
use Rattle.std.specs.Prelude.{◌≡◌, ◌⊎◌, ◌<◌, ◌-◌, ℕ, List, [], ◌++◌, Option, Some, None, codes}
use Rattle.witness_books.specs.node_book.declared.reply.Indication.{Indication}
use Rattle.witness_books.specs.node_book.declared.reply.Indication.TheVariants.{Trusted, Suspected, Exposed}
use Rattle.witness_books.specs.Books.{BooksParts}
use Rattle.watching.specs.Telling.{Tells, told_line}
use Rattle.watching.specs.declared.told.NodeTold.{NodeTold}
use Rattle.witness_process.specs.Histories.{StandForHistory}
use Rattle.witness_process.specs.declared.due.Saying.{Saying}
use Rattle.witness_process.specs.declared.opened.OpenChallenge.{OpenChallenge}

-- Some books of a witness, which stood for a history, told this.
abbrev pub WasTold : NodeTold → Type 0
WasTold told = (old : BooksParts) × (new : BooksParts) × StandForHistory old × Tells old told.node told new

-- the challenge that is named beside an indication
abbrev pub oldest_said : Indication → Option OpenChallenge → Option OpenChallenge
oldest_said Suspected oldest = oldest
oldest_said Trusted oldest = None
oldest_said Exposed oldest = None

-- what is to be said of what was told, with the oldest challenge that is open
abbrev pub saying_of : NodeTold → Option OpenChallenge → Saying
saying_of told oldest = record { told = told; oldest = oldest_said told.indication oldest }

-- what is told of a node of which nothing is known: trusted 0 to 0
abbrev pub IsUntouched : NodeTold → Type 0
IsUntouched told = (told.indication ≡ Trusted) × ((told.open ≡ 0) × (told.end ≡ 0))

-- It is what was said last, or nothing is known of the node and nothing was said.
abbrev pub IsSaid : Option Saying → Saying → Type 0
IsSaid None saying = IsUntouched saying.told
IsSaid (Some last) saying = last ≡ saying

-- A line is due: it isn't what was said last, and a node that is suspected has had a challenge open for more seconds
-- than this.
pub record IsDue (told : NodeTold) (oldest : Option OpenChallenge) (seconds patience : ℕ) (last : Option Saying)
    : Type 0 where
  pub late : told.indication ≡ Suspected → patience < seconds
  pub is_new : IsSaid last (saying_of told oldest) → ⊥

-- for how many seconds the oldest challenge that is open has been, 0 where none is
abbrev pub seconds_open : Option OpenChallenge → (time : ℕ) → ℕ
seconds_open None time = 0
seconds_open (Some c) time = time - c.since

-- a challenge has been open for more seconds than this
abbrev pub HasWaited : Option OpenChallenge → (time patience : ℕ) → Type 0
HasWaited None time patience = ⊥
HasWaited (Some c) time patience = patience < time - c.since

-- What is said of a node at a time is what books told, and of one that is suspected the challenge that is named has been
-- open for more seconds than this.
pub record IsSaidAt (time patience : ℕ) (saying : Saying) : Type 0 where
  pub told : WasTold saying.told
  pub late : saying.told.indication ≡ Suspected → HasWaited saying.oldest time patience

-- what may follow the line of what the books told: nothing, or a colon, a space, and more
abbrev pub MayFollow : (rest : List ℕ) → Type 0
MayFollow rest = (rest ≡ []) ⊎ ((more : List ℕ) × (rest ≡ codes ": " ++ more))

-- A text is the line of what the books told; only of a node that is suspected more follows.
pub record IsLineOf (saying : Saying) (text : List ℕ) : Type 0 where
  pub rest : List ℕ
  pub is : text ≡ told_line saying.told ++ rest
  pub follows : MayFollow rest
  pub alone : saying.oldest ≡ None → rest ≡ []

-- A text is the line of what the books told, and what may follow.
pub record BeginsLine (saying : Saying) (text : List ℕ) : Type 0 where
  pub rest : List ℕ
  pub is : text ≡ told_line saying.told ++ rest
  pub follows : MayFollow rest
