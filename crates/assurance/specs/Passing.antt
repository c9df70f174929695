-- What passes between a gateway and a witness about the replies of the server that is called, in its order.
use Rattle.std.specs.Prelude.{◌≡◌, ℕ, ◌-◌, ◌==◌, not, Bool, ◌&&◌, List, [], ◌∷◌, ◌++◌, filter, Option, IfSome, if◌then◌else◌}
use Rattle.std.specs.List.{list_any}
use Rattle.authenticator.specs.declared.authenticator.Authenticator.{Authenticator}
use Rattle.assurance.specs.Events.{History}
use Rattle.assurance.specs.Events as events
use Rattle.assurance.specs.Exchanges.{Exchange, Kept}
use Rattle.assurance.specs.Exchanges as exchange
use Rattle.assurance.specs.Keeping.{StandsFor}
use Rattle.assurance.specs.Learning.{said, takes}
use Rattle.assurance.specs.declared.replies.Replies.{Replies}
use Rattle.assurance.specs.declared.shown.ShownOf.{ShownOf}
use Rattle.assurance.specs.declared.shown.ShownOf.TheVariants.{Receipt, Reply}

-- the number in the log of the node that signed
abbrev pub number_of : ShownOf → ℕ
number_of (Receipt n) = n
number_of (Reply n) = n

-- A reply with this number is handed out; the witness is shown what a node signed, which is of this, and answers with a
-- number; it is asked what it says of a node, and answers.
pub data Passed : Type 0 where
  HandedOut : (number : ℕ) → Passed
  Showed : (of : ShownOf) → (signed : Authenticator) → (answer : ℕ) → Passed
  Asked : (node : ℕ) → (exposed : Bool) → (end : ℕ) → Passed

-- what a node signed, to be kept by its number
abbrev pub kept_as : ShownOf → Authenticator → Kept
kept_as of signed = record { number = number_of of; signed = signed }

-- what of it was asked over the link, the newest first: at first the witness greeted
abbrev pub exchanges : List Passed → List Exchange
exchanges [] = exchange.Greeted ∷ []
exchanges (HandedOut n ∷ p) = exchanges p
exchanges (Showed of signed answer ∷ p) = exchange.Shown signed answer ∷ exchanges p
exchanges (Asked node exposed end ∷ p) = exchange.Asked node exposed end ∷ exchanges p

-- whether the witness took what a node signed, and that node is the server
abbrev pub is_taken : (server node answer : ℕ) → Bool
is_taken server node answer = (node == server) && takes (said answer)

-- the calls whose receipts the witness took, after what was noted of one
abbrev pub with_taken : ShownOf → List ℕ → List ℕ
with_taken (Receipt n) calls = calls ++ n ∷ []
with_taken (Reply n) calls = filter (λ c. not (c == n - 2)) calls

-- the numbers of the calls whose receipts the witness took, and whose replies it didn't take since
abbrev pub acknowledged : (server : ℕ) → List Passed → List ℕ
acknowledged server [] = []
acknowledged server (HandedOut n ∷ p) = acknowledged server p
acknowledged server (Showed of signed answer ∷ p) =
    if is_taken server signed.node answer then with_taken of (acknowledged server p) else acknowledged server p
acknowledged server (Asked node exposed end ∷ p) = acknowledged server p

-- What was taken is to the replies: a message counts as a reply where the receipt of its call was taken, that of the
-- message two numbers before it.
abbrev pub with_reply : ShownOf → (calls : List ℕ) → History → History
with_reply (Receipt n) calls h = h
with_reply (Reply n) calls h = if list_any (λ c. c == n - 2) calls then events.Taken n ∷ h else h

-- What passed is to the replies: which were handed out, which the witness took, and what it said of the server.
abbrev pub history : (server : ℕ) → List Passed → History
history server [] = []
history server (HandedOut n ∷ p) = events.HandedOut n ∷ history server p
history server (Showed of signed answer ∷ p) =
    if is_taken server signed.node answer then with_reply of (acknowledged server p) (history server p)
    else history server p
history server (Asked node exposed end ∷ p) =
    if node == server then events.Told exposed end ∷ (events.Asked ∷ history server p) else history server p

-- What is kept of the replies stands for it.
pub record StandsBy (server : ℕ) (p : List Passed) (r : Replies) : Type 0 where
  pub assurance : StandsFor (history server p) r.assurance
  pub acknowledged : r.acknowledged.items ≡ acknowledged server p

-- It is what passed over the link, where that is known, in its order; and what is kept of the replies stands for it.
pub record Records (server : ℕ) (link : Option (List Exchange)) (p : List Passed) (r : Replies) : Type 0 where
  pub known : IfSome link (λ es. es ≡ exchanges p)
  pub kept : StandsBy server p r

-- Something passed that it is.
abbrev pub IsRecorded : (server : ℕ) → (link : Option (List Exchange)) → Replies → Type 0
IsRecorded server link r = ∥ ((p : List Passed) × Records server link p r) ∥₁

-- This passed, and nothing else.
abbrev pub Passes : (server : ℕ) → (link : Option (List Exchange)) → Replies → Passed
    → (link' : Option (List Exchange)) → Replies → Type 0
Passes server link r passed link' r' =
    (p : List Passed) → Records server link p r → Records server link' (passed ∷ p) r'

-- Nothing passed.
abbrev pub PassesNothing : (server : ℕ) → (link : Option (List Exchange)) → Replies
    → (link' : Option (List Exchange)) → Replies → Type 0
PassesNothing server link r link' r' = (p : List Passed) → Records server link p r → Records server link' p r'
