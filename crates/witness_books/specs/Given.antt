-- What books give in reply, where one reply alone is owed.
use Rattle.std.specs.Prelude.{◌≡◌, ◌⊎◌, ◌↔◌, List, ◌∷◌, []}
use Rattle.secure_log.specs.Versioned.{ClosedParts}
use Rattle.envelopes.specs.declared.acknowledgement.Ack.{Ack}
use Rattle.node_book.specs.witness_spec.Events.{Event, PublicKey}
use Rattle.node_book.specs.witness_spec.Events as events
use Rattle.node_book.specs.witness_spec.Replies.{Reply, Accepted, Closed}
use Rattle.node_book.specs.witness_spec.Starting.{Beginning}
use Rattle.node_book.specs.witness_spec.Watched.{Watched}
use Rattle.node_book.specs.witness_spec.Histories.{History, IsOwed, IsWanting, IsHistory, BookParts, Stands}
use Rattle.node_book.specs.witness_spec.Contract.{StepsTo}
use Rattle.node_book.specs.witness_spec.Laws.{AnswersAudit, ClosesChallenge}
use Rattle.witness_books.specs.Headline.{KeepsHeadline}

-- Where one reply alone is owed to an event, a step of books that stand for the history gives it, or memory
-- ran out.
abbrev pub WhatIsOwedIsGiven : Type 0
WhatIsOwedIsGiven =
    (g : Beginning) (old new : List BookParts) (history : History) (event : Event) (owed reply : Reply)
    → IsHistory g history → Stands g old history
    → ((r : Reply) → IsOwed g history event r ↔ (r ≡ owed))
    → StepsTo g old event reply new → (reply ≡ owed) ⊎ IsWanting event reply

-- So the answer of a node to the audit that is open is accepted.
abbrev pub AnswersAreTaken : Type 0
AnswersAreTaken =
    (g : Beginning) (w : Watched) (old new : List BookParts) (history : History) (c : ClosedParts)
    (reply : Reply)
    → IsHistory g history → Stands g old history → AnswersAudit g w history c
    → StepsTo g old (events.Answer c) reply new
    → (reply ≡ Accepted) ⊎ IsWanting (events.Answer c) reply

-- And its acknowledgement of a message that it is challenged with closes the challenge.
abbrev pub AcksAreTaken : Type 0
AcksAreTaken =
    (g : Beginning) (w : Watched) (old new : List BookParts) (history : History) (a : Ack) (key : PublicKey)
    (reply : Reply)
    → IsHistory g history → Stands g old history → ClosesChallenge g w history a key
    → StepsTo g old (events.AckIn a key) reply new
    → (reply ≡ Closed) ⊎ IsWanting (events.AckIn a key) reply

-- A step keeps the headline, as a run of one event.
abbrev pub StepsKeepHeadline : Type 0
StepsKeepHeadline =
    (g : Beginning) (old new : List BookParts) (event : Event) (reply : Reply)
    → StepsTo g old event reply new → KeepsHeadline g old (event ∷ []) (reply ∷ []) new
