-- What a witness says of a node, by what its books reply.
use Rattle.std.specs.Prelude.{◌≡◌, ◌⊎◌, ◌+◌, ℕ, false, List, [], ◌++◌, length, Option, Some, None, codes}
use Rattle.std.specs.Prelude.{decimal}
use Rattle.authenticator.specs.Roster.{member_of}
use Rattle.witness_spec.specs.Events.{Event, Question, Deliver, Ask, ItsIndication, ItsChallenges}
use Rattle.witness_spec.specs.Events.{ItsEvidence}
use Rattle.witness_spec.specs.evidence_spec.Evidence.{EvidenceParts}
use Rattle.witness_spec.specs.Refusals.{refusal_number}
use Rattle.witness_spec.specs.Replies.{Reply, Challenge, is_want_of_memory}
use Rattle.witness_spec.specs.Replies as replies
use Rattle.witness_spec.specs.Starting.{Beginning}
use Rattle.witness_spec.specs.Histories.{BookParts}
use Rattle.witness_spec.specs.Contract.{StepsTo}
use Rattle.witness_books.specs.node_book.Replies.{indication_in, refusal_in}
use Rattle.witness_books.specs.Books.{BooksParts, beginning_of, parts_in}
use Rattle.witness_calls.specs.Telling.{IsSaid, indication_word}
use Rattle.witness_calls.specs.declared.said.Said.TheVariants as said
use Rattle.watching.specs.BaseGiving.{began_from}
use Rattle.watching.specs.Ends.{end_in, ends_of}
use Rattle.watching.specs.declared.deliver.Delivered.{Delivered}
use Rattle.watching.specs.declared.deliver.Delivered.TheVariants as d
use Rattle.watching.specs.declared.told.NodeTold.{NodeTold}

-- An event led the books to these, with this reply.
abbrev pub Steps : (old : BooksParts) → Event → Reply → (new : BooksParts) → Type 0
Steps old event reply new = StepsTo (beginning_of old) (parts_in old) event reply (parts_in new)

-- ---- questions

-- Some questions were asked about a node, and nothing else led the books on.
pub data IsAsked (g : Beginning) (node : ℕ) (old : List BookParts) : List BookParts → Type 0 where
  Nothing : IsAsked g node old old
  OneMore : (between new : List BookParts) → (question : Question) → (reply : Reply)
      → IsAsked g node old between → StepsTo g between (Ask node question) reply new → IsAsked g node old new

-- the same of all that books have
abbrev pub WereAsked : (old : BooksParts) → (node : ℕ) → (new : BooksParts) → Type 0
WereAsked old node new = IsAsked (beginning_of old) node (parts_in old) (parts_in new)

-- A member's open challenges were asked for, and these were listed.
abbrev pub Lists : (old : BooksParts) → (node : ℕ) → List Challenge → (new : BooksParts) → Type 0
Lists old node challenges new = Steps old (Ask node ItsChallenges) (replies.OpenList challenges) new

-- Of one who is no member none are, and the books stay.
abbrev pub ListsIf : (old : BooksParts) → (node : ℕ) → List Challenge → (new : BooksParts) → Type 0
ListsIf old node challenges new =
    ((member_of old.roster node ≡ None) × (challenges ≡ []) × (new ≡ old)) ⊎ Lists old node challenges new

-- Of one who is no member there is no evidence, and the books stay; of a member they were asked for it, and it is
-- this, if there is some.
abbrev pub ShowsIf : (old : BooksParts) → (node : ℕ) → Option EvidenceParts → (new : BooksParts) → Type 0
ShowsIf old node evidence new =
    ((member_of old.roster node ≡ None) × (evidence ≡ None) × (new ≡ old))
    ⊎ Steps old (Ask node ItsEvidence) (replies.EvidenceIs evidence) new

-- The books told a member's failure indication and then its open challenges, and up to where its log was
-- audited.
pub record Tells (old : BooksParts) (node : ℕ) (told : NodeTold) (new : BooksParts) : Type 0 where
  pub is_of : told.node ≡ node
  -- its indication
  pub between : List BookParts
  pub indicates : StepsTo (beginning_of old) (parts_in old) (Ask node ItsIndication)
      (replies.Told (indication_in told.indication)) between
  -- its open challenges
  pub challenges : List Challenge
  pub lists : StepsTo (beginning_of old) between (Ask node ItsChallenges) (replies.OpenList challenges)
      (parts_in new)
  pub count : length challenges ≡ told.open
  -- where its audit began, if not at its log's first entry
  pub from_is : told.from ≡ began_from old node
  -- the last number that was filed sound
  pub end_is : end_in old.roster node (ends_of (parts_in new)) ≡ Some told.end

-- Of one who is no member nothing is told, and the books stay.
abbrev pub TellsIf : (old : BooksParts) → (node : ℕ) → Option NodeTold → (new : BooksParts) → Type 0
TellsIf old node None new = (member_of old.roster node ≡ None) × (new ≡ old)
TellsIf old node (Some told) new = Tells old node told new

-- up to where a node was audited, and from where, if from a base
abbrev pub audited_words : (from : Option ℕ) → (end : ℕ) → List ℕ
audited_words None end = codes " to " ++ decimal end
audited_words (Some number) end = codes " from " ++ (decimal number ++ (codes " to " ++ decimal end))

-- the line of a node: its number, its indication, the count of its open challenges, and up to where it was audited,
-- and from where, if from a base
abbrev pub told_line : NodeTold → List ℕ
told_line t =
    decimal t.node
    ++ (codes " " ++ (indication_word t.indication
    ++ (codes " " ++ (decimal t.open ++ audited_words t.from t.end))))

-- ---- packets

-- what became of a packet, by the reply to it
abbrev pub IsTaken : Reply → Delivered → Type 0
IsTaken reply d.Taken =
    (reply ≡ replies.Noted)
    ⊎ ((reply ≡ replies.Opened) ⊎ ((reply ≡ replies.Accepted) ⊎ (reply ≡ replies.Closed)))
IsTaken reply d.Already = reply ≡ replies.Already
IsTaken reply (d.Refused refusal) = IsSaid reply (said.Refused refusal)

-- the number of what became of a packet: 0 where it was taken, 10 where it was before, else 16 and the
-- refusal's
abbrev pub delivered_number : Delivered → ℕ
delivered_number d.Taken = 0
delivered_number d.Already = 10
delivered_number (d.Refused refusal) = 16 + refusal_number (refusal_in refusal)

-- A packet was handed in, and became this: the books' reply to its bytes says so.
pub record IsDelivered (old : BooksParts) (packet : List ℕ) (became : Delivered)
    (new : BooksParts) : Type 0 where
  pub reply : Reply
  pub steps : Steps old (Deliver packet) reply new
  pub enough : is_want_of_memory reply ≡ false
  pub is_taken : IsTaken reply became

-- Where memory was refused a packet may have been handed in.
abbrev pub MayBeDelivered : (old : BooksParts) → (packet : List ℕ) → (new : BooksParts) → Type 0
MayBeDelivered old packet new = (new ≡ old) ⊎ ((reply : Reply) × Steps old (Deliver packet) reply new)
