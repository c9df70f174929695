-- What a witness says to a caller: what its replies say, and what it tells of a node.
use Rattle.std.specs.Prelude.{◌≡◌, ◌⊎◌, ℕ, Bool, false, List, [], ◌∷◌, ◌++◌, length, map, option_map, codes}
use Rattle.std.specs.Arc.{arc_value}
use Rattle.witness_books.specs.node_book.Replies.{challenge_in, indication_in, refusal_in}
use Rattle.witness_books.specs.node_book.declared.refusal.Refusal.{Refusal}
use Rattle.witness_books.specs.node_book.declared.reply.Indication.{Indication}
use Rattle.witness_books.specs.node_book.witness_spec.Events.{JobParts, DoneParts, Event, Ask, ItsIndication, ItsChallenges}
use Rattle.witness_books.specs.node_book.witness_spec.Replies.{Reply, Challenge, is_want}
use Rattle.witness_books.specs.node_book.witness_spec.Replies as r
use Rattle.witness_service.specs.Claims.{Claim, Keeps}
use Rattle.witness_calls.specs.declared.said.Said.{Said}
use Rattle.witness_calls.specs.declared.said.Said.TheVariants as s
use Rattle.witness_calls.specs.declared.told.Told.{Told}

-- what a reply says: a job or a done value that comes back with it isn't told
abbrev pub IsSaid : Reply → Said → Type 0
IsSaid reply s.Noted = reply ≡ r.Noted
IsSaid reply s.Already = reply ≡ r.Already
IsSaid reply s.Opened = reply ≡ r.Opened
IsSaid reply s.Accepted = reply ≡ r.Accepted
IsSaid reply s.Closed = reply ≡ r.Closed
IsSaid reply (s.Asked first last) = reply ≡ r.Asked first last
IsSaid reply s.Returned = (reply ≡ r.Filed) ⊎ (reply ≡ r.Returned) ⊎ ((j : JobParts) × (reply ≡ r.Job j))
IsSaid reply (s.Forwarded a) = reply ≡ r.Forwarded a
IsSaid reply s.Empty = reply ≡ r.Empty
IsSaid reply (s.Told i) = reply ≡ r.Told (indication_in i)
IsSaid reply (s.Open cs) = reply ≡ r.OpenList (map challenge_in cs.items)
IsSaid reply (s.EvidenceIs e) = reply ≡ r.EvidenceIs (option_map arc_value e)
IsSaid reply (s.Refused f) =
    (reply ≡ r.Refused (refusal_in f)) ⊎ ((d : DoneParts) × (reply ≡ r.FileRefused (refusal_in f) d))
    ⊎ ((j : JobParts) × (reply ≡ r.PutBackRefused (refusal_in f) j))

-- whether it is said that memory ran out
abbrev pub wants_memory : Said → Bool
wants_memory (s.Refused f) = is_want (refusal_in f)
wants_memory _ = false

-- The claims are the old ones with some more after them.
pub record Extends (old new : List Claim) : Type 0 where
  pub more : List Claim
  pub is : new ≡ old ++ more

-- An event was handed in, and this was said: the caller has a claim more, of the event with the reply that
-- says it; or memory ran out, and the claims are the same.
pub record Says (old : List Claim) (event : Event) (said : Said) (new : List Claim) : Type 0 where
  pub reply : Reply
  pub keeps : Keeps old event reply new
  pub is_said : IsSaid reply said

-- A packet was handed in, and this was said: the event that it spells was, or the packet was refused before
-- any step, and the claims are the same.
abbrev pub Hears : (old : List Claim) → Said → (new : List Claim) → Type 0
Hears old said new =
    ((event : Event) × Says old event said new) ⊎ ((f : Refusal) × (said ≡ s.Refused f) × (new ≡ old))

-- A node's open challenges were asked for, and this was said.
pub record AsksOpen (old : List Claim) (node : ℕ) (new : List Claim) : Type 0 where
  pub said : Said
  pub says : Says old (Ask node ItsChallenges) said new
  pub enough : wants_memory said ≡ false

-- A node's open challenges were asked for, and listed: the caller has one claim more, of that.
pub record IsListed (old : List Claim) (node : ℕ) (indication : Indication) (told : Told) (new : List Claim)
    : Type 0 where
  pub is_of : told.node ≡ node
  pub is_told : told.indication ≡ indication
  pub place : ℕ
  pub listed : List Challenge
  pub count : length listed ≡ told.open
  pub claims : new ≡ old ++ record { place = place; step = (Ask node ItsChallenges, r.OpenList listed) } ∷ []

-- A node's failure indication and its open challenges were asked for, and this was told of it: the caller has
-- two claims more, of these questions with their answers.
pub record Tells (old : List Claim) (node : ℕ) (told : Told) (new : List Claim) : Type 0 where
  pub is_of : told.node ≡ node
  pub first : ℕ
  pub second : ℕ
  pub listed : List Challenge
  pub count : length listed ≡ told.open
  pub claims : new ≡ old
      ++ record { place = first; step = (Ask node ItsIndication, r.Told (indication_in told.indication)) }
      ∷ record { place = second; step = (Ask node ItsChallenges, r.OpenList listed) } ∷ []

-- Of a node its failure indication, or its open challenges after that, weren't told, and this was said in the
-- place.
abbrev pub Withholds : (old : List Claim) → (node : ℕ) → Said → (new : List Claim) → Type 0
Withholds old node said new =
    Says old (Ask node ItsIndication) said new
    ⊎ ((i : Indication) × (between : List Claim) × Says old (Ask node ItsIndication) (s.Told i) between
    × Says between (Ask node ItsChallenges) said new)

-- the word of an indication
abbrev pub word_of : r.Indication → List ℕ
word_of r.Trusted = codes "trusted"
word_of r.Suspected = codes "suspected"
word_of r.Exposed = codes "exposed"

-- the same of one in memory
abbrev pub indication_word : Indication → List ℕ
indication_word i = word_of (indication_in i)
