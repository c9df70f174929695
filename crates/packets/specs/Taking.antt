-- Which packets are taken under a roster, and why others aren't, in a reader's words.
use Rattle.std.specs.Prelude.{◌≢◌, ℕ, List, IsSome, IsTrue, Result, Ok, Err}
use Rattle.envelopes.specs.secure_log.authenticator.Roster.{keeps_version, member_of}
use Rattle.envelopes.specs.secure_log.authenticator.Signed.{IsSignedIn}
use Rattle.envelopes.specs.secure_log.authenticator.declared.member.Member.{Member}
use Rattle.envelopes.specs.secure_log.authenticator.declared.refusal.Refusal.{Refusal}
use Rattle.envelopes.specs.secure_log.authenticator.declared.refusal.Refusal.TheVariants.{UnknownNode}
use Rattle.envelopes.specs.secure_log.authenticator.declared.refusal.Refusal.TheVariants.{Garbage}
use Rattle.envelopes.specs.secure_log.authenticator.declared.refusal.Refusal.TheVariants.{BadSignature}
use Rattle.envelopes.specs.secure_log.authenticator.declared.refusal.Refusal.TheVariants.{NoMemory}
use Rattle.envelopes.specs.secure_log.Versioned.{EndsIn}
use Rattle.packets.specs.Packet.{Delivery, Learn, SendChallenge, Answer, AckIn, Says, delivery_shows}

-- It may be delivered at all under a roster: an envelope's sender isn't its receiver; the log of a segment's
-- node, where that is a member, is of its version, and its closing is of its node, last word and last hash.
abbrev pub MayBe : List Member → Delivery → Type 0
MayBe ms (Learn a) = Unit {0}
MayBe ms (SendChallenge e) = e.from ≢ e.to
MayBe ms (Answer s) = IsTrue (keeps_version ms s.node s.log_version) × EndsIn s
MayBe ms (AckIn a) = Unit {0}

-- Who signs it is a member, and of an envelope its receiver too.
abbrev pub IsOfMembers : List Member → Delivery → Type 0
IsOfMembers ms (Learn a) = IsSome (member_of ms a.node)
IsOfMembers ms (SendChallenge e) = IsSome (member_of ms e.from) × IsSome (member_of ms e.to)
IsOfMembers ms (Answer s) = IsSome (member_of ms s.closing.node)
IsOfMembers ms (AckIn a) = IsSome (member_of ms a.by)

-- The bytes say what may be delivered; then also, it is of members; and then, who is to sign it did.
pub record SaysWell (ms : List Member) (bytes : List ℕ) (d : Delivery) : Type 0 where
  pub says : Says bytes d
  pub may_be : MayBe ms d

pub record SaysOfMembers (ms : List Member) (bytes : List ℕ) (d : Delivery) : Type 0 where
  pub well : SaysWell ms bytes d
  pub members : IsOfMembers ms d

pub record IsTaken (ms : List Member) (bytes : List ℕ) (d : Delivery) : Type 0 where
  pub of_members : SaysOfMembers ms bytes d
  pub signed : IsSignedIn ms (delivery_shows d)

-- What it means to be taken for something: of an Ok, that the packet is taken; of Garbage, that the bytes
-- say nothing well; of UnknownNode, that they say something well that isn't of members; of BadSignature, that
-- they say something of members that isn't signed. No packet is taken for being out of memory.
abbrev pub Means : List Member → (bytes : List ℕ) → Result Delivery Refusal → Type 0
Means ms bytes (Ok d) = IsTaken ms bytes d
Means ms bytes (Err Garbage) = (d : Delivery) → ¬ SaysWell ms bytes d
Means ms bytes (Err UnknownNode) = (d : Delivery) × (SaysWell ms bytes d × (¬ IsOfMembers ms d))
Means ms bytes (Err BadSignature) =
    (d : Delivery) × (SaysOfMembers ms bytes d × (¬ IsSignedIn ms (delivery_shows d)))
Means ms bytes (Err NoMemory) = ⊥
