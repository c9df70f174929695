-- Books that went on by a base, and those from which they went on, while both stand.
use Rattle.std.specs.Prelude.{◌≡◌, ◌≢◌, ◌⊎◌, ◌<◌, ◌-◌, ◌==◌, ℕ, not, nat_lt, nat_le, List, [], ◌∷◌, filter, map}
use Rattle.std.specs.Prelude.{Option, Some, None, if◌then◌else◌}
use Rattle.authenticator.specs.declared.authenticator.Authenticator.{Authenticator}
use Rattle.authenticator.specs.Roster.{kind_number}
use Rattle.authenticator.specs.declared.member.Member.{Member}
use Rattle.challenge.specs.KnownBases as bases
use Rattle.watching.specs.Answers.{standing_number}
use Rattle.watching.specs.Filed.{GoesOnBy}
use Rattle.watching.specs.Shown.{StandingParts, last_shown}
use Rattle.watching.specs.Telling.{IsDelivered, ShowsIf, Steps, TellsIf, WereAsked}
use Rattle.watching.specs.declared.deliver.Delivered.{Delivered}
use Rattle.watching.specs.declared.deliver.Delivered.TheVariants as delivered
use Rattle.watching.specs.declared.told.NodeTold.{NodeTold}
use Rattle.witness_books.specs.Books.{BooksParts, beginning_of, parts_in}
use Rattle.witness_books.specs.node_book.Replies.{indication_in}
use Rattle.witness_books.specs.node_book.Rows.{known_in}
use Rattle.witness_books.specs.node_book.declared.refusal.Refusal.TheVariants.{BelowBase}
use Rattle.witness_books.specs.node_book.declared.reply.Indication.TheVariants.{Trusted}
use Rattle.witness_books.specs.node_book.witness_spec.Contract.{starting_books}
use Rattle.witness_books.specs.node_book.witness_spec.Events.{Audit}
use Rattle.witness_books.specs.node_book.witness_spec.Refusals.{NothingToAudit}
use Rattle.witness_books.specs.node_book.witness_spec.Replies.{Refused, Reply}
use Rattle.witness_books.specs.node_book.evidence_spec.Evidence.{EvidenceParts}
use Rattle.packets.specs.Packet.{Learn, packet_text}
use Rattle.witness_process.specs.declared.overlap.Before.{Before}
use Rattle.witness_process.specs.declared.overlap.NodeBooks.{NodeBooks}

-- ---- what stays

-- Of books beside others nothing changed but what they stand for.
pub record StandBeside (before after : Before) : Type 0 where
  pub at : after.at ≡ before.at
  pub since : after.since ≡ before.since
  pub unshown : after.unshown ≡ before.unshown

-- the same where books stand beside others
abbrev pub StayBeside : Option Before → Option Before → Type 0
StayBeside None None = Unit {0}
StayBeside (Some before) (Some after) = StandBeside before after
StayBeside None (Some after) = ⊥
StayBeside (Some before) None = ⊥

-- They are of the same server, from the same time on, and the same stand beside them, if some do.
pub record AreOfSame (old new : NodeBooks) : Type 0 where
  pub node : new.node ≡ old.node
  pub begun : new.begun ≡ old.begun
  pub beside : StayBeside old.before new.before

-- Books were asked of a node: nothing else led them on, and what was shown stays.
pub record AreAsked (node : ℕ) (old new : StandingParts) : Type 0 where
  pub same : beginning_of new.books ≡ beginning_of old.books
  pub asked : WereAsked old.books node new.books
  pub shown : new.shown ≡ old.shown

-- those beside others
abbrev pub AreAskedBeside : (node : ℕ) → Option Before → Option Before → Type 0
AreAskedBeside node None None = Unit {0}
AreAskedBeside node (Some before) (Some after) = AreAsked node before.standing after.standing × StandBeside before after
AreAskedBeside node None (Some after) = ⊥
AreAskedBeside node (Some before) None = ⊥

-- The books of a server were asked of it, those beside them, too; nothing else became of them.
pub record OnlyAsked (old new : NodeBooks) : Type 0 where
  pub node : new.node ≡ old.node
  pub begun : new.begun ≡ old.begun
  pub current : AreAsked old.node old.current new.current
  pub before : AreAskedBeside old.node old.before new.before

-- Books were asked of a node, and perhaps an audit of it was opened: nothing else led them on, and what was shown stays.
pub record WereLookedAt (node : ℕ) (old new : StandingParts) : Type 0 where
  pub between : StandingParts
  pub asked : AreAsked node old between
  pub audited : (new ≡ between) ⊎ ((reply : Reply) × Steps between.books (Audit node) reply new.books
      × (beginning_of new.books ≡ beginning_of between.books) × (new.shown ≡ between.shown))

-- The books of a server were, and those beside them stay.
pub record OnlyLookedAt (old new : NodeBooks) : Type 0 where
  pub node : new.node ≡ old.node
  pub begun : new.begun ≡ old.begun
  pub current : WereLookedAt old.node old.current new.current
  pub before : new.before ≡ old.before

-- ---- what is told

-- the worse of two: the first, unless the second is exposed or suspected and the first isn't as bad
abbrev pub worse : (current earlier : NodeTold) → NodeTold
worse current earlier =
    if nat_lt (standing_number (indication_in current.indication)) (standing_number (indication_in earlier.indication))
    then earlier else current

-- the same where something was told
abbrev pub worse_of : (current earlier : Option NodeTold) → Option NodeTold
worse_of None earlier = None
worse_of (Some current) None = Some current
worse_of (Some current) (Some earlier) = Some (worse current earlier)

-- What is told is what the books tell, and while others stand beside them the worse of what both tell.
abbrev pub TellsOf : (node : ℕ) → (old : BooksParts) → Option Before → Option NodeTold → (new : BooksParts)
    → Option Before → Type 0
TellsOf node old None told new None = TellsIf old node told new
TellsOf node old (Some before) told new (Some after) =
    (current : Option NodeTold) × (earlier : Option NodeTold)
    × TellsIf old node current new × TellsIf before.standing.books node earlier after.standing.books
    × (told ≡ worse_of current earlier)
TellsOf node old None told new (Some after) = ⊥
TellsOf node old (Some before) told new None = ⊥

abbrev pub TellsBoth : (old : NodeBooks) → Option NodeTold → (new : NodeBooks) → Type 0
TellsBoth old told new = TellsOf old.node old.current.books old.before told new.current.books new.before

-- The evidence is that of the books; where they have none, that of the others, while these stand.
abbrev pub ShowsOf : (node : ℕ) → Option Before → Option EvidenceParts → Option Before → Type 0
ShowsOf node None evidence after = evidence ≡ None
ShowsOf node (Some before) evidence (Some after) = ShowsIf before.standing.books node evidence after.standing.books
ShowsOf node (Some before) evidence None = ⊥

abbrev pub ShowsEither : (old : NodeBooks) → Option EvidenceParts → (new : NodeBooks) → Type 0
ShowsEither old evidence new =
    (own : Option EvidenceParts) × ShowsIf old.current.books old.node own new.current.books
    × (((own ≢ None) × (evidence ≡ own)) ⊎ ((own ≡ None) × ShowsOf old.node old.before evidence new.before))

-- ---- packets

-- A packet that lies below the base was handed to the others, while these stand.
abbrev pub IsHandedOn : Option Before → (packet : List ℕ) → (own became : Delivered) → Option Before → Type 0
IsHandedOn (Some before) packet own became (Some after) =
    IsDelivered before.standing.books packet became after.standing.books
IsHandedOn None packet own became after = became ≡ own
IsHandedOn (Some before) packet own became None = ⊥

-- A packet was handed to the books, and where it lies below their base to the others.
abbrev pub IsDeliveredTo : (old : NodeBooks) → (packet : List ℕ) → Delivered → (new : NodeBooks) → Type 0
IsDeliveredTo old packet became new =
    (own : Delivered) × IsDelivered old.current.books packet own new.current.books
    × (((own ≢ delivered.Refused BelowBase) × (became ≡ own) × (new.before ≡ old.before))
    ⊎ ((own ≡ delivered.Refused BelowBase) × IsHandedOn old.before packet own became new.before))

-- ---- going on

-- the clients of a roster
abbrev pub clients_of : List Member → List ℕ
clients_of ms = map (λ m. m.node) (filter (λ m. kind_number m.kind == 2) ms)

-- Books trust a node: there is no evidence against it, and no challenge is open.
pub record IsTrusted (node : ℕ) (old new : BooksParts) : Type 0 where
  pub told : NodeTold
  pub tells : TellsIf old node (Some told) new
  pub trusted : told.indication ≡ Trusted
  pub none : told.open ≡ 0

-- They do, and nothing that was shown of its log is left to audit.
pub record IsSettled (node : ℕ) (old new : BooksParts) : Type 0 where
  pub between : BooksParts
  pub trusted : IsTrusted node old between
  pub audited : Steps between (Audit node) (Refused NothingToAudit) new

-- Other books of the roster begin at a base, and were handed what its node showed these books last.
pub record BeginsAt (old : StandingParts) (k : bases.KnownBase) (new : StandingParts) : Type 0 where
  pub opening : BooksParts
  pub is_opening : parts_in opening ≡ starting_books (beginning_of opening)
  pub roster : opening.roster ≡ old.books.roster
  pub at_base : opening.bases ≡ known_in k ∷ []
  pub authenticator : Authenticator
  pub shown : last_shown old k.showing.node ≡ Some authenticator
  pub same : beginning_of new.books ≡ beginning_of opening
  pub became : Delivered
  pub delivers : IsDelivered opening (packet_text (Learn authenticator)) became new.books
  pub kept : (became ≡ delivered.Taken) ⊎ (became ≡ delivered.Already)

-- Books went on at a time: none stood beside them; they trusted the node, and had nothing left to audit, and were led on by
-- no more than that this was looked at; the base is at a CHECK that they have themselves filed as sound, with that very
-- state; other books begin there, and these stand beside them until each client showed a signature, from that time on.
pub record WentOn (time : ℕ) (old new : NodeBooks) : Type 0 where
  pub none : old.before ≡ None
  pub before : Before
  pub stands : new.before ≡ Some before
  pub settled : IsSettled old.node old.current.books before.standing.books
  pub looked : WereLookedAt old.node old.current before.standing
  pub base : bases.KnownBase
  pub goes : GoesOnBy before.standing.books base
  pub at : before.at ≡ base.at
  pub begins : BeginsAt before.standing base new.current
  pub since : before.since ≡ time
  pub unshown : before.unshown.items ≡ clients_of before.standing.books.roster
  pub node : new.node ≡ old.node
  pub begun : new.begun ≡ time

-- ---- letting go

-- the clients whose logs showed no signature from a number on, after a client's log showed one with a number
abbrev pub unshown_after : (client at number : ℕ) → List ℕ → List ℕ
unshown_after client at number nodes =
    if nat_le at number then filter (λ n. not (n == client)) nodes else nodes

-- A client's log showed a signature with a number: of books that went on no more than this changes.
pub record IsShown (client number : ℕ) (b after : Before) : Type 0 where
  pub standing : after.standing ≡ b.standing
  pub at : after.at ≡ b.at
  pub since : after.since ≡ b.since
  pub unshown : after.unshown.items ≡ unshown_after client b.at number b.unshown.items

-- the same where books stand beside others
abbrev pub NotesShown : Option Before → (client number : ℕ) → Option Before → Type 0
NotesShown None client number after = after ≡ None
NotesShown (Some before) client number None = ⊥
NotesShown (Some before) client number (Some after) = IsShown client number before after

-- They stood for more seconds than these, or each client's log showed a signature from the base on.
abbrev pub MayGo : Before → (time overlap : ℕ) → Type 0
MayGo b time overlap = (overlap < time - b.since) ⊎ (b.unshown.items ≡ [])

-- Books trust a node.
abbrev pub IsTrustedBy : (node : ℕ) → BooksParts → Type 0
IsTrustedBy node old = (new : BooksParts) × IsTrusted node old new

-- They are let go only where they may, and trust the node.
pub record Goes (node time overlap : ℕ) (b : Before) : Type 0 where
  pub may : MayGo b time overlap
  pub trusted : IsTrustedBy node b.standing.books

-- What becomes of books that stand beside others: they are let go, or were at most asked of the node.
abbrev pub AreLetGo : (node time overlap : ℕ) → Option Before → Option Before → Type 0
AreLetGo node time overlap None after = after ≡ None
AreLetGo node time overlap (Some before) None = Goes node time overlap before
AreLetGo node time overlap (Some before) (Some after) =
    AreAsked node before.standing after.standing × StandBeside before after
