-- What the lines of a script print, beside what the witness's pass keeps of them.
use Rattle.std.specs.Prelude.{◌≡◌, ◌⊎◌, ℕ, ⊤, List, [], ◌∷◌, ◌++◌, length, Option, Some, None, codes, decimal}
use Rattle.std.specs.Io.KnownBytes.{Appends}
use Rattle.std.specs.List.{flat_map, AllByRecursion}
use Rattle.authenticator.specs.Numbers.{number_in}
use Rattle.authenticator.specs.Roster.{member_of}
use Rattle.authenticator.specs.declared.authenticator.Authenticator.{Authenticator}
use Rattle.authenticator.specs.declared.member.LogVersion.{LogVersion}
use Rattle.authenticator.specs.declared.member.LogVersion.TheVariants.{One}
use Rattle.authenticator.specs.declared.member.Member.{Member}
use Rattle.witness_calls.specs.witness_service.Claims.{Claim}
use Rattle.witness_spec.specs.Events.{Event, Audit, Forward, Ask, ItsIndication, ItsChallenges, ItsEvidence}
use Rattle.witness_spec.specs.Refusals.{refusal_number}
use Rattle.witness_spec.specs.Replies.{Reply, Indication, Challenge}
use Rattle.witness_spec.specs.Replies as r
use Rattle.evidence_spec.specs.Evidence.{EvidenceParts}
use Rattle.witness_calls.specs.Telling.{word_of}
use Rattle.scripts.specs.declared.line.Act.{Act}
use Rattle.scripts.specs.declared.line.Act.TheVariants as a
use Rattle.scripts.specs.declared.line.Line.{Line}
use Rattle.scripts.specs.declared.line.Line.TheVariants as l
use Rattle.scripts.specs.declared.stop.Stop.{Stop}
use Rattle.scripts.specs.declared.stop.Stop.TheVariants as stops

-- ---- lines

-- the line `refused R`
abbrev pub refused_line : (number : ℕ) → List ℕ
refused_line number = codes "refused " ++ (decimal number ++ codes "\n")

-- the line that says that there is nothing to hand over
abbrev pub none_line : List ℕ
none_line = codes "none\n"

-- the line `flooded T`
abbrev pub flooded_line : (times : ℕ) → List ℕ
flooded_line times = codes "flooded " ++ (decimal times ++ codes "\n")

-- the line of what is told of a node: `N INDICATION OPEN`
abbrev pub told_line : (node : ℕ) → Indication → (open_challenges : ℕ) → List ℕ
told_line node i count =
    decimal node ++ (codes " " ++ (word_of i ++ (codes " " ++ (decimal count ++ codes "\n"))))

-- the words before what is said of an authenticator that is forwarded: `forwarded M K `
abbrev pub forwarded_words : (node number : ℕ) → List ℕ
forwarded_words node number = codes "forwarded " ++ (decimal node ++ (codes " " ++ (decimal number ++ codes " ")))

-- the line of a reply, each with its word alone or with what follows it
abbrev pub reply_line : Reply → List ℕ
reply_line r.Noted = codes "noted\n"
reply_line r.Already = codes "already\n"
reply_line r.Opened = codes "opened\n"
reply_line r.Accepted = codes "accepted\n"
reply_line r.Closed = codes "closed\n"
reply_line (r.Asked first last) = codes "asked " ++ (decimal first ++ (codes " " ++ (decimal last ++ codes "\n")))
reply_line (r.Job j) = codes "returned\n"
reply_line r.Filed = codes "returned\n"
reply_line r.Returned = codes "returned\n"
reply_line (r.Forwarded x) =
    codes "forwarded " ++ (decimal x.node ++ (codes " " ++ (decimal x.word ++ codes "\n")))
reply_line r.Empty = codes "empty\n"
reply_line (r.Told i) = word_of i ++ codes "\n"
reply_line (r.OpenList cs) = codes "open\n"
reply_line (r.EvidenceIs e) = codes "evidence\n"
reply_line (r.Refused f) = refused_line (refusal_number f)
reply_line (r.FileRefused f d) = refused_line (refusal_number f)
reply_line (r.PutBackRefused f j) = refused_line (refusal_number f)

-- ---- what a line prints and adds to the claims of the pass

-- the claim that an event with its reply stands at some place
abbrev pub claim : ℕ → Event → Reply → Claim
claim place event reply = record { place = place; step = (event, reply) }

-- One event was handed in, and its reply is printed.
pub record IsAnswered (event : Event) (text : List ℕ) (claims : List Claim) : Type 0 where
  pub place : ℕ
  pub reply : Reply
  pub claims_are : claims ≡ claim place event reply ∷ []
  pub text_is : text ≡ reply_line reply

-- a text is the line of a refusal
abbrev pub IsRefusal : List ℕ → Type 0
IsRefusal text = (number : ℕ) × (text ≡ refused_line number)

-- A refusal is printed of what never came to the witness's books.
pub record IsTurnedAway (text : List ℕ) (claims : List Claim) : Type 0 where
  pub claims_are : claims ≡ []
  pub is_refusal : IsRefusal text

-- Something is printed, and nothing was asked of the witness.
abbrev pub IsSilent : List ℕ → List Claim → Type 0
IsSilent text claims = claims ≡ []

-- The line `ok` or a refusal is printed, and nothing was asked of the witness.
pub record IsSkipped (text : List ℕ) (claims : List Claim) : Type 0 where
  pub claims_are : claims ≡ []
  pub says : (text ≡ codes "ok\n") ⊎ IsRefusal text

-- the line `marked K`
abbrev pub marked_line : (number : ℕ) → List ℕ
marked_line number = codes "marked " ++ (decimal number ++ codes "\n")

-- A CHECK was logged and its number is printed, or a refusal is; and nothing was asked of the witness.
pub record IsMarked (text : List ℕ) (claims : List Claim) : Type 0 where
  pub claims_are : claims ≡ []
  pub says : ((number : ℕ) × (text ≡ marked_line number)) ⊎ IsRefusal text

-- A packet was handed in: the event that it spells is answered, or it was refused before.
abbrev pub IsHeard : List ℕ → List Claim → Type 0
IsHeard text claims = ((event : Event) × IsAnswered event text claims) ⊎ IsTurnedAway text claims

-- There was nothing to hand in, which is printed.
pub record IsNone (text : List ℕ) (claims : List Claim) : Type 0 where
  pub claims_are : claims ≡ []
  pub text_is : text ≡ none_line

-- A packet was handed in, if there was one.
abbrev pub IsHanded : List ℕ → List Claim → Type 0
IsHanded text claims = IsHeard text claims ⊎ IsNone text claims

-- After one event that isn't printed: what came then.
pub record IsAfter (event : Event) (then : List ℕ → List Claim → Type 0) (text : List ℕ) (claims : List Claim)
    : Type 0 where
  pub place : ℕ
  pub reply : Reply
  pub more : List Claim
  pub claims_are : claims ≡ claim place event reply ∷ more
  pub is_then : then text more

-- A node's failure indication and its open challenges were asked for: the first is printed, and how many the
-- others are.
pub record IsTold (node : ℕ) (text : List ℕ) (claims : List Claim) : Type 0 where
  pub indication : Indication
  pub listed : List Challenge
  pub first : ℕ
  pub second : ℕ
  pub claims_are : claims
      ≡ claim first (Ask node ItsIndication) (r.Told indication)
      ∷ claim second (Ask node ItsChallenges) (r.OpenList listed) ∷ []
  pub text_is : text ≡ told_line node indication (length listed)

-- A line `ask`: both were told, or the reply that doesn't tell is printed.
abbrev pub IsAsked : (node : ℕ) → List ℕ → List Claim → Type 0
IsAsked node text claims =
    IsTold node text claims
    ⊎ IsAnswered (Ask node ItsIndication) text claims
    ⊎ IsAfter (Ask node ItsIndication) (IsAnswered (Ask node ItsChallenges)) text claims

-- the version of a node's log, as a roster has it; 1 where it is no member
abbrev pub log_version : List Member → (node : ℕ) → LogVersion
log_version ms node = elim (member_of ms node) [ None ↦ One | Some m ↦ m.log_version ]

-- An authenticator was handed in: whose it is and its number in a log of this version are printed, and what was
-- said of it.
pub record IsPassed (v : LogVersion) (x : Authenticator) (text : List ℕ) (claims : List Claim) : Type 0 where
  pub words : List ℕ
  pub text_is : text ≡ forwarded_words x.node (number_in v x.word) ++ words
  pub is_heard : IsHeard words claims

-- An authenticator came out of a node's outbox, and was handed in.
pub record IsPassedOn (node : ℕ) (text : List ℕ) (claims : List Claim) : Type 0 where
  pub place : ℕ
  pub passed : Authenticator
  pub version : LogVersion
  pub more : List Claim
  pub claims_are : claims ≡ claim place (Forward node) (r.Forwarded passed) ∷ more
  pub is_passed : IsPassed version passed text more

-- A line `forward`: one was passed on, or the reply is printed.
abbrev pub IsForwarded : (node : ℕ) → List ℕ → List Claim → Type 0
IsForwarded node text claims = IsPassedOn node text claims ⊎ IsAnswered (Forward node) text claims

-- the line that says that evidence was put in its place
abbrev pub written_line : List ℕ
written_line = codes "written\n"

-- the line after a question for evidence
abbrev pub evidence_line : Option EvidenceParts → List ℕ
evidence_line None = none_line
evidence_line (Some e) = written_line

-- Evidence was asked for, and told.
pub record IsShown (node : ℕ) (text : List ℕ) (claims : List Claim) : Type 0 where
  pub place : ℕ
  pub evidence : Option EvidenceParts
  pub claims_are : claims ≡ claim place (Ask node ItsEvidence) (r.EvidenceIs evidence) ∷ []
  pub text_is : text ≡ evidence_line evidence

-- A line `evidence`: it was told, or the reply that doesn't tell is printed.
abbrev pub IsEvidence : (node : ℕ) → List ℕ → List Claim → Type 0
IsEvidence node text claims = IsShown node text claims ⊎ IsAnswered (Ask node ItsEvidence) text claims

-- A packet was handed in several times, and the last time something else than before was said, which is
-- printed.
pub record IsLastHeard (text : List ℕ) (claims : List Claim) : Type 0 where
  pub before : List Claim
  pub last : List Claim
  pub claims_are : claims ≡ before ++ last
  pub is_heard : IsHeard text last

-- A line `flood`.
abbrev pub IsFlood : (times : ℕ) → List ℕ → List Claim → Type 0
IsFlood times text claims =
    (text ≡ flooded_line times) ⊎ IsLastHeard text claims ⊎ IsNone text claims

-- A line `replay`: a round's lines, and its steps, of which nothing more is said here.
abbrev pub IsRound : List ℕ → List Claim → Type 0
IsRound text claims = ⊤

-- what a line prints and adds
abbrev pub IsDone : Act → List ℕ → List Claim → Type 0
IsDone (a.Call pair body) = IsSilent
IsDone (a.Fork pair first second) = IsSilent
IsDone (a.Lie server) = IsSilent
IsDone (a.Mark server) = IsMarked
IsDone (a.Skip node by) = IsSkipped
IsDone (a.Learn place) = IsHanded
IsDone (a.Forge place) = IsHanded
IsDone (a.Flood place times) = IsFlood times
IsDone (a.Audit node) = IsAnswered (Audit node)
IsDone (a.Answer node) = IsAfter (Ask node ItsChallenges) IsHanded
IsDone (a.Replay workers) = IsRound
IsDone (a.Challenge pair number) = IsHanded
IsDone (a.Ack pair number) = IsHanded
IsDone (a.Forward node) = IsForwarded node
IsDone (a.Ask node) = IsAsked node
IsDone (a.Evidence node file) = IsEvidence node

-- What a line after the nodes prints and adds where its witness goes on. A `join` found no base then.
abbrev pub IsLine : Line → List ℕ → List Claim → Type 0
IsLine (l.Node node) text claims = ⊥
IsLine (l.Join place) text claims = IsNone text claims
IsLine (l.Act act) text claims = IsDone act text claims

-- ---- turns

-- This is printed, and the claims of the pass grow by those of which it is so.
pub record Does (is : List ℕ → List Claim → Type 0) (old : List Claim) (text : List ℕ) (new : List Claim)
    : Type 0 where
  pub claims : List Claim
  pub added : new ≡ old ++ claims
  pub is_so : is text claims

-- A line's turn: what it says, what it printed, and the claims that it added to the pass.
pub record Turn : Type 0 where
  pub line : Line
  pub text : List ℕ
  pub claims : List Claim

-- what a turn prints and adds is what its line does
abbrev pub IsTurn : Turn → Type 0
IsTurn t = IsLine t.line t.text t.claims

-- the texts of turns, one after the other
abbrev pub texts_of : List Turn → List ℕ
texts_of turns = flat_map (λ t. t.text) turns

-- the claims of turns, joined
abbrev pub added_by : List Turn → List Claim
added_by turns = flat_map (λ t. t.claims) turns

-- Lines were run, each a turn: their texts were written, where it is known what is written, and their claims
-- were added.
pub record Runs (before after : Option (List ℕ)) (old new : List Claim) : Type 0 where
  pub turns : List Turn
  pub each : AllByRecursion IsTurn turns
  pub wrote : Appends before after (texts_of turns)
  pub added : new ≡ old ++ added_by turns

-- Lines were run, and their texts were written, and nothing else.
pub record WritesTurns (before after : Option (List ℕ)) : Type 0 where
  pub turns : List Turn
  pub each : AllByRecursion IsTurn turns
  pub wrote : Appends before after (texts_of turns)

-- A line was run: its text was written, and its claims were added.
pub record TakesTurn (before after : Option (List ℕ)) (old new : List Claim) : Type 0 where
  pub turn : Turn
  pub is : IsTurn turn
  pub wrote : Appends before after turn.text
  pub added : new ≡ old ++ turn.claims

-- Why no line was run after some others: if the next one is bad, their texts were written and nothing else.
abbrev pub Leaves : (before after : Option (List ℕ)) → Stop → Type 0
Leaves before after stop = stop ≡ stops.Bad → WritesTurns before after
