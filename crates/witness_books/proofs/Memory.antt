-- Memory runs out only where it may.
-- Serves: Books::step.
use Rattle.std.proofs.Common.{◌≡◌, ◌⊎◌, inl, inr, ◌≤◌, true, false, true≢false, List, [], ◌∷◌, map}
use Rattle.std.proofs.Common.{refl, sym, ap, subst, ◌∙◌, arith}
use Rattle.authenticator.specs.Roster.{IsRoster}
use Rattle.authenticator.specs.declared.member.Member.{Member}
use Rattle.node_book.specs.witness_spec.Refusals.{Refusal, UnknownNode, Garbage, BadSignature, LearnedFull}
use Rattle.node_book.specs.witness_spec.Refusals.{ChallengesFull, OutboxFull, TooFar, NothingToAudit, Busy}
use Rattle.node_book.specs.witness_spec.Refusals.{NotAsked, NoJob, WrongJob, BookFull, NoMemory, BelowBase}
use Rattle.node_book.specs.witness_spec.Refusals.{refusal_number}
use Rattle.node_book.specs.witness_spec.Events.{Event, IsEvent}
use Rattle.node_book.specs.witness_spec.Events as events
use Rattle.node_book.specs.witness_spec.Replies.{Reply, refused, is_want, is_want_of_memory}
use Rattle.node_book.specs.witness_spec.Starting.{Beginning}
use Rattle.node_book.specs.witness_spec.Steps as steps
use Rattle.node_book.specs.witness_spec.Histories.{History, IsOwed, IsWanting, BookParts}
use Rattle.node_book.specs.witness_spec.Laws.{LeftOutChangesNothing}
use Rattle.node_book.specs.witness_book_laws.Books.{Book, parts_of}
use Rattle.node_book.specs.witness_book_laws.Going.{book_after}
use Rattle.node_book.specs.witness_book_laws.ReadyLaws.{ReadyBooksStep}
use Rattle.node_book.specs.witness_book_laws.Together.{with_book_at}
use Rattle.node_book.specs.witness_book_laws.Ready.{AreReady}
use Rattle.node_book.specs.Stepping.{Steps, is_refusal_or_already}
use Rattle.witness_books.specs.Memory.{AreBytes, IsStepThatMay, MayRunOut, RunsOutWhereItMay, RunsOutForMore}
use Rattle.witness_books.specs.Memory.{RunOutForMore}
use Rattle.witness_books.specs.Places.{OneDoes}
use Rattle.witness_books.specs.Routing.{IsStepOf, IsNobodys}
use Rattle.witness_books.proofs.Noting.{owed_enough}
use Rattle.witness_books.proofs.Stepping.{made_goes}

-- a refusal with a small number doesn't say that memory ran out
small_is_none : (f : Refusal) → refusal_number f ≤ 3 → is_want f ≡ false
small_is_none UnknownNode few = refl
small_is_none Garbage few = refl
small_is_none BadSignature few = refl
small_is_none LearnedFull few = refl
small_is_none ChallengesFull few = refl
small_is_none OutboxFull few = refl
small_is_none TooFar few = refl
small_is_none NothingToAudit few = refl
small_is_none Busy few = refl
small_is_none NotAsked few = refl
small_is_none NoJob few = refl
small_is_none WrongJob few = refl
small_is_none BookFull few = refl
small_is_none BelowBase few = refl
small_is_none NoMemory few = let no : ⊥ = omega (arith, few) in absurd no

-- the refusal of an event says it where the refusal does
refused_wants : (event : Event) (f : Refusal) → is_want_of_memory (refused event f) ≡ is_want f
refused_wants (events.Deliver bytes) f = refl
refused_wants (events.Learn a key) f = refl
refused_wants (events.SendChallenge e key) f = refl
refused_wants (events.Answer c) f = refl
refused_wants (events.AckIn a key) f = refl
refused_wants (events.Audit node) f = refl
refused_wants (events.Begin node) f = refl
refused_wants (events.File d) f = refl
refused_wants (events.PutBack j) f = refl
refused_wants (events.Forward node) f = refl
refused_wants (events.Ask node question) f = refl

-- an event that is refused before it is a step says it of bytes alone
pub refused_runs_out : LeftOutChangesNothing → (g : Beginning) (event : Event) (reply : Reply)
    → IsNobodys g.roster event reply ⊎ (AreBytes event × IsWanting event reply)
    → RunsOutWhereItMay g.roster event reply
refused_runs_out law g event reply (inl nobodys) wants =
    let few = (law g event nobodys.why nobodys.whose_is).few in
    let none : is_want_of_memory reply ≡ false =
    ap is_want_of_memory nobodys.is ∙ refused_wants event nobodys.why ∙ small_is_none nobodys.why few in
    absurd (true≢false (sym wants ∙ none))
refused_runs_out law g event reply (inr bytes) wants = inl bytes.0

-- a member's step says it where the step may
pub step_runs_out : (g : Beginning) (m : Member) (old new : List Book) (event : Event) (step : steps.Step)
    (reply : Reply) → IsRoster g.roster → AreReady g old → IsEvent event → IsStepOf g.roster event m step
    → OneDoes g.roster m.node old (λ b after. Steps b step reply after) new
    → RunsOutWhereItMay g.roster event reply
step_runs_out g m old new event step reply roster ready is of one wants = by one.does
  where
    by : Steps one.book step reply one.after → MayRunOut g.roster event
    by (inl made) =
        let enough = owed_enough g m old one.book event step reply roster ready is of one.there made.owes in
        absurd (true≢false (sym wants ∙ enough))
    by (inr out) = inr (subst IsStepThatMay (sym of.whose_is) out.0.may)

-- ---- where more is owed

-- an event that is refused before it is a step says it of bytes alone
pub refused_for_more : LeftOutChangesNothing → (g : Beginning) (old : List BookParts) (event : Event)
    (reply : Reply) → IsNobodys g.roster event reply ⊎ (AreBytes event × IsWanting event reply)
    → RunOutForMore g old (event ∷ []) (reply ∷ [])
refused_for_more law g old event reply why history h stands = (by why, tt)
  where
    by : IsNobodys g.roster event reply ⊎ (AreBytes event × IsWanting event reply)
        → RunsOutForMore g history event reply
    by (inl nobodys) wants =
        let few = (law g event nobodys.why nobodys.whose_is).few in
        let none : is_want_of_memory reply ≡ false =
        ap is_want_of_memory nobodys.is ∙ refused_wants event nobodys.why ∙ small_is_none nobodys.why few in
        absurd (true≢false (sym wants ∙ none))
    by (inr bytes) wants = inl bytes.0

-- an event that is refused is refused
refused_is_refusal : (event : Event) (f : Refusal) → is_refusal_or_already (refused event f) ≡ true
refused_is_refusal (events.Deliver bytes) f = refl
refused_is_refusal (events.Learn a key) f = refl
refused_is_refusal (events.SendChallenge e key) f = refl
refused_is_refusal (events.Answer c) f = refl
refused_is_refusal (events.AckIn a key) f = refl
refused_is_refusal (events.Audit node) f = refl
refused_is_refusal (events.Begin node) f = refl
refused_is_refusal (events.File d) f = refl
refused_is_refusal (events.PutBack j) f = refl
refused_is_refusal (events.Forward node) f = refl
refused_is_refusal (events.Ask node question) f = refl

-- what isn't a refusal is owed where memory is enough
more_is_owed : (g : Beginning) (history : History) (event : Event) (owed : Reply)
    → is_refusal_or_already owed ≡ false → IsOwed g history event owed ⊎ IsWanting event owed
    → IsOwed g history event owed
more_is_owed g history event owed more (inl is) = is
more_is_owed g history event owed more (inr wants) =
    absurd (true≢false (sym (refused_is_refusal event NoMemory)
    ∙ (sym (ap is_refusal_or_already wants.is) ∙ more)))

-- a member's step says it where its book owes more
pub step_for_more : ReadyBooksStep → (g : Beginning) (m : Member) (old new : List Book) (event : Event)
    (step : steps.Step) (reply : Reply) → IsRoster g.roster → AreReady g old → IsEvent event
    → IsStepOf g.roster event m step → OneDoes g.roster m.node old (λ b after. Steps b step reply after) new
    → RunOutForMore g (map parts_of old) (event ∷ []) (reply ∷ [])
step_for_more law g m old new event step reply roster ready is of one history h stands = (by one.does, tt)
  where
    by : Steps one.book step reply one.after → RunsOutForMore g history event reply
    by (inl made) wants =
        let enough = owed_enough g m old one.book event step reply roster ready is of one.there made.owes in
        absurd (true≢false (sym wants ∙ enough))
    by (inr out) wants =
        let owed = out.0.owed in
        let after = book_after one.book step owed in
        let goes = made_goes law g m old (with_book_at g.roster m.node after old) one.book after event step
        owed roster ready is of one.there (record { owes = out.0.owes; after = refl }) refl in
        inr (record {
          owed = owed;
          owes = more_is_owed g history event owed out.0.is_more (goes.steps history h stands).0.1;
          is_more = out.0.is_more;
        })
