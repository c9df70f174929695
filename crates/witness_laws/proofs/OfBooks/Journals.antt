-- A journal is a history in which nothing ran out of memory; and what leaves the books.
-- Serves: journals_are_histories, what_leaves_books.
use Rattle.std.proofs.Common.{◌≡◌, ◌⊎◌, ◌↔◌, inl, inr, ◌≤◌, Bool, true, false, cond, List, [], ◌∷◌}
use Rattle.std.proofs.Common.{Result, Ok, Err, refl, sym, ap, subst, ◌∙◌, arith}
use Rattle.std.specs.List.{AllByRecursion}
use Rattle.std.proofs.lemmas.Bool.{true≢false}
use Rattle.witness_spec.specs.Refusals.{Refusal, refusal_number, NoMemory}
use Rattle.witness_spec.specs.Refusals as refusals
use Rattle.witness_spec.specs.Events.{Event, IsEvent}
use Rattle.witness_spec.specs.Events as events
use Rattle.witness_spec.specs.Replies.{Reply, refused, is_want, is_want_of_memory}
use Rattle.witness_spec.specs.Starting.{Beginning}
use Rattle.witness_spec.specs.Watched.{watched}
use Rattle.witness_spec.specs.Steps.{OwnStep}
use Rattle.witness_spec.specs.Whose.{whose}
use Rattle.witness_spec.specs.Histories.{History, own, OwesTo, IsOwed, IsWanting, IsHistory, BookParts}
use Rattle.witness_spec.specs.Contract.{starting_books, StepsTo, IsOutOfMemory, IsNotedStep, IsJournal}
use Rattle.witness_spec.specs.Contract.{IsJournalOf, recorded}
use Rattle.witness_laws.proofs.Replied.{owed_good, good_want, want_refused}
use Rattle.witness_laws.proofs.LeftOut.{left_out, want_changes}
use Rattle.witness_laws.proofs.OfBooks.Standing.{starting_stand}
use Rattle.witness_laws.proofs.OfBooks.Runs.{owed_to}

-- ---- what is owed is never NoMemory

early_want : (refusal : Refusal) → refusal_number refusal ≤ 3 → is_want refusal ≡ false
early_want refusals.UnknownNode h = refl
early_want refusals.Garbage h = refl
early_want refusals.BadSignature h = refl
early_want refusals.LearnedFull h = refl
early_want refusals.ChallengesFull h = refl
early_want refusals.OutboxFull h = refl
early_want refusals.TooFar h = refl
early_want refusals.NothingToAudit h = refl
early_want refusals.Busy h = refl
early_want refusals.NotAsked h = refl
early_want refusals.NoJob h = refl
early_want refusals.WrongJob h = refl
early_want refusals.BookFull h = refl
early_want refusals.NoMemory h = absurd (omega (arith, h))
early_want refusals.BelowBase h = refl

want_by : (e : Event) (refusal : Refusal) → is_want_of_memory (refused e refusal) ≡ is_want refusal
want_by (events.Deliver bytes) refusal = refl
want_by (events.Learn a key) refusal = refl
want_by (events.SendChallenge a key) refusal = refl
want_by (events.Answer c) refusal = refl
want_by (events.AckIn a key) refusal = refl
want_by (events.Audit node) refusal = refl
want_by (events.Begin node) refusal = refl
want_by (events.File d) refusal = refl
want_by (events.PutBack j) refusal = refl
want_by (events.Forward node) refusal = refl
want_by (events.Ask node q) refusal = refl

module _ (g : Beginning) where
  owed_by : (history : History) (e : Event) (r : Reply) (w : Result OwnStep Refusal) → whose g.roster e ≡ w
      → OwesTo g history e r w → is_want_of_memory r ≡ false
  owed_by history e r (Err refusal) w owed =
      ap is_want_of_memory owed ∙ (want_by e refusal ∙ early_want refusal (left_out g e refusal w).few)
  owed_by history e r (Ok o) w owed =
      good_want r (owed_good (watched g o.member) (own g.roster o.member.node history) o.step r owed)

  -- a reply that is owed doesn't say that memory ran out
  pub owed_no_want : (history : History) (e : Event) (r : Reply) → IsOwed g history e r
      → is_want_of_memory r ≡ false
  owed_no_want history e r owed = owed_by history e r (whose g.roster e) refl owed

  -- ---- journals

  -- nothing ran out of memory
  abbrev pub Nowhere : History → Type 0
  Nowhere journal = AllByRecursion (λ p. is_want_of_memory p.1 ≡ false) journal

  are_histories : (journal : History) → IsJournal g journal → IsHistory g journal × Nowhere journal
  are_histories [] h = (tt, tt)
  are_histories (p ∷ journal) h =
      let rest = are_histories journal h.2 in
      ((h.0, inl h.1, rest.0), (owed_no_want journal p.0 p.1 h.1, rest.1))

  owed_of : (history : History) (e : Event) (r : Reply) → IsOwed g history e r ⊎ IsWanting e r
      → is_want_of_memory r ≡ false → IsOwed g history e r
  owed_of history e r (inl owed) enough = owed
  owed_of history e r (inr wanting) enough =
      absurd (true≢false (sym (ap is_want_of_memory wanting.is ∙ want_refused e) ∙ enough))

  are_journals : (journal : History) → IsHistory g journal → Nowhere journal → IsJournal g journal
  are_journals [] h none = tt
  are_journals (p ∷ journal) h none =
      (h.0, owed_of journal p.0 p.1 h.1 none.0, are_journals journal h.2 none.1)

  -- a journal is a history in which nothing ran out of memory
  pub journals : (journal : History) → IsJournal g journal ↔ (IsHistory g journal × Nowhere journal)
  journals journal = (are_histories journal, λ h. are_journals journal h.0 h.1)

  -- the journal of nothing is that of the books at first
  pub starting_journal : IsJournalOf g [] (starting_books g)
  starting_journal = record { replies = tt; stands = starting_stand g }

  -- a step that isn't answered NoMemory is a noted step
  pub noted_step : (old new : List BookParts) (e : Event) (r : Reply) → is_want_of_memory r ≡ false
      → StepsTo g old e r new → IsNotedStep g old e r new
  noted_step old new e r enough step = record {
    noted = λ history n is stand.
        let k = step history is stand in
        (k.0.0, owed_to g old new e r history is stand step (inl enough), k.1);
    refused = λ want. absurd (true≢false (sym want ∙ enough));
  }

  -- a noted step keeps a journal with its books
  pub journal_after : (old new : List BookParts) (journal : History) (e : Event) (r : Reply)
      → IsJournalOf g journal old → IsNotedStep g old e r new → IsJournalOf g (recorded e r journal) new
  journal_after old new journal e r was step = by (is_want_of_memory r) refl
    where
      by : (t : Bool) → is_want_of_memory r ≡ t → IsJournalOf g (cond t journal ((e, r) ∷ journal)) new
      by true want = subst (IsJournalOf g journal) (sym (step.refused want).1) was
      by false enough =
          let k = step.noted journal enough (are_histories journal was.replies).0 was.stands in
          record { replies = (k.0, k.1, was.replies); stands = k.2 }

  -- ---- what leaves the books

  -- an event that is nobody's step leaves them
  pub left_out_leaves : (books : List BookParts) (e : Event) (refusal : Refusal) → IsEvent e
      → whose g.roster e ≡ Err refusal → StepsTo g books e (refused e refusal) books
  left_out_leaves books e refusal event w history is stand =
      let l = left_out g e refusal w in (
        (event, inl ((l.reply history (refused e refusal)).1 refl), is),
        (l.changes history (refused e refusal)).books books stand,
      )

  -- so does one that ran out of memory
  pub want_leaves : (books : List BookParts) (e : Event) (r : Reply) → IsEvent e → IsWanting e r
      → StepsTo g books e r books
  want_leaves books e r event wanting history is stand =
      ((event, inr wanting, is), (want_changes g history e r wanting).books books stand)

  -- and one that did where event and reply are copied
  pub out_of_memory_leaves : (books : List BookParts) (e : Event) (r : Reply) → IsOutOfMemory e r
      → IsNotedStep g books e r books
  out_of_memory_leaves books e r out = record {
    noted = λ history enough is stand.
        absurd (true≢false (sym (ap is_want_of_memory out ∙ want_refused e) ∙ enough));
    refused = λ want. (out, refl);
  }
