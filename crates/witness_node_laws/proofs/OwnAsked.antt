-- An audit asks up to a number that was learned; so where all that was learned is a node's own, the node
-- signed there.
-- Serves: own_words_can_be_answered.
use Rattle.std.proofs.Common.{◌≡◌, inl, inr, ℕ, ◌-◌, Bool, true, false, cond, List, [], ◌∷◌, ◌++◌}
use Rattle.std.proofs.Common.{filter, nat_lt}
use Rattle.std.proofs.Common.{Option, Some, None, refl, sym, ap, subst, ◌∙◌, append_assoc, arith}
use Rattle.std.specs.Prelude.{IsSome, option_map}
use Rattle.std.specs.List.{AllByRecursion}
use Rattle.std.proofs.lemmas.Bool.{true≢false}
use Rattle.authenticator.specs.declared.authenticator.Authenticator.{Authenticator}
use Rattle.authenticator.specs.declared.member.LogVersion.{LogVersion}
use Rattle.authenticator.specs.declared.member.LogVersion.TheVariants.{One, Two}
use Rattle.authenticator.specs.Numbers.{number_in}
use Rattle.secure_log.specs.LogEntries.Chain.{IsAmong, Logged}
use Rattle.secure_log.specs.Log.{HasEntry, hash_at}
use Rattle.secure_log.specs.Versioned.{VersionedParts}
use Rattle.commitment.specs.Signings.Signings.{Signing, is_signed_entry, logged_of}
use Rattle.commitment.specs.Senders.Sender.{SenderParts, IsSender, IsSigningAt, signed_at}
use Rattle.commitment.specs.Senders.LookUps.{authenticator_of}
use Rattle.node_logs.specs.Steps.Nodes.{NodeParts, sender_of}
use Rattle.witness_laws.specs.witness_spec.Replies.{Reply}
use Rattle.witness_laws.specs.witness_spec.Starting.{start_number}
use Rattle.witness_laws.specs.witness_spec.Watched.{Watched}
use Rattle.witness_laws.specs.witness_spec.Steps.{Step, Learn, Past}
use Rattle.node_logs.specs.replay_spec.Replay.{Verdict, Sound, Fault}
use Rattle.witness_laws.specs.witness_spec.Pairs.{last_of, number_of}
use Rattle.witness_laws.specs.witness_spec.Standing.{Stage, NoAudit, Wanted, Given, Out, stage_of, kept}
use Rattle.witness_laws.specs.witness_spec.Standing.{noted_before}
use Rattle.witness_laws.specs.witness_spec.Standing.{unless_exposed, End, end_after, end_of, is_exposed, moved_by, verdict_on}
use Rattle.witness_laws.specs.witness_spec.Done.{filed, noted}
use Rattle.witness_laws.specs.witness_spec.Histories.{AreOwed}
use Rattle.witness_laws.proofs.Doing.{Doing, Nothing, Notes, Accepts, Asks, Begins, Files, PutsBack, doing}
use Rattle.witness_laws.proofs.OfTrust.Pairs.{among_parts}
use Rattle.witness_node_laws.specs.Logs.{IsAnswered, IsHandedOut, MayBegin, ShowsItsOwn}
use Rattle.witness_node_laws.proofs.Own.{OfItsLog}
use Rattle.witness_node_laws.proofs.Pairs.{EachPlace, entry_hash, number_of_place, zero_hash}

-- what tells what a sender signed, and what it didn't
abbrev pub SignsEach : Type 0
SignsEach =
    (s : SenderParts) (number : ℕ) (g : Signing) → IsSender s → signed_at s number ≡ Some g
    → IsSigningAt s number g

abbrev pub LeavesNone : Type 0
LeavesNone =
    (s : SenderParts) (number : ℕ) (l : Logged)
    → signed_at s number ≡ None → HasEntry s.log.entries number l → is_signed_entry l.entry ≡ false

from_filter : (test : Authenticator → Bool) (x : Authenticator) (xs : List Authenticator)
    → IsAmong x (filter test xs) → IsAmong x xs
from_filter test x [] i = absurd i
from_filter test x (y ∷ ys) i = by (test y) (filter test ys) i (from_filter test x ys)
  where
    by : (c : Bool) (rest : List Authenticator) → IsAmong x (cond c (y ∷ rest) rest)
        → (IsAmong x rest → IsAmong x ys)
        → IsAmong x (y ∷ ys)
    by true rest (inl e) more = inl e
    by true rest (inr i) more = inr (more i)
    by false rest i more = inr (more i)

-- an entry of a log is one of the log that goes on
entry_stays : (log more : List Logged) (number : ℕ) (l : Logged) → HasEntry log number l
    → HasEntry (log ++ more) number l
entry_stays log more number l h = record {
  before = h.before;
  rest = h.rest ++ more;
  whole = ap (λ (ls : List Logged). ls ++ more) h.whole ∙ append_assoc h.before (l ∷ h.rest) more;
  place = h.place;
}

module _ (each : SignsEach) (none : LeavesNone) (of_log : OfItsLog) (places : EachPlace) (n : NodeParts) where
  -- where an entry is that was signed, something is signed now
  still_signed : (number : ℕ) (l : Logged) → is_signed_entry l.entry ≡ true → HasEntry n.entries number l
      → IsSome (signed_at (sender_of n) number)
  still_signed number l kind there = by (signed_at (sender_of n) number) refl
    where
      by : (o : Option Signing) → signed_at (sender_of n) number ≡ o → IsSome o
      by None at = absurd (true≢false (sym kind ∙ none (sender_of n) number l at there))
      by (Some g) at = refl

  -- A node signed at the number of an authenticator that it handed out.
  signed_now : (a : Authenticator) → IsHandedOut n a
      → IsSome (signed_at (sender_of n) (number_in n.log_version a.word))
  signed_now a h = by (signed_at (sender_of h.before) h.number) refl h.made
    where
      by : (o : Option Signing) → signed_at (sender_of h.before) h.number ≡ o
          → option_map (authenticator_of h.before.node) o ≡ Some a
          → IsSome (signed_at (sender_of n) (number_in n.log_version a.word))
      by None at made = absurd (cc)
      by (Some g) at made =
          let g_at = each (sender_of h.before) h.number g h.went_on.sender at in
          let place = (of_log (sender_of h.before) h.number a h.went_on.sender h.made).place in
          let same : h.number ≡ number_in n.log_version a.word =
          sym (number_of_place (sender_of h.before) h.number a h.went_on.sender place)
          ∙ ap (λ v. number_in v a.word) h.went_on.version in
          subst (λ k. IsSome (signed_at (sender_of n) k)) same
          (still_signed h.number (logged_of g) g_at.kind
          (subst (λ ls. HasEntry ls h.number (logged_of g)) (sym h.went_on.entries)
          (entry_stays h.before.entries h.went_on.rest h.number (logged_of g) g_at.there)))

  -- The last number of a segment that a node answered is an entry's.
  answered_end : (s : VersionedParts) → IsAnswered n s → IsSome (hash_at n.entries (last_of s))
  answered_end s h =
      let closing = h.answers.answer.closing in
      let part = h.answers.answer.part in
      let place = (of_log (sender_of h.before) h.last closing h.went_on.sender h.answers.answer.made).place in
      let same : number_in part.log_version closing.word ≡ h.last =
      ap (λ v. number_in v closing.word) h.answers.answer.of_log.version
      ∙ number_of_place (sender_of h.before) h.last closing h.went_on.sender place in
      subst (λ (x : VersionedParts). IsSome (hash_at n.entries (last_of x))) (sym h.is)
      (subst (λ k. IsSome (hash_at n.entries k)) (sym same)
      (entry_hash n.entries h.last place.entry
      (subst (λ ls. HasEntry ls h.last place.entry) (sym h.went_on.entries)
      (entry_stays h.before.entries h.went_on.rest h.last place.entry place.there))))

  -- the segment that an audit has ends with an entry's number
  abbrev StageEnds : Stage → Type 0
  StageEnds NoAudit = Unit {0}
  StageEnds (Wanted first last) = Unit {0}
  StageEnds (Given c) = IsSome (hash_at n.entries (last_of c.segment))
  StageEnds (Out c) = IsSome (hash_at n.entries (last_of c.segment))

  -- as the end of what was audited is 0 or an entry's number
  record Ends (w : Watched) (past : Past) : Type 0 where
    end : IsSome (hash_at n.entries (end_of w past).number)
    stage : StageEnds (stage_of past)

  moved : (e : End) (last : ℕ) (v : Verdict) → IsSome (hash_at n.entries e.number) → IsSome (hash_at n.entries last)
      → IsSome (hash_at n.entries (moved_by e last v).number)
  moved e last (Sound s found) old new = new
  moved e last (Fault fault number) old new = old

  -- what files nothing leaves the end
  end_stays : (w : Watched) (past : Past) (p : Step × Reply) → filed p.0 p.1 ≡ None → Ends w past
      → IsSome (hash_at n.entries (end_of w (p ∷ past)).number)
  end_stays w past p none h =
      subst (λ o. IsSome (hash_at n.entries (end_after w.roster (end_of w past) o).number)) (sym none) h.end

  ends_after : (w : Watched) (past : Past) (p : Step × Reply) → Doing w past p → ShowsItsOwn n p.0 → Ends w past
      → Ends w (p ∷ past)
  ends_after w past p (Nothing did) mine h =
      record { end = end_stays w past p did.files h; stage = subst StageEnds (sym did.stage) h.stage }
  ends_after w past p (Notes a is low did) mine h =
      record { end = end_stays w past p did.files h; stage = subst StageEnds (sym did.stage) h.stage }
  ends_after w past p (Accepts c is wanted did) mine h = record {
    end = end_stays w past p did.files h;
    stage = subst StageEnds (sym did.stage) (answered_end c.segment (subst (ShowsItsOwn n) is mine));
  }
  ends_after w past p (Asks first last is few did) mine h =
      record { end = end_stays w past p did.files h; stage = subst StageEnds (sym did.stage) tt }
  ends_after w past p (Begins c is did) mine h = record {
    end = end_stays w past p did.files h;
    stage = subst StageEnds (sym did.stage) (subst StageEnds is h.stage);
  }
  ends_after w past p (Files j is did) mine h = record {
    end = subst (λ o. IsSome (hash_at n.entries (end_after w.roster (end_of w past) o).number)) (sym did.files)
        (moved (end_of w past) (last_of j.segment.segment) (verdict_on w.roster (end_of w past).state j) h.end
        (subst StageEnds is h.stage));
    stage = subst StageEnds (sym did.stage) tt;
  }
  ends_after w past p (PutsBack c is did) mine h = record {
    end = end_stays w past p did.files h;
    stage = subst StageEnds (sym did.stage) (subst StageEnds is h.stage);
  }

  ends_own : (w : Watched) (past : Past) → w.base ≡ None → AreOwed w past
      → AllByRecursion (λ p. ShowsItsOwn n p.0) past → Ends w past
  ends_own w [] unbased owed all = record {
    end = subst (λ b. IsSome (hash_at n.entries (start_number b))) (sym unbased) (zero_hash n.entries);
    stage = tt;
  }
  ends_own w (p ∷ past) unbased owed all =
      ends_after w past p (doing w past p.0 p.1 owed.0) all.0 (ends_own w past unbased owed.1 all.1)

  -- what is asked for begins after an entry
  abbrev StageBegins : Stage → Type 0
  StageBegins NoAudit = Unit {0}
  StageBegins (Wanted first last) = IsSome (hash_at n.entries (first - 1))
  StageBegins (Given c) = Unit {0}
  StageBegins (Out c) = Unit {0}

  begins_after : (w : Watched) (past : Past) (p : Step × Reply) → Doing w past p → Ends w past
      → StageBegins (stage_of past) → StageBegins (stage_of (p ∷ past))
  begins_after w past p (Nothing did) h k = subst StageBegins (sym did.stage) k
  begins_after w past p (Notes a is low did) h k = subst StageBegins (sym did.stage) k
  begins_after w past p (Accepts c is wanted did) h k = subst StageBegins (sym did.stage) tt
  begins_after w past p (Asks first last is few did) h k =
      let at : (end_of w past).number ≡ first - 1 = omega (arith, is) in
      subst StageBegins (sym did.stage) (subst (λ j. IsSome (hash_at n.entries j)) at h.end)
  begins_after w past p (Begins c is did) h k = subst StageBegins (sym did.stage) tt
  begins_after w past p (Files j is did) h k = subst StageBegins (sym did.stage) tt
  begins_after w past p (PutsBack c is did) h k = subst StageBegins (sym did.stage) tt

  begins_own : (w : Watched) (past : Past) → w.base ≡ None → AreOwed w past
      → AllByRecursion (λ p. ShowsItsOwn n p.0) past → StageBegins (stage_of past)
  begins_own w [] unbased owed all = tt
  begins_own w (p ∷ past) unbased owed all =
      begins_after w past p (doing w past p.0 p.1 owed.0) (ends_own w past unbased owed.1 all.1)
      (begins_own w past unbased owed.1 all.1)

  may_begin : (v : LogVersion) (first : ℕ) → IsSome (hash_at n.entries (first - 1)) → MayBegin v n.entries first
  may_begin One first h = tt
  may_begin Two first h = h

  -- Where all that own steps show is the node's own, a segment of its log may begin where an audit asks from.
  pub asked_may_begin : (w : Watched) (past : Past) (first last : ℕ) → w.base ≡ None → AreOwed w past
      → AllByRecursion (λ p. ShowsItsOwn n p.0) past → stage_of past ≡ Wanted first last
      → MayBegin n.log_version n.entries first
  asked_may_begin w past first last unbased owed all stage =
      may_begin n.log_version first (subst StageBegins stage (begins_own w past unbased owed all))

  module _ (w : Watched) (version : w.member.log_version ≡ n.log_version) where
    -- a step noted only what it was to learn
    here : (past : Past) (p : Step × Reply) (b : Bool) (a : Authenticator) → Doing w past p
        → ShowsItsOwn n p.0
        → IsAmong a (unless_exposed b (noted p.0 p.1)) → ShowsItsOwn n (Learn a)
    here past p b a (Nothing did) mine i = absurd (subst (λ o. IsAmong a (unless_exposed b o)) did.notes i)
    here past p b a (Notes x is low did) mine i =
        by b (subst (λ o. IsAmong a (unless_exposed b o)) did.notes i)
      where
        by : (c : Bool) → IsAmong a (unless_exposed c (Some x)) → ShowsItsOwn n (Learn a)
        by true j = absurd j
        by false (inl e) = subst (ShowsItsOwn n) (is ∙ ap Learn (sym e)) mine
        by false (inr j) = absurd j
    here past p b a (Accepts c is wanted did) mine i =
        absurd (subst (λ o. IsAmong a (unless_exposed b o)) did.notes i)
    here past p b a (Asks first last is few did) mine i =
        absurd (subst (λ o. IsAmong a (unless_exposed b o)) did.notes i)
    here past p b a (Begins c is did) mine i =
        absurd (subst (λ o. IsAmong a (unless_exposed b o)) did.notes i)
    here past p b a (Files j is did) mine i = absurd (subst (λ o. IsAmong a (unless_exposed b o)) did.notes i)
    here past p b a (PutsBack c is did) mine i =
        absurd (subst (λ o. IsAmong a (unless_exposed b o)) did.notes i)

    noted_own : (past : Past) → AreOwed w past → AllByRecursion (λ p. ShowsItsOwn n p.0) past
        → (a : Authenticator) → IsAmong a (noted_before w past) → ShowsItsOwn n (Learn a)
    noted_own [] owed all a i = absurd i
    noted_own (p ∷ past) owed all a i =
        elim (among_parts a (unless_exposed (is_exposed w (p ∷ past)) (noted p.0 p.1))
        (noted_before w past) i) [
          | inl j ↦ here past p (is_exposed w (p ∷ past)) a (doing w past p.0 p.1 owed.0) all.0 j
          | inr j ↦ noted_own past owed.1 all.1 a j
        ]

    -- the node signed at the last number that is asked for
    abbrev StageIsSigned : Stage → Type 0
    StageIsSigned NoAudit = Unit {0}
    StageIsSigned (Wanted first last) = IsSome (signed_at (sender_of n) last)
    StageIsSigned (Given c) = Unit {0}
    StageIsSigned (Out c) = Unit {0}

    one_step : (past : Past) (p : Step × Reply) → Doing w past p
        → ((a : Authenticator) → IsAmong a (kept w past)
        → IsSome (signed_at (sender_of n) (number_in n.log_version a.word)))
        → StageIsSigned (stage_of past) → StageIsSigned (stage_of (p ∷ past))
    one_step past p (Nothing did) signed k = subst StageIsSigned (sym did.stage) k
    one_step past p (Notes a is low did) signed k = subst StageIsSigned (sym did.stage) k
    one_step past p (Accepts c is wanted did) signed k = subst StageIsSigned (sym did.stage) tt
    one_step past p (Asks first last is few did) signed k =
        let a = few.2.authenticator in
        let number : number_in n.log_version a.word ≡ last = ap (λ v. number_of v a) (sym version) ∙ few.2.is in
        subst StageIsSigned (sym did.stage)
        (subst (λ j. IsSome (signed_at (sender_of n) j)) number (signed a few.2.among))
    one_step past p (Begins c is did) signed k = subst StageIsSigned (sym did.stage) tt
    one_step past p (Files j is did) signed k = subst StageIsSigned (sym did.stage) tt
    one_step past p (PutsBack c is did) signed k = subst StageIsSigned (sym did.stage) tt

    signed_stage : (past : Past) → AreOwed w past → AllByRecursion (λ p. ShowsItsOwn n p.0) past
        → StageIsSigned (stage_of past)
    signed_stage [] owed all = tt
    signed_stage (p ∷ past) owed all =
        one_step past p (doing w past p.0 p.1 owed.0)
        (λ a i. signed_now a (noted_own past owed.1 all.1 a
        (from_filter (λ x. nat_lt (end_of w past).number (number_of w.member.log_version x)) a
        (noted_before w past) i)))
        (signed_stage past owed.1 all.1)

    -- Where all that own steps show is the node's own, it signed at the last number that an audit asks for.
    pub asked_is_signed : (past : Past) (first last : ℕ) → AreOwed w past
        → AllByRecursion (λ p. ShowsItsOwn n p.0) past → stage_of past ≡ Wanted first last
        → IsSome (signed_at (sender_of n) last)
    asked_is_signed past first last owed all stage = subst StageIsSigned stage (signed_stage past owed all)
