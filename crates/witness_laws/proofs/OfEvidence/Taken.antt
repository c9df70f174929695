-- What was audited of a node that isn't exposed, and that what was taken of it was shown.
-- Serves: audited_logs_are_honest, taken_is_shown.
use Rattle.std.proofs.Common.{◌≡◌, ◌≢◌, ◌⊎◌, inl, inr, ℕ, ◌+◌, Bool, true, false, cond, ◌==◌, List, [], ◌∷◌, ◌++◌}
use Rattle.std.proofs.Common.{Some, refl, sym, ap₂, subst, ◌∙◌, eqb-true}
use Rattle.std.specs.List.{AllByRecursion}
use Rattle.std.proofs.lemmas.Bool.{and_parts, or_cases, true≢false}
use Rattle.xdr.specs.Item.{Fits}
use Rattle.authenticator.specs.Signing.{is_same}
use Rattle.authenticator.specs.declared.authenticator.Authenticator.{Authenticator}
use Rattle.authenticator.specs.declared.member.LogVersion.{LogVersion}
use Rattle.authenticator.specs.declared.member.LogVersion.TheVariants.{One, Two}
use Rattle.authenticator.proofs.Signed.{same_list}
use Rattle.secure_log.specs.LogEntries.Chain.{IsAmong, Logged}
use Rattle.secure_log.specs.LogEntries.Entry.{entry_item, entry_value}
use Rattle.witness_spec.specs.Refusals.{LearnedFull, BelowBase}
use Rattle.witness_spec.specs.Replies.{Reply, Noted, Already, Refused, Exposed}
use Rattle.witness_spec.specs.Starting.{is_below}
use Rattle.witness_spec.specs.Watched.{Watched}
use Rattle.witness_spec.specs.Steps.{Step, Learn, Past}
use Rattle.witness_spec.specs.Pairs.{Pair, is_shown, number_of, pair_of, same_pair}
use Rattle.witness_spec.specs.Standing.{audited, indication, is_exposed, pairs_noted, shown}
use Rattle.witness_spec.specs.Owing.{Owes, has_no_room}
use Rattle.witness_spec.specs.Histories.{AreOwed}
use Rattle.witness_laws.specs.Audits.{IsAuditedLog, IsShown, Takes}
use Rattle.witness_laws.proofs.Exposing.{is_exposed_told}
use Rattle.witness_laws.proofs.OfEvidence.Audited.{EachFits, IsAudited, shown_stays}
use Rattle.witness_laws.proofs.OfEvidence.Before.{one_shown, was_not}
use Rattle.witness_laws.proofs.OfEvidence.Told.{Told, With, Without}

-- ---- what was audited

-- each of some entries of a log has a text
entries_fit : (v : LogVersion) (before : ℕ) (ls : List Logged) → EachFits v before ls
    → AllByRecursion (λ (l : Logged). Fits entry_item (entry_value l.entry)) ls
entries_fit v before [] h = tt
entries_fit One before (l ∷ ls) h = (h.0, entries_fit One (before + 1 + l.skipped) ls h.1)
entries_fit Two before (l ∷ ls) h = (h.0.1, entries_fit Two (before + 1 + l.skipped) ls h.1)

-- a node isn't exposed where the indication isn't Exposed
not_exposed : (w : Watched) (past : Past) → indication w past ≢ Exposed → is_exposed w past ≡ false
not_exposed w past h = by (is_exposed w past) refl
  where
    by : (b : Bool) → is_exposed w past ≡ b → b ≡ false
    by true e = absurd (h (is_exposed_told w past e))
    by false e = refl

of_audited : (w : Watched) (past : Past) → is_exposed w past ≡ false → IsAudited w past → IsAuditedLog w past
of_audited w past e a = record {
  each = entries_fit w.member.log_version _ (audited w past) a.each;
  opened = a.opened;
  count = a.count;
  states = a.states;
  honest = a.honest;
  last = a.last;
  one = λ number mark other i j. one_shown w past e number mark other (a.marked (number, mark) i) j;
}

-- what is told of a node that isn't exposed has an honest log
pub audited_of : (w : Watched) (past : Past) → Told w past → indication w past ≢ Exposed → IsAuditedLog w past
audited_of w past (Without none e a) h = of_audited w past e a
audited_of w past (With g is e good) h = absurd (h (is_exposed_told w past e))

-- ---- what was taken

-- what the test finds among pairs is one of them
shown_among : (p : Pair) (pairs : List Pair) → is_shown p pairs ≡ true → IsAmong p pairs
shown_among p [] h = absurd (true≢false (sym h))
shown_among p (q ∷ pairs) h = by (or_cases (same_pair p q) (is_shown p pairs) h) (λ k. shown_among p pairs k)
  where
    by : (same_pair p q ≡ true) ⊎ (is_shown p pairs ≡ true) → (is_shown p pairs ≡ true → IsAmong p pairs)
        → IsAmong p (q ∷ pairs)
    by (inl same) rest =
        let both = and_parts (p.0 == q.0) (is_same p.1 q.1) same in
        inl (ap₂ (λ (n : ℕ) (x : List ℕ). (n, x)) (eqb-true p.0 q.0 both.0) (same_list p.1 q.1 both.1))
    by (inr more) rest = inr (rest more)

-- Already is owed to a pair that was shown alone
already_shown : (exposed below there full : Bool)
    → Already ≡ cond exposed Noted
    (cond below (Refused BelowBase) (cond there Already (cond full (Refused LearnedFull) Noted)))
    → there ≡ true
already_shown true below there full h = absurd cc
already_shown false true there full h = absurd cc
already_shown false false true full h = refl
already_shown false false false true h = absurd cc
already_shown false false false false h = absurd cc

module _ (w : Watched) where
  -- what is learned of a node that isn't exposed is shown then
  first_learned : (past : Past) (a : Authenticator) (reply : Reply) → Owes w past (Learn a) reply
      → is_exposed w past ≡ false → (reply ≡ Noted) ⊎ (reply ≡ Already)
      → IsShown w ((Learn a, reply) ∷ past) a
  first_learned past a reply owed e (inl is) =
      subst (λ r. IsShown w ((Learn a, r) ∷ past) a) (sym is)
      (subst (λ x. IsAmong (pair_of w.member.log_version a)
      (pairs_noted w.member.log_version x (Some a) ++ shown w past)) (sym e) (inl refl))
  first_learned past a reply owed e (inr is) =
      subst (λ r. IsShown w ((Learn a, r) ∷ past) a) (sym is)
      (shown_among (pair_of w.member.log_version a) (shown w past)
      (already_shown (is_exposed w past) (is_below w.base (number_of w.member.log_version a))
      (is_shown (pair_of w.member.log_version a) (shown w past)) (has_no_room w past a) (sym is ∙ owed.told)))

  first_shown : (past : Past) (step : Step) (reply : Reply) (a : Authenticator) → Owes w past step reply
      → is_exposed w past ≡ false → Takes a step reply → IsShown w ((step, reply) ∷ past) a
  first_shown past step reply a owed e t =
      subst (λ s. IsShown w ((s, reply) ∷ past) a) (sym t.learns)
      (first_learned past a reply (subst (λ s. Owes w past s reply) t.learns owed) e t.answer)

  -- each authenticator that was taken was shown
  pub taken_shown : (past : Past) (a : Authenticator) (p : Step × Reply) → AreOwed w past
      → is_exposed w past ≡ false → IsAmong p past → Takes a p.0 p.1 → IsShown w past a
  taken_shown [] a p owed e i t = absurd i
  taken_shown (q ∷ past) a p owed e (inl same) t =
      first_shown past q.0 q.1 a owed.0 (was_not w q past e) (subst (λ x. Takes a x.0 x.1) same t)
  taken_shown (q ∷ past) a p owed e (inr i) t =
      shown_stays w past q (pair_of w.member.log_version a)
      (taken_shown past a p owed.1 (was_not w q past e) i t)

  pub taken_where_not_exposed : (past : Past) (a : Authenticator) (p : Step × Reply) → AreOwed w past
      → indication w past ≢ Exposed → IsAmong p past → Takes a p.0 p.1 → IsShown w past a
  taken_where_not_exposed past a p owed h i t = taken_shown past a p owed (not_exposed w past h) i t
