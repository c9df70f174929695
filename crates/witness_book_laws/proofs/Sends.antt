-- Messages that were sent are kept under words whose numbers lie below that of the next entry.
-- Serves: all laws here.
use Rattle.std.proofs.Common.{◌≡◌, ℕ, ◌+◌, ◌<◌, Bool, true, false, cond, List, [], ◌∷◌, Some, None, is_some}
use Rattle.std.proofs.Common.{nat_cmp, refl, sym, ap, subst, ◌∙◌, arith, eqb-true}
use Rattle.std.specs.List.{AllByRecursion}
use Rattle.std.specs.FinMap as finite
use Rattle.std.specs.Ordering.{eq_by_cmp}
use Rattle.std.specs.Cmp.{nat_cmp_total, unsigned_tied}
use Rattle.authenticator.specs.Numbers.{number_in, word_of}
use Rattle.authenticator.specs.declared.member.LogVersion.{LogVersion}
use Rattle.authenticator.specs.declared.member.Member.{Member}
use Rattle.secure_log.specs.declared.log_entries.entry.Entry.{Entry}
use Rattle.secure_log.specs.declared.log_entries.entry.Entry.TheVariants.{Send, Recv, Ack, Clock, Check}
use Rattle.secure_log.specs.LogEntries.Chain.{Link, Logged, hash_after, logged_link, logged_links, span}
use Rattle.secure_log.specs.LogEntries.Words.{MaySkip}
use Rattle.secure_log.proofs.Gaps.{closing_number}
use Rattle.witness_laws.specs.state_spec.State.{State, SentMessage}
use Rattle.replay_spec.specs.Placed.{places_from}
use Rattle.replay_spec.specs.Steps.{sent_message, after_entry}
use Rattle.replay_spec.specs.Replay.{Honest, last_state}
use Rattle.witness_book_laws.specs.Fitting.{SendsLieBelowIn}

-- ---- what holds of each word under which a message is kept

module _ (P : ℕ → Type 0) where
  -- it holds of each of these
  abbrev Each : finite.FinMap nat_cmp SentMessage → Type 0
  Each sends = (k : ℕ) → finite.contains_key sends k ≡ true → P k

  -- so with one more of which it holds
  with_one : (sends : finite.FinMap nat_cmp SentMessage) (n : ℕ) (m : SentMessage) → Each sends → P n
      → Each (finite.insert sends n m)
  with_one sends n m each one k h =
      by (eq_by_cmp nat_cmp k n) refl (sym (ap is_some (finite.get-insert nat_cmp_total sends n m k)) ∙ h)
    where
      by : (b : Bool) → eq_by_cmp nat_cmp k n ≡ b → is_some (cond b (Some m) (finite.get sends k)) ≡ true
          → P k
      by true e there = subst P (sym (eqb-true k n (sym (unsigned_tied k n) ∙ e))) one
      by false e there = each k there

  -- and without one
  without_one : (sends : finite.FinMap nat_cmp SentMessage) (seq : ℕ) → Each sends
      → Each (finite.remove sends seq)
  without_one sends seq each k h =
      by (eq_by_cmp nat_cmp k seq) (sym (ap is_some (finite.get-remove nat_cmp_total sends seq k)) ∙ h)
    where
      by : (b : Bool) → is_some (cond b None (finite.get sends k)) ≡ true → P k
      by true there = absurd (cc)
      by false there = each k there

  -- so after an entry with a word of which it holds
  after_one : (s : State) (own : ℕ) (before : List ℕ) (e : Entry) → Each s.sends → P own
      → Each (after_entry s own before e).sends
  after_one s own before (Send to body) each one = with_one s.sends own (sent_message to before body) each one
  after_one s own before (Recv from seq prev body signature) each one = each
  after_one s own before (Ack to seq mine theirs prev signature) each one = without_one s.sends seq each
  after_one s own before (Clock seconds microseconds) each one = each
  after_one s own before (Check digest) each one = each

-- ---- numbers

-- the word of an entry that may be skipped to is of its number
word_number : (v : LogVersion) (l : Link) → MaySkip v l → number_in v (word_of l.skipped l.number) ≡ l.number
word_number v l may = closing_number v 0 (l ∷ []) (word_of l.skipped l.number) (may, tt) refl

-- messages that were sent keep to words with numbers below that of the next entry
pub lie_below_in : (v : LogVersion) (ms : List Member) (s : State) (before : ℕ) (opening : List ℕ)
    (ls : List Logged) (ts : List State)
    → SendsLieBelowIn v s (before + 1) → AllByRecursion (MaySkip v) (logged_links before ls)
    → Honest ms s (places_from (before + 1) opening ls) ts
    → SendsLieBelowIn v (last_state s ts) (before + 1 + span ls)
lie_below_in v ms s before opening [] [] below may h =
    subst (SendsLieBelowIn v s) (omega arith) below
lie_below_in v ms s before opening [] (t ∷ ts) below may h = absurd h
lie_below_in v ms s before opening (l ∷ ls) [] below may h = absurd h
lie_below_in v ms s before opening (l ∷ ls) (t ∷ ts) below may h =
    let number = before + 1 + l.skipped in
    let own = word_of l.skipped number in
    let is : number_in v own ≡ number = word_number v (logged_link number l) may.0 in
    let next : SendsLieBelowIn v t (number + 1) =
    subst (λ x. SendsLieBelowIn v x (number + 1)) (sym h.0.after)
    (after_one (λ k. number_in v k < number + 1) s own opening l.entry
    (λ k there. let low = below k there in omega (arith, low)) (omega (arith, is))) in
    let same : number + 1 + span ls ≡ before + 1 + span (l ∷ ls) = omega arith in
    subst (SendsLieBelowIn v (last_state t ts)) same
    (lie_below_in v ms t number (hash_after opening (logged_link number l)) ls ts next may.1 h.1)
