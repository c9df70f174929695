-- What stands after rounds of audits, and after an audit of a message that was received.
-- Serves: sixteen_audits, the_last_number, findings_wait.
use Rattle.std.proofs.Common.{◌≡◌, ℕ, zero, suc, ◌<◌, ◌≤◌, ◌+◌, ◌*◌, ◌-◌, true, false, cond, nat_le, List, []}
use Rattle.std.proofs.Common.{◌∷◌}
use Rattle.std.proofs.Common.{replicate, not, None, Some, Result, Ok, Err, refl, sym, ap, ap₂, subst, ◌∙◌}
use Rattle.std.proofs.Common.{arith, le-leb}
use Rattle.std.proofs.lemmas.Bool.Decides.{nat_tests}
use Rattle.std.specs.FinMap as finite
use Rattle.std.specs.Prelude.{is_some}
use Rattle.merkle_keys.proofs.LeafSignatures.{leaf_signature_signs}
use Rattle.authenticator.specs.Signed.{signed_digest}
use Rattle.authenticator.specs.Signing.{is_signed_in}
use Rattle.authenticator.proofs.Signed.{signed_by_member}
use Rattle.secure_log.specs.LogEntries.Chain.{hash_after, logged_link, logged_links, marks, without_gaps}
use Rattle.secure_log.specs.Versioned.{segment_marks}
use Rattle.replay_spec.specs.Stepping.{BadReceive, Repeated, ReplayFault, step, shown_by, unless_fault}
use Rattle.state_spec.specs.State.{State, ReceivedMessage, received_cmp, is_received, opening_client}
use Rattle.replay_spec.specs.LogLaws.HonestServers.{next_logged}
use Rattle.replay_spec.specs.Placed.{logged_place, places_from}
use Rattle.replay_spec.specs.Replay.{Sound, Fault, behind, verdict_of}
use Rattle.witness_spec.specs.Standing.{verdict_on}
use Rattle.witness_examples.specs.Reaching.{watched_in}
use Rattle.witness_examples.specs.Worked.{five}
use Rattle.witness_examples.specs.Limits.Audits.{tick, ticks, hash_at, ticked, ticked_job, its_secret, six}
use Rattle.witness_examples.specs.Limits.Audits.{clients}
use Rattle.witness_examples.specs.Limits.Audits.{rounds, sent_hash, sender, receipt, heard_hash}
use Rattle.witness_examples.specs.Limits.Audits.{heard_segment}
use Rattle.witness_examples.specs.Limits.Audits.{heard_job, state_heard, heard}
use Rattle.witness_examples.proofs.OfLimits.Audits.{OnLog, Quiet, goes_on}

-- ---- readings of the clock

ticks_sound : (n first : ℕ) (before : List ℕ)
    → verdict_of clients (opening_client 5) (places_from first before (without_gaps (replicate n tick)))
    ≡ Sound (opening_client 5) []
unfolding step
ticks_sound zero first before = refl
ticks_sound (suc n) first before = ap (behind None)
    (ticks_sound n (first + 0 + 1) (hash_after before (logged_link (first + 0) (next_logged tick))))

next_hash : (n m : ℕ) → m ≡ n + 1 → hash_at m ≡ hash_after (hash_at n) (logged_link m (next_logged tick))
unfolding hash_at
next_hash n m e =
    let same : suc n ≡ m = omega (arith, e) in
    subst (λ k. hash_at k ≡ hash_after (hash_at n) (logged_link k (next_logged tick))) same refl

ticks_on : (size n end : ℕ) (before : List ℕ) → before ≡ hash_at n → n + size ≤ end
    → OnLog hash_at end (marks n before (logged_links n (without_gaps (replicate size tick))))
ticks_on zero n end before e low = (omega arith, e, tt)
ticks_on (suc size) n end before e low =
    let m = n + 1 + 0 in (
      omega arith,
      e,
      ticks_on size m end (hash_after before (logged_link m (next_logged tick)))
          (ap (λ b. hash_after b (logged_link m (next_logged tick))) e ∙ sym (next_hash n m (omega arith)))
          (omega arith),
    )

ticked_on : (end size : ℕ) → OnLog hash_at (end + size) (segment_marks (ticked end size))
unfolding ticks
ticked_on end size =
    let same : end ≡ (end + 1) - 1 = omega arith in
    subst (λ n. OnLog hash_at (end + size)
    (marks n (hash_at end) (logged_links n (without_gaps (replicate size tick))))) same
    (ticks_on size end (end + size) (hash_at end) refl (omega arith))

ticked_sound : (number end size : ℕ)
    → verdict_on clients (opening_client 5) (ticked_job number end size) ≡ Sound (opening_client 5) []
unfolding ticks
ticked_sound number end size = ticks_sound size (end + 1) (hash_at end)

-- after so many rounds the end is 4,096 for each, and nothing was found
abbrev pub QuietRounds : ℕ → Type 0
QuietRounds k = Quiet (watched_in clients five) (rounds k) hash_at (4_096 * k) k (opening_client 5) []

no_rounds : QuietRounds 0
unfolding rounds hash_at
no_rounds = record {
  owed = tt;
  at_end = refl;
  sound = refl;
  on_log = (omega arith, refl, tt);
  low = tt;
  free = refl;
  count = refl;
  rest = λ later. refl;
}

one_more : (k : ℕ) → k < 16 → QuietRounds k → QuietRounds (suc k)
unfolding rounds
one_more k few q =
    let end : ℕ = 4_096 * k in
    let next : Quiet (watched_in clients five) (rounds (suc k)) hash_at (end + 4_096) (k + 1)
    (opening_client 5) [] =
    goes_on (watched_in clients five) (rounds k) hash_at end k (opening_client 5) [] q
    (ticked_job (k + 1) end 4_096)
    hash_at
    (opening_client 5) [] (record {
      job = refl;
      first = refl;
      last = refl;
      above = omega arith;
      near = omega arith;
      few = omega arith;
      fits = omega arith;
      pairs = ticked_on end 4_096;
      closing = refl;
      same = λ n low. refl;
      verdict = ticked_sound (k + 1) end 4_096;
    }) in
    let last : end + 4_096 ≡ 4_096 * suc k = omega arith in
    let number : k + 1 ≡ suc k = omega arith in
    subst
    (λ b. Quiet (watched_in clients five) (rounds (suc k)) hash_at (4_096 * suc k) b
    (opening_client 5) []) number
    (subst
    (λ e. Quiet (watched_in clients five) (rounds (suc k)) hash_at e (k + 1) (opening_client 5) []) last next)

-- so many rounds, each of which is owed
pub quiet_rounds : (k : ℕ) → k ≤ 16 → QuietRounds k
quiet_rounds zero few = no_rounds
quiet_rounds (suc k) few = one_more k (omega arith) (quiet_rounds k (omega arith))

-- ---- a message that was received

signed : is_signed_in clients sender ≡ true
signed =
    signed_by_member clients sender six refl
    (leaf_signature_signs its_secret 1 0 (signed_digest 6 1 sent_hash) (omega arith) (omega arith))

-- the message's step
pub receipt_step : (number : ℕ) (before : List ℕ)
    → step clients (opening_client 5) (logged_place number before (next_logged receipt)) ≡ Ok state_heard
unfolding step
receipt_step number before =
    let message : ReceivedMessage = record { from = 6; seq = 1; hash = sent_hash } in
    let fresh : is_received (opening_client 5).received message ≡ false =
    ap is_some (finite.get-empty received_cmp message) in
    ap₂ (λ b c. unless_fault state_heard (cond (not b) (Some BadReceive) (cond c (Some Repeated) None)))
    signed fresh

heard_sound : (number end : ℕ)
    → verdict_on clients (opening_client 5) (heard_job number end) ≡ Sound state_heard (sender ∷ [])
heard_sound number end =
    ap (λ (r : Result State ReplayFault). elim r [
      | Ok t ↦ behind (shown_by (opening_client 5) receipt) (verdict_of clients t [])
      | Err fault ↦ Fault fault (end + 1 + 0)
    ]) (receipt_step (end + 1 + 0) (hash_at end))

module _ (end : ℕ) where
  -- the hashes of the log with it
  abbrev pub heard_at : ℕ → List ℕ
  heard_at n = cond (nat_le n end) (hash_at n) (heard_hash end)

  before_same : (n : ℕ) → n ≤ end → heard_at n ≡ hash_at n
  before_same n low = ap (λ b. cond b (hash_at n) (heard_hash end)) (le-leb n end low)

  last_same : heard_hash end ≡ heard_at (end + 1)
  last_same =
      let out : nat_le (end + 1) end ≡ false = grind (arith, nat_tests) in
      sym (ap (λ b. cond b (hash_at (end + 1)) (heard_hash end)) out)

  number_same : end + 1 ≡ end + 1 + 0
  number_same = omega arith

  heard_on : OnLog heard_at (end + 1) (segment_marks (heard_segment end))
  unfolding heard_hash
  heard_on =
      let same : end ≡ (end + 1) - 1 = omega arith in
      let last : hash_after (hash_at end) (logged_link (end + 1 + 0) (next_logged receipt))
      ≡ heard_at (end + 1 + 0) =
      subst (λ n. hash_after (hash_at end) (logged_link n (next_logged receipt)) ≡ heard_at n) number_same
      last_same in
      subst (λ n. OnLog heard_at (end + 1) (marks n (hash_at end) (logged_links n (next_logged receipt ∷ []))))
      same (omega arith, sym (before_same end (omega arith)), (omega arith, last, tt))

-- after so many rounds a message was received and audited
pub quiet_heard : (k : ℕ) → k < 16
    → Quiet (watched_in clients five) (heard k) (heard_at (4_096 * k)) (4_096 * k + 1) (k + 1) state_heard
    (sender ∷ [])
quiet_heard k few =
    let end : ℕ = 4_096 * k in
    goes_on (watched_in clients five) (rounds k) hash_at end k (opening_client 5) []
    (quiet_rounds k (omega arith))
    (heard_job (k + 1) end) (heard_at end) state_heard (sender ∷ []) (record {
      job = refl;
      first = refl;
      last = refl;
      above = omega arith;
      near = omega arith;
      few = omega arith;
      fits = omega arith;
      pairs = heard_on end;
      closing = last_same end;
      same = before_same end;
      verdict = heard_sound (k + 1) end;
    })
