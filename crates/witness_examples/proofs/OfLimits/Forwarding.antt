-- The audit of a client that received two messages of one number.
-- Serves: forks_are_forwarded.
use Rattle.std.proofs.Common.{◌≡◌, ℕ, zero, suc, true, false, cond, not, List, [], ◌∷◌, Some, None, Result}
use Rattle.std.proofs.Common.{Ok, Err}
use Rattle.std.proofs.Common.{refl, ap, ap₂, ◌∙◌, arith}
use Rattle.std.specs.Ordering.{eq_by_cmp}
use Rattle.std.specs.FinMap as finite
use Rattle.std.specs.Prelude.{is_some}
use Rattle.merkle_keys.proofs.LeafSignatures.{leaf_signature_signs}
use Rattle.authenticator.specs.Signed.{signed_digest}
use Rattle.authenticator.specs.Signing.{is_signed_in}
use Rattle.authenticator.specs.declared.authenticator.Authenticator.{Authenticator}
use Rattle.authenticator.proofs.Signed.{signed_by_member}
use Rattle.secure_log.specs.LogEntries.Chain.{zeros, hash_after, logged_link}
use Rattle.secure_log.specs.declared.log_entries.entry.Entry.{Entry}
use Rattle.secure_log.specs.declared.log_entries.entry.Entry.TheVariants.{Recv}
use Rattle.replay_spec.specs.Stepping.{BadReceive, Repeated, ReplayFault, step, shown_by, unless_fault}
use Rattle.state_spec.specs.State.{State, ReceivedMessage, received_cmp, is_received, opening_client}
use Rattle.replay_spec.specs.Placed.{Placed, logged_place}
use Rattle.replay_spec.specs.Replay.{Verdict, Sound, Fault, behind, verdict_of}
use Rattle.replay_spec.specs.LogLaws.HonestServers.{next_logged}
use Rattle.witness_spec.specs.Standing.{verdict_on}
use Rattle.witness_examples.specs.Reaching.{watched_in}
use Rattle.witness_examples.specs.Worked.{five}
use Rattle.witness_examples.specs.Limits.Audits.{its_secret, six, clients, sent_hash, sender, receipt}
use Rattle.witness_examples.specs.Limits.Audits.{state_heard}
use Rattle.witness_examples.specs.Limits.Forwarding.{other_sent_hash, other_signature, other_sender, both_job}
use Rattle.witness_examples.specs.Limits.Forwarding.{state_both, both_audited, one_forwarded, both_forwarded}
use Rattle.witness_examples.proofs.OfLimits.Audits.{Quiet, goes_on, forwarded}
use Rattle.witness_examples.proofs.OfLimits.Digests.{first_is, second_is}
use Rattle.witness_examples.proofs.OfLimits.Rounds.{receipt_step}
use Rattle.state_spec.proofs.Orders.{received_total}

abbrev other_receipt : Entry
other_receipt = Recv 6 1 zeros (8 ∷ []) other_signature

-- ---- the second message is another

abbrev message : List ℕ → ReceivedMessage
message hash = record { from = 6; seq = 1; hash = hash }

fresh : is_received state_heard.received (message other_sent_hash) ≡ false
fresh =
    let m = message other_sent_hash in
    ap is_some (finite.get-insert received_total (opening_client 5).received (message sent_hash) tt m
    ∙ (ap₂ (λ x y. cond (eq_by_cmp received_cmp (message x) (message y)) (Some tt)
    (finite.get (opening_client 5).received m)) second_is first_is
    ∙ finite.get-empty received_cmp m))

signed : is_signed_in clients other_sender ≡ true
signed =
    signed_by_member clients other_sender six refl
    (leaf_signature_signs its_secret 1 1 (signed_digest 6 1 other_sent_hash) (omega arith) (omega arith))

other_step : (number : ℕ) (before : List ℕ)
    → step clients state_heard (logged_place number before (next_logged other_receipt)) ≡ Ok state_both
unfolding step
other_step number before =
    ap₂ (λ b c. unless_fault state_both (cond (not b) (Some BadReceive) (cond c (Some Repeated) None)))
    signed fresh

-- ---- the audit

abbrev first_hash : List ℕ
first_hash = hash_after zeros (logged_link 1 (next_logged receipt))

-- the hashes of the log with both
abbrev pub both_at : ℕ → List ℕ
both_at zero = zeros
both_at (suc zero) = first_hash
both_at (suc (suc n)) = hash_after first_hash (logged_link 2 (next_logged other_receipt))

abbrev then_found : (s : State) → Entry → List Placed → ℕ → Result State ReplayFault → Verdict
then_found s e ps number r = elim r [
  | Ok t ↦ behind (shown_by s e) (verdict_of clients t ps)
  | Err fault ↦ Fault fault number
]

both_sound : verdict_on clients (opening_client 5) both_job ≡ Sound state_both (sender ∷ other_sender ∷ [])
both_sound =
    let second : Placed = logged_place 2 first_hash (next_logged other_receipt) in
    ap (then_found (opening_client 5) receipt (second ∷ []) 1) (receipt_step 1 zeros)
    ∙ ap (behind (Some sender)) (ap (then_found state_heard other_receipt [] 2) (other_step 2 first_hash))

at_first : Quiet (watched_in clients five) [] both_at 0 0 (opening_client 5) []
at_first = record {
  owed = tt;
  at_end = refl;
  sound = refl;
  on_log = (omega arith, refl, tt);
  low = tt;
  free = refl;
  count = refl;
  rest = λ later. refl;
}

abbrev all_found : List Authenticator
all_found = sender ∷ other_sender ∷ []

-- both messages were audited, and nothing was forwarded yet
pub quiet_audited : Quiet (watched_in clients five) both_audited both_at 2 1 state_both all_found
quiet_audited =
    goes_on (watched_in clients five) [] both_at 0 0
    (opening_client 5) [] at_first both_job both_at state_both all_found
    (record {
      job = refl;
      first = refl;
      last = refl;
      above = omega arith;
      near = omega arith;
      few = omega arith;
      fits = omega arith;
      pairs = (omega arith, refl, (omega arith, refl, (omega arith, refl, tt)));
      closing = refl;
      same = λ n low. refl;
      verdict = both_sound;
    })

-- one of them was
pub quiet_one : Quiet (watched_in clients five) one_forwarded both_at 2 1 state_both (other_sender ∷ [])
quiet_one = forwarded (watched_in clients five) both_audited both_at 2 1 state_both sender (other_sender ∷ [])
    quiet_audited

-- both were
pub quiet_both : Quiet (watched_in clients five) both_forwarded both_at 2 1 state_both []
quiet_both = forwarded (watched_in clients five) one_forwarded both_at 2 1 state_both other_sender [] quiet_one
