use Rattle.std.proofs.Common.{◌≡◌, ◌≢◌, ℕ, Bool, true, false, cond, not, List, [], Some, None, Ok, Err}
use Rattle.std.proofs.Common.{refl, ap}
use Rattle.state_spec.specs.State.{opening_client}
use Rattle.state_spec.specs.StateText.{state_digest}
use Rattle.secure_log.specs.authenticator.Signing.{is_same}
use Rattle.replay_spec.specs.Stepping.{WrongCheckpoint, unless_fault, step}
use Rattle.replay_spec.specs.Replay.{Verdict, Fault, behind, verdict_of}
use Rattle.secure_log.proofs.authenticator.Signed.{same_list, list_same}
use Rattle.replay_spec.proofs.laws.clients_have_faults.Goals as goal

-- the verdict on a CHECK, by whether it has the digest
abbrev by_digest : Bool → Verdict
by_digest b =
    elim (unless_fault (opening_client 2) (cond (not b) (Some WrongCheckpoint) None)) as (λ _. Verdict) [
      | Ok t ↦ behind None (verdict_of [] t [])
      | Err fault ↦ Fault fault 1
    ]

is_other : (x y : List ℕ) → x ≢ y → is_same x y ≡ false
is_other x y h = by (is_same x y) refl
  where
    by : (b : Bool) → is_same x y ≡ b → b ≡ false
    by true e = absurd (h (same_list x y e))
    by false e = refl

pub returns-clause-back : goal.returns-clause-back
unfolding step
returns-clause-back c = refl

pub returns-clause-microseconds : goal.returns-clause-microseconds
unfolding step
returns-clause-microseconds c = refl

pub returns-clause-stranger : goal.returns-clause-stranger
unfolding step
returns-clause-stranger c = λ seq prev body signature. refl

pub returns-clause-checkpoint : goal.returns-clause-checkpoint
unfolding step
returns-clause-checkpoint c = λ digest other.
    ap by_digest (is_other digest (state_digest (opening_client 2)) other)

pub returns-clause-right_checkpoint : goal.returns-clause-right_checkpoint
unfolding step
returns-clause-right_checkpoint c =
    ap by_digest (list_same (state_digest (opening_client 2)) (state_digest (opening_client 2)) refl)

pub returns-clause-form_before_time : goal.returns-clause-form_before_time
unfolding step
returns-clause-form_before_time c = refl
