use Rattle.std.proofs.Common.{ℕ, cond, not, List, [], Option, Some, None, Ok, Err, nat_cmp, refl, ap}
use Rattle.std.specs.FinMap as finite
use Rattle.merkle_keys.specs.Signing.{SignatureParts}
use Rattle.secure_log.specs.declared.log_entries.entry.Entry.TheVariants.{Ack}
use Rattle.state_spec.specs.State.{SentMessage, opening_server}
use Rattle.state_spec.specs.Steps.{having_acknowledged}
use Rattle.replay_spec.specs.Stepping.{BadAck, fits_message, unless_fault, shown_by, step}
use Rattle.replay_spec.specs.Replay.{Verdict, Fault, behind, verdict_of}
use Rattle.replay_spec.proofs.laws.servers_have_faults.Goals as goal

-- the verdict on a first ACK, by the message that was sent under its number
abbrev by_message : (seq number : ℕ) (mine prev : List ℕ) → SignatureParts → Option SentMessage → Verdict
by_message seq number mine prev signature o =
    let fits = fits_message [] 1 2 seq mine number prev signature o in
    let state = having_acknowledged (opening_server 1) seq in
    elim (unless_fault state (cond (not fits) (Some BadAck) None)) as (λ _. Verdict) [
      | Ok t ↦
          behind (shown_by (opening_server 1) (Ack 2 seq mine number prev signature)) (verdict_of [] t [])
      | Err fault ↦ Fault fault 1
    ]

pub returns-clause-send : goal.returns-clause-send
unfolding step
returns-clause-send c = refl

pub returns-clause-clock : goal.returns-clause-clock
unfolding step
returns-clause-clock c = refl

pub returns-clause-stranger : goal.returns-clause-stranger
unfolding step
returns-clause-stranger c = λ seq prev body signature. refl

pub returns-clause-ack : goal.returns-clause-ack
unfolding step
returns-clause-ack c = λ seq number mine prev signature.
    ap (by_message seq number mine prev signature) (finite.get-empty nat_cmp seq)

pub returns-clause-send_before_clock : goal.returns-clause-send_before_clock
unfolding step
returns-clause-send_before_clock c = refl

pub returns-clause-second_clock : goal.returns-clause-second_clock
unfolding step
returns-clause-second_clock c = refl

pub returns-clause-check_before_reply : goal.returns-clause-check_before_reply
unfolding step
returns-clause-check_before_reply c = λ digest. refl

pub returns-clause-other_reply : goal.returns-clause-other_reply
unfolding step
returns-clause-other_reply c = refl

pub returns-clause-other_receiver : goal.returns-clause-other_receiver
unfolding step
returns-clause-other_receiver c = refl

pub returns-clause-reply : goal.returns-clause-reply
unfolding step
returns-clause-reply c = refl

pub returns-clause-recv_before_clock : goal.returns-clause-recv_before_clock
unfolding step
returns-clause-recv_before_clock c = λ seq prev body signature. refl

pub returns-clause-recv_before_reply : goal.returns-clause-recv_before_reply
unfolding step
returns-clause-recv_before_reply c = λ seq prev body signature. refl

pub returns-clause-ack_before_reply : goal.returns-clause-ack_before_reply
unfolding step
returns-clause-ack_before_reply c = λ seq number mine prev signature. refl
