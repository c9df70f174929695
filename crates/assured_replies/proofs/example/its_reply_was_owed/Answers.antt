use Rattle.std.proofs.Common.{refl}
use Rattle.witness_spec.specs.Starting.{from_the_first}
use Rattle.witness_examples.specs.Signed.Served.{server_and_caller, served_events}
use Rattle.assured_replies.specs.Example.{its_ack, its_call, its_reply, watched_server}
use Rattle.assured_replies.proofs.example.its_reply_was_owed.Goals as goal

-- by the law, of whose premises each holds
pub returns : goal.returns
returns c = λ secret.
    let p = c.premises_are_possible.ensures in
    (c.audited_replies_answer_their_calls.ensures (from_the_first (server_and_caller secret)) (watched_server secret)
    (served_events secret) its_call (its_reply secret) (its_ack secret) (p.audited secret) (p.reply secret)
    (p.reply_shown secret) (p.ack secret) (p.of_call secret) (p.ack_shown secret) refl (p.unlike secret)).1
