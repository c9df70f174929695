use Rattle.std.proofs.Common.{ap, sym, ◌∙◌, arith}
use Rattle.envelopes.specs.Envelope.{envelope_in}
use Rattle.commitment.specs.Senders.LookUps.{envelope_at}
use Rattle.node_logs.specs.Nodes.{sender_of}
use Rattle.remote.specs.Remotes.{remote_of}
use Rattle.remote.specs.Calls.{IsCallAt}
use Rattle.remote.proofs.Standing.{is_of_body}
use Rattle.remote.proofs.calls.is_call_of.Goals as goal

pub returns : goal.returns
returns c =
    let at : IsCallAt (remote_of c.args.client.now c.args.server) c.args.number (envelope_in c.in-Some.envelope) =
    record {
      shown = sym (c.in-Some.ensures ∙ ap (envelope_at (sender_of c.args.client.now)) c.get.ensures.value);
      receiver = c.if-envelope-server.false;
      stands = grind (arith, c.number.ensures, c.log_version.ensures, c.if-ne.false, c.if-ne.ensures);
    } in
    let x = is_of_body (remote_of c.args.client.now c.args.server) c.args.number (envelope_in c.in-Some.envelope)
    c.args.bytes.now at in
    (λ same. x.0 (c.is_body.ensures.0 same), λ h. c.is_body.ensures.1 (x.1 h))
