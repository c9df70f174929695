use Rattle.std.proofs.Common.{List, ℕ, ap, refl, subst, sym, ◌∙◌, arith}
use Rattle.envelopes.specs.Envelope.{envelope_in}
use Rattle.commitment.specs.Senders.LookUps.{envelope_at}
use Rattle.node_logs.specs.Nodes.{sender_of}
use Rattle.remote.specs.Sent.{IsXidOwed}
use Rattle.remote.proofs.taken.sent.Goals as goal

pub returns-clause-kept : goal.returns-clause-kept
returns-clause-kept c = (
  envelope_in c.in-Some.envelope,
  (
    record {
      shown = sym (c.in-Some.ensures ∙ ap (envelope_at (sender_of c.args.client.now)) c.get.ensures.value);
      receiver = c.if-envelope-server.false;
      stands = grind (arith, c.number.ensures, c.log_version.ensures, c.if-ne.false, c.if-ne.ensures);
    },
    record {
      word = refl;
      xid = subst (λ (b : List ℕ). IsXidOwed b c.xid_owed.result) c.bytes.ensures.bytes c.xid_owed.ensures;
    },
  ),
)
