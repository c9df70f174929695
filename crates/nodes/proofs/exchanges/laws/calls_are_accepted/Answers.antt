use Rattle.std.proofs.Common.{◌≡◌, sym, subst, ◌∙◌}
use Rattle.std.proofs.lemmas.Option.{same_Some}
use Rattle.authenticator.specs.declared.member.Kind.TheVariants as kinds
use Rattle.envelopes.specs.declared.envelope.Envelope.{Envelope}
use Rattle.envelopes.specs.declared.acknowledgement.Ack.{Ack}
use Rattle.node_logs.specs.Steps.Nodes.{next_number}
use Rattle.nodes.specs.Exchanges.Reaching.{AckReaches, Reaches}
use Rattle.nodes.specs.Exchanges.Exchanges.{having_called}
use Rattle.nodes.proofs.OfExchanges.Reached.{ack_accepted, found}
use Rattle.nodes.proofs.OfExchanges.Called.{call_acknowledged, call_reaches}
use Rattle.nodes.proofs.exchanges.laws.calls_are_accepted.Goals as goal

pub returns-clause-calls : goal.returns-clause-calls
returns-clause-calls g = λ c s body bytes e joined is call text.
    let x = call_reaches c s body joined is in
    let same : x.0 ≡ e = same_Some _ _ (sym x.1.0.shown ∙ call.shown) in
    found (having_called c s body) s kinds.Client (next_number c) e bytes is
    (subst (λ (f : Envelope). Reaches (having_called c s body) kinds.Client (next_number c) s f) same x.1.1) text

pub returns-clause-acks : goal.returns-clause-acks
returns-clause-acks g = λ c s t body e time r a joined call receives is made.
    let x = call_acknowledged c s t body e time r joined call receives is in
    let same : x.0 ≡ a = same_Some _ _ (sym x.1.ack ∙ made) in
    let reaches = subst (λ (k : Ack). AckReaches t kinds.Server r.ack (having_called c s body) k) same x.1 in
    ack_accepted t (having_called c s body) kinds.Server r.ack a is reaches
