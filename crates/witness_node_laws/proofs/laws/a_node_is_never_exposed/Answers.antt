use Rattle.std.proofs.Common.{List, refl, sym, subst}
use Rattle.secure_log.specs.authenticator.declared.member.Member.{Member}
use Rattle.node_logs.specs.replay_spec.HonestLogs.{IsHonestLog}
use Rattle.node_logs.specs.replay_spec.Opening.{opening_of}
use Rattle.witness_laws.specs.evidence_spec.Proving.{IsLogOf}
use Rattle.witness_laws.specs.witness_spec.Watched.{watched}
use Rattle.witness_node_laws.proofs.laws.a_node_is_never_exposed.Goals as goal

-- the law on honest nodes, of the node's own log
pub returns : goal.returns
returns c = λ plain g m history roster listed member h unforged unlike.
    let n = c.args.node.now in
    let log = c.a_node_keeps_a_log.ensures in
    let is = subst (λ v. IsLogOf v n.entries) (sym listed.key.version) log.is_log in
    let honest : IsHonestLog g.roster (opening_of m) n.entries n.state =
    subst (λ (ms : List Member). IsHonestLog ms (opening_of m) n.entries n.state) (sym roster)
    (log.honest plain m listed) in
    c.honest_is_never_exposed.ensures g (watched g m) history n.entries n.state member
    (record { roster = refl; base = refl }) h is honest unforged (unlike honest)
