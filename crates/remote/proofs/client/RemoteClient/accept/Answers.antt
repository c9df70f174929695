use Rattle.std.proofs.Common.{subst}
use Rattle.std.specs.Option.{option_map}
use Rattle.remote.specs.Remotes.{RemoteParts, remote_of}
use Rattle.remote.specs.Answers.{LogsNoMore}
use Rattle.remote.proofs.Logging.{logs_no_more}
use Rattle.remote.proofs.client.RemoteClient.accept.Goals as goal

pub returns-clause-logs : goal.returns-clause-logs
returns-clause-logs c =
    subst (λ (r : RemoteParts). LogsNoMore r c.args.pending.now.number
    (remote_of c.accept-result.new.client c.self.inside.server)) c.self.view_is
    (logs_no_more (λ v. v.items) (remote_of c.self.inside.client c.self.inside.server)
    c.args.pending.now.number
    c.args.ack.now (option_map (λ b. b.now) c.args.reply) c.accept-result.result
    c.accept-result.new.receipt.items (remote_of c.accept-result.new.client c.self.inside.server)
    c.accept-result.ensures.accepted c.accept-result.ensures.refused)
