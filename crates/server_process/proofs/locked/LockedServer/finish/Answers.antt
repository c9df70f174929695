use Rattle.std.proofs.Common.{List, ℕ}
use Rattle.hosting.specs.Hosting.{IsAnsweredUnderLock}
use Rattle.request_streams.specs.Serving.{IsAnswerIf}
use Rattle.request_streams.specs.declared.answerer.Outcome.{Outcome}
use Rattle.server_process.proofs.Finished.{finished}
use Rattle.server_process.proofs.locked.LockedServer.finish.Goals as goal

pub returns-in-Unwritten : goal.returns-in-Unwritten
returns-in-Unwritten g c bytes holds =
    finished (λ (outcome : Outcome) (text : List ℕ). IsAnswerIf (IsAnsweredUnderLock c.args.self.now) bytes text outcome)
    c.args.progress c.in-Unwritten.unwritten c.args.out.now.items c.write.result c.write.new.out.items
    c.in-Unwritten.is c.write.ensures holds
