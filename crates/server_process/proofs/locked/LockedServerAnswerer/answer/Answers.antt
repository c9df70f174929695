use Rattle.std.proofs.Common.{subst}
use Rattle.request_streams.specs.Serving.{IsAnswerIf}
use Rattle.hosting.specs.Hosting.{IsAnsweredUnderLock}
use Rattle.hosting.specs.declared.host.Host.{Host}
use Rattle.server_process.proofs.locked.LockedServerAnswerer.answer.Goals as goal

-- the answer that was begun under the lock is finished
pub returns-clause-answer : goal.returns-clause-answer
returns-clause-answer g c =
    subst (λ (h : Host).
    IsAnswerIf (IsAnsweredUnderLock h) c.args.bytes.now c.finish-outcome.new.out.items c.finish-outcome.result)
    c.self.view_is (c.finish-outcome.ensures c.args.bytes.now c.answer-progress.ensures.answered)
