-- An answer is one by a server that lay under a lock.
-- Serves: answer_request.
use Rattle.std.proofs.Common.{List, ℕ}
use Rattle.nfs_items.specs.Timeval.{Timeval}
use Rattle.rpc.specs.Call.{message_at}
use Rattle.node_logs.specs.Nodes.{NodeParts}
use Rattle.nodes.specs.Shareds.{HasNotStrayed}
use Rattle.peer_calls.specs.Calls.{judged}
use Rattle.peer_calls.specs.declared.call.TheConstants.{NODE_PROGRAM}
use Rattle.request_streams.specs.Serving.{IsAnswerIf}
use Rattle.request_streams.specs.declared.answerer.Outcome.{Outcome}
use Rattle.request_streams.specs.declared.answerer.Outcome.TheVariants as outcomes
use Rattle.hosting.specs.declared.host.Host.{Host}
use Rattle.hosting.specs.Hosting.{AnswersCall, IsAnsweredUnderLock}

pub under_lock : (h : Host) (n : NodeParts) (time : Timeval) (bytes text : List ℕ) (outcome : Outcome)
    (n' : NodeParts) → HasNotStrayed n → HasNotStrayed n'
    → AnswersCall h n time (judged NODE_PROGRAM (message_at bytes)) outcome text n'
    → IsAnswerIf (IsAnsweredUnderLock h) bytes text outcome
under_lock h n time bytes text outcomes.Replied n' straight stays answers = record {
  node = n;
  time = time;
  left = n';
  straight = straight;
  stays = stays;
  answers = answers;
}
under_lock h n time bytes text outcomes.NoCall n' straight stays answers = tt
under_lock h n time bytes text outcomes.NoMemory n' straight stays answers = tt
