-- An answer is one by the books that were asked.
-- Serves: answered.
use Rattle.std.proofs.Common.{◌≡◌, List, ℕ, refl}
use Rattle.rpc.specs.Call.{message_at}
use Rattle.peer_calls.specs.Calls.{judged}
use Rattle.peer_calls.specs.declared.call.TheConstants.{WITNESS_PROGRAM}
use Rattle.request_streams.specs.Serving.{IsAnswerIf}
use Rattle.request_streams.specs.declared.answerer.Outcome.TheVariants as streams
use Rattle.witness_books.specs.Books.{beginning_of}
use Rattle.watching.specs.Answers.{AnswersRecord}
use Rattle.watching.specs.Shown.{StandingParts}
use Rattle.watching.specs.declared.answer.Outcome.TheVariants as outcomes
use Rattle.watching.specs.declared.results.Host.{Host}
use Rattle.witness_process.specs.Answered.{IsAnsweredBy}

pub by_books : (h : Host) (standing : StandingParts) (bytes text : List ℕ) (left : StandingParts)
    → beginning_of left.books ≡ beginning_of standing.books
    → AnswersRecord h standing (judged WITNESS_PROGRAM (message_at bytes)) outcomes.Replied text left
    → IsAnswerIf (IsAnsweredBy standing h.digest left) bytes text streams.Replied
by_books h standing bytes text left same answers = record {
  host = h;
  own = refl;
  same = same;
  answers = answers;
}
