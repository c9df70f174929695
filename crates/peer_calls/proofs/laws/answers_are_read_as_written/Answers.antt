use Rattle.peer_calls.proofs.OfAnswers.{base_read, case_read, stands_read}
use Rattle.peer_calls.proofs.laws.answers_are_read_as_written.Goals as goal

pub returns-clause-stands : goal.returns-clause-stands
returns-clause-stands c = stands_read

pub returns-clause-case : goal.returns-clause-case
returns-clause-case c = case_read

pub returns-clause-base : goal.returns-clause-base
returns-clause-base c = base_read
