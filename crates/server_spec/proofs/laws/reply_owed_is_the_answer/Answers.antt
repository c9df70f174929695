use Rattle.server_spec.proofs.Answering.{answers_owed}
use Rattle.server_spec.proofs.laws.reply_owed_is_the_answer.Goals as goal

-- the law
pub returns : goal.returns
returns c = answers_owed
