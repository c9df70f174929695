use Rattle.mount_types.proofs.AnswersRead.{one_meaning, own_item}
use Rattle.mount_types.proofs.laws.answers_have_one_meaning.Goals as goal

pub returns-clause-item : goal.returns-clause-item
returns-clause-item c = own_item

pub returns-clause-meaning : goal.returns-clause-meaning
returns-clause-meaning c = one_meaning
