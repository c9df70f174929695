use Rattle.nfs_types.proofs.OfResultTexts.AnswersRead.{own_item}
use Rattle.nfs_types.proofs.result_texts.laws.answers_are_of_their_procedure.Goals as goal

-- the law
pub returns : goal.returns
returns c = own_item
