use Rattle.nfs_types.proofs.OfResultTexts.AnswersRead.{one_meaning}
use Rattle.nfs_types.proofs.result_texts.laws.answers_have_one_meaning.Goals as goal

-- the law
pub returns : goal.returns
returns c = one_meaning
