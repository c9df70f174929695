use Rattle.xdr.proofs.OfTexts.WholeTexts.{is_text, one_text}
use Rattle.xdr.proofs.texts.laws.reads_each_text.Goals as goal

pub returns-clause-exact : goal.returns-clause-exact
returns-clause-exact c = is_text

pub returns-clause-one_value : goal.returns-clause-one_value
returns-clause-one_value c = one_text
