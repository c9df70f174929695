use Rattle.witness_book_laws.proofs.Histories.{own_known}
use Rattle.witness_book_laws.proofs.laws.parts_fit_together.Goals as goal

pub returns-clause-fit : goal.returns-clause-fit
returns-clause-fit c = λ g w history is from h. (own_known g w history is from h).fits

pub returns-clause-audited : goal.returns-clause-audited
returns-clause-audited c = λ g w history is from h. (own_known g w history is from h).audited
