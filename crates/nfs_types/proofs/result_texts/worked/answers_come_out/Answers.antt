use Rattle.std.proofs.Common.{refl}
use Rattle.nfs_items.specs.xdr.Item.{number_spelling}
use Rattle.nfs_types.proofs.result_texts.worked.answers_come_out.Goals as goal

pub returns-clause-free : goal.returns-clause-free
unfolding number_spelling
returns-clause-free c = refl

pub returns-clause-page : goal.returns-clause-page
unfolding number_spelling
returns-clause-page c = refl

pub returns-clause-target : goal.returns-clause-target
unfolding number_spelling
returns-clause-target c = refl

pub returns-clause-refused : goal.returns-clause-refused
unfolding number_spelling
returns-clause-refused c = refl

pub returns-clause-empty : goal.returns-clause-empty
unfolding number_spelling
returns-clause-empty c = refl

pub returns-clause-data : goal.returns-clause-data
unfolding number_spelling
returns-clause-data c = refl

pub returns-clause-end : goal.returns-clause-end
unfolding number_spelling
returns-clause-end c = refl
