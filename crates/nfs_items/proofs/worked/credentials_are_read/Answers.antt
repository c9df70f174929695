use Rattle.std.proofs.Common.{refl}
use Rattle.xdr.specs.Reading.{number_at, fixed_at, opaque_at, items_at}
use Rattle.xdr.specs.Texts.Text.{text_at}
use Rattle.nfs_items.proofs.worked.credentials_are_read.Goals as goal

pub returns-clause-body : goal.returns-clause-body
unfolding number_at fixed_at opaque_at items_at text_at
returns-clause-body c = refl

pub returns-clause-padding : goal.returns-clause-padding
unfolding number_at fixed_at opaque_at items_at text_at
returns-clause-padding c = refl

pub returns-clause-more : goal.returns-clause-more
unfolding number_at fixed_at opaque_at items_at text_at
returns-clause-more c = refl

pub returns-clause-less : goal.returns-clause-less
unfolding number_at fixed_at opaque_at items_at text_at
returns-clause-less c = refl
