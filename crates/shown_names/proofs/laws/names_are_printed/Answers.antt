use Rattle.shown_names.proofs.Printed.{name_is_printed}
use Rattle.shown_names.proofs.laws.names_are_printed.Goals as goal

pub returns : goal.returns
returns c = name_is_printed c.args._name.now
