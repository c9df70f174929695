use Rattle.packets.proofs.Spelled.{exact, one_delivery}
use Rattle.packets.proofs.laws.packets_are_read_as_spelled.Goals as goal

pub returns-clause-exact : goal.returns-clause-exact
returns-clause-exact c = exact

pub returns-clause-one : goal.returns-clause-one
returns-clause-one c = one_delivery
