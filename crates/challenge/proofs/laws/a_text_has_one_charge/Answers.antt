use Rattle.challenge.proofs.OneText.{one_charge}
use Rattle.challenge.proofs.laws.a_text_has_one_charge.Goals as goal

pub returns : goal.returns
returns c = one_charge
