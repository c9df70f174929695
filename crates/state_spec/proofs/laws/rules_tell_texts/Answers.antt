use Rattle.std.proofs.Common.{refl}
use Rattle.state_spec.specs.StateText.{said}
use Rattle.state_spec.proofs.Ruled.{rules_of_state}
use Rattle.state_spec.proofs.Texts.{text_of_rules, no_state}
use Rattle.state_spec.proofs.laws.rules_tell_texts.Goals as goal

pub returns-clause-text : goal.returns-clause-text
returns-clause-text c = λ v bytes bound read rules. text_of_rules v bytes bound read rules

pub returns-clause-no_state : goal.returns-clause-no_state
returns-clause-no_state c = λ v bytes bound read breaks. no_state v bytes bound read breaks

pub returns-clause-kept : goal.returns-clause-kept
returns-clause-kept c = λ s bytes text. rules_of_state (said s) s text.state refl
