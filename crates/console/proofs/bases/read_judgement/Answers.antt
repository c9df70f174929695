use Rattle.std.proofs.Common.{rules}
use Rattle.console.proofs.BaseFiles.{judged}
use Rattle.console.proofs.bases.read_judgement.Goals as goal

pub returns-clause-judged : goal.returns-clause-judged
returns-clause-judged g c =
    judged (λ b. b.value) (λ b. b.member) _ c.in_ok-held.held c.judgement_of.result c.in_ok-held.ensures.base
    c.in_ok-held.ensures.none c.judgement_of.ensures.base c.judgement_of.ensures.none
