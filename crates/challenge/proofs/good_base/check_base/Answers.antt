use Rattle.challenge.proofs.GoodBases.{good_is_taken}
use Rattle.challenge.proofs.good_base.check_base.Goals as goal

pub returns-clause-only : goal.returns-clause-only
returns-clause-only c =
    good_is_taken c.args.roster.now c.args.bytes.now (λ x. x.value) (λ x. x.member) c.checked_base.result
    c.a_text_has_one_state.ensures.one c.checked_base.ensures
