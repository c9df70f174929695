use Rattle.std.proofs.Common.{◌≡◌, ◌∙◌, Some, ap, subst, sym, true}
use Rattle.authenticator.specs.Roster.{member_of}
use Rattle.evidence_showings.specs.evidence_spec.Base.{HasState, IsBaseOf}
use Rattle.challenge.proofs.find_based.good_state.Goals as goal

-- there is one member and one state, by which the base would be good
pub returns-then-not-is_base_of-clause-none : goal.returns-then-not-is_base_of-clause-none
returns-then-not-is_base_of-clause-none c = λ g.
    let b = c.args.based.now.base in
    let own : HasState b c.in-Some-2.state.state =
    rw (c.in-Some-2.is, c.base.ensures) at c.in_ok-state.ensures.some in
    let state : g.state ≡ c.in-Some-2.state.state =
    c.a_text_has_one_state.ensures.one g.state c.in-Some-2.state.state b.state g.good.state.text own.text in
    let members : Some g.member ≡ Some c.in-Some.member =
    sym g.good.is_member ∙ ap (member_of c.args.roster.now) c.requires.base_node
    ∙ sym c.member.ensures ∙ c.in-Some.is in
    let member : g.member ≡ c.in-Some.member = cc in
    let of_member : IsBaseOf b c.in-Some-2.state.state c.in-Some.member =
    subst (λ m. IsBaseOf b c.in-Some-2.state.state m) member
    (subst (λ s. IsBaseOf b s g.member) state g.good.of_member) in
    let yes : c.is_base_of.result ≡ true =
    (rw c.base-2.ensures at c.is_base_of.ensures.1) of_member in
    absurd cc
