use Rattle.std.proofs.Common.{◌≡◌, ◌∙◌, List, [], ◌∷◌, ap, map, refl, subst, sym}
use Rattle.std.specs.List.{AllByRecursion}
use Rattle.authenticator.specs.declared.member.LogVersion.TheVariants.{One}
use Rattle.evidence_showings.specs.Plain.{PlainLinkParts, plain_link}
use Rattle.evidence_showings.specs.evidence_spec.Showing.{ShownLink, showing_value}
use Rattle.evidence_showings.proofs.Texts.{value_back}
use Rattle.evidence_showings.specs.Showings.{SaysNoMore}
use Rattle.challenge.proofs.charges.plain_showing.Goals as goal

-- links of a text of a log of version 1 skip nothing
none_skipped : (ls : List PlainLinkParts) → AllByRecursion (λ (l : ShownLink). l.skipped ≡ 0) (map plain_link ls)
none_skipped [] = tt
none_skipped (l ∷ ls) = (refl, none_skipped ls)

pub returns-clause-text : goal.returns-clause-text
returns-clause-text c = ap (showing_value One) c.in_ok-showing.ensures ∙ value_back c.args.plain

pub returns-clause-written : goal.returns-clause-written
returns-clause-written c = subst (SaysNoMore One) (sym c.in_ok-showing.ensures) (none_skipped c.args.plain.links)
