use Rattle.std.proofs.Common.{◌≡◌, ◌-◌, ◌∙◌, ap, ap₂, subst, sym}
use Rattle.std.specs.List.{AllByRecursion}
use Rattle.authenticator.specs.declared.member.LogVersion.TheVariants.{Two}
use Rattle.evidence_spec.specs.secure_log.LogEntries.Words.{MaySkip}
use Rattle.evidence_spec.specs.Showing.{ShowingParts, links_in, numbered}
use Rattle.evidence_showings.proofs.Words.{follow_skips, same_bool, skips_follow}
use Rattle.evidence_showings.proofs.showing.Showing.has_words.Goals as goal

-- links may be skipped to exactly where their words follow
pub returns-clause-follow : goal.returns-clause-follow
returns-clause-follow c =
    let s = c.args.self.now in
    let same : numbered c.before-2.result c.deref.result.now ≡ links_in s =
    ap₂ numbered c.before-2.ensures (c.deref.ensures.value ∙ ap (λ (t : ShowingParts). t.links) c.self.view_is) in
    same_bool _ _
    (λ e. skips_follow (s.first - 1) s.links (subst (AllByRecursion (MaySkip Two)) same (c.may_skip.ensures.0 e)))
    (λ e. c.may_skip.ensures.1 (subst (AllByRecursion (MaySkip Two)) (sym same) (follow_skips (s.first - 1) s.links e)))
