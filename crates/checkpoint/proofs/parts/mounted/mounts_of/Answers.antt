use Rattle.std.proofs.Common.{sym, ap, subst, ◌∙◌}
use Rattle.std.proofs.lemmas.List.{take_all}
use Rattle.state_spec.specs.Rules.{MountsAreOfTheRoot, MountsDiffer}
use Rattle.state_machine.proofs.server_spec.Mounted.{are_of_the_root, are_different}
use Rattle.checkpoint.specs.Parts.SaidParts.{mounts_given}
use Rattle.checkpoint.proofs.OfParts.MountsTaken.{refused_one}
use Rattle.checkpoint.proofs.parts.mounted.mounts_of.Goals as goal

-- after the last part all mounts are taken, each of the root and no two the same
pub returns : goal.returns
returns c =
    let all = c.loop-part.invariant
    ∙ ap mounts_given (take_all c.loop-part.part-index c.args.parts.now c.loop-part-test.false) in (
      all,
      subst MountsAreOfTheRoot all (are_of_the_root c.loop-part.mounts c.are_mounts.ensures),
      subst MountsDiffer all (are_different c.loop-part.mounts c.are_mounts.ensures),
    )

pub returns-then-not-branch : goal.returns-then-not-branch
returns-then-not-branch c =
    refused_one c.args.parts.now c.loop-part.part-index _ c.loop-part-test.true c.loop-part.mounts
    c.loop-part.invariant (sym c.in_ok-take.ensures.taken ∙ c.if-not-branch.true)
