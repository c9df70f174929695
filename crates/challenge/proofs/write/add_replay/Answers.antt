use Rattle.std.proofs.Common.{◌∙◌, subst, sym}
use Rattle.authenticator.specs.declared.member.LogVersion.{LogVersion}
use Rattle.xdr.specs.Item.{choice, spelling}
use Rattle.xdr.specs.Writing.{Adds}
use Rattle.evidence_showings.specs.evidence_spec.Evidence.{charge_item, is_charge, replay_charge}
use Rattle.challenge.proofs.write.add_replay.Goals as goal

pub returns-in-One : goal.returns-in-One
returns-in-One c =
    subst (λ (v : LogVersion). Adds (spelling (choice is_charge charge_item) (replay_charge v c.args.log.now)) c.args.out.now.items c.add_plain_replay.result c.add_plain_replay.new.out.items)
    (sym c.in-One.is ∙ c.log_version.ensures) c.add_plain_replay.ensures

pub returns-in-Two : goal.returns-in-Two
returns-in-Two c =
    subst (λ (v : LogVersion). Adds (spelling (choice is_charge charge_item) (replay_charge v c.args.log.now)) c.args.out.now.items c.add_worded_replay.result c.add_worded_replay.new.out.items)
    (sym c.in-Two.is ∙ c.log_version.ensures) c.add_worded_replay.ensures
