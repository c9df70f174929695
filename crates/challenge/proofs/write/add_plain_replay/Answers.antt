use Rattle.authenticator.specs.declared.member.LogVersion.TheVariants.{One}
use Rattle.challenge.proofs.Logs.{replay_adds}
use Rattle.challenge.proofs.write.add_plain_replay.Goals as goal

pub returns : goal.returns
returns c =
    replay_adds One 2 c.args.log.now c.args.out.now.items c.put_u32.new.self.items c.write.new.out.items c.write.result c.requires c.in_ok-put_u32.ensures.writes c.write.ensures
