use Rattle.authenticator.specs.declared.member.LogVersion.TheVariants.{Two}
use Rattle.challenge.proofs.Logs.{replay_adds}
use Rattle.challenge.proofs.write.add_worded_replay.Goals as goal

pub returns : goal.returns
returns c =
    replay_adds Two 4 c.args.log.now c.args.out.now.items c.put_u32.new.self.items c.write.new.out.items c.write.result c.requires c.in_ok-put_u32.ensures.writes c.write.ensures
