use Rattle.challenge.proofs.BasedTexts.{based_adds}
use Rattle.challenge.proofs.based.BasedReplay.add_to.Goals as goal

pub returns : goal.returns
returns c =
    let base = rw c.base-base.ensures at c.in_ok-write.ensures in
    let log = rw c.log-log.ensures.log at c.write-2.ensures in
    based_adds c.args.self.now.base c.args.self.now.log c.args.out.now.items c.write.new.out.items
    c.write-2.new.out.items c.write-2.result c.log-log.ensures.version base log
