use Rattle.std.proofs.Common.{arith, map}
use Rattle.nfs_spec.specs.nfs_types.Results.{entry_of}
use Rattle.inodes.proofs.OfDirectories.Fronts.{front_zero, left_out}
use Rattle.inodes.proofs.directories.page.Filling.add.Goals as goal

pub returns-then-cost-self-clause-added : goal.returns-then-cost-self-clause-added
returns-then-cost-self-clause-added c = λ es.
    left_out (map entry_of c.args.self.now.page.entries.items) c.args.self.now.page.eof c.args.self.now.room
    (entry_of c.args.entry) es (omega (arith, c.if-cost-self.true))

pub returns-then-cost-self-clause-full : goal.returns-then-cost-self-clause-full
returns-then-cost-self-clause-full c = λ _ es. rw (front_zero es)
