use Rattle.challenge.specs.Charges.{fork_in}
use Rattle.challenge.proofs.Forks.{words_of_whole}
use Rattle.challenge.proofs.write.add_fork.Goals as goal

pub add_worded_fork-requires-clause-a : goal.add_worded_fork-requires-clause-a
add_worded_fork-requires-clause-a c =
    (words_of_whole c.args.fork.now.log_version (fork_in c.args.fork.now) c.in-Two.is c.requires).0

pub add_worded_fork-requires-clause-b : goal.add_worded_fork-requires-clause-b
add_worded_fork-requires-clause-b c =
    (words_of_whole c.args.fork.now.log_version (fork_in c.args.fork.now) c.in-Two.is c.requires).1

pub returns-in-One : goal.returns-in-One
returns-in-One c = rw c.in-One.is c.add_plain_fork.ensures

pub returns-in-Two : goal.returns-in-Two
returns-in-Two c = rw c.in-Two.is c.add_worded_fork.ensures
