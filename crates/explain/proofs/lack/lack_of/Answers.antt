use Rattle.explain.proofs.lack.lack_of.Goals as goal

pub returns-in-NoTwoMarks-clause-more : goal.returns-in-NoTwoMarks-clause-more
returns-in-NoTwoMarks-clause-more c = c.no_two.ensures.more c.args.roster.now
