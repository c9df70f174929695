use Rattle.console.proofs.checking.judge.Goals as goal

-- what is said of the case that was read is said of the bytes
pub returns : goal.returns
returns c = rw c.without.ensures
    (c.judge_read-judgement.ensures c.args.bytes.items c.read_case-case.ensures.exact c.read_case-case.ensures.written)
