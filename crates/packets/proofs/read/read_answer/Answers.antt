use Rattle.packets.proofs.read.read_answer.Goals as goal

-- a fault of the segment is refused as its packet is owed
pub returns-in-Err-clause-answers : goal.returns-in-Err-clause-answers
returns-in-Err-clause-answers g c =
    c.refusal_for.ensures c.args.roster.now c.args.version c.args.text.now c.in-Err.ensures.checks
