use Rattle.challenge.proofs.case.add_case.Goals as goal

pub returns-in_err-write-clause-fits : goal.returns-in_err-write-clause-fits
returns-in_err-write-clause-fits c = (c.write.ensures.fits, c.has_text.ensures.fits)

pub returns-clause-fits : goal.returns-clause-fits
returns-clause-fits c = (c.write.ensures.fits, c.has_text.ensures.fits)
