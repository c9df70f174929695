use Rattle.std.proofs.Common.{rules}
use Rattle.console.proofs.Reading.{follows}
use Rattle.console.proofs.checking.check.Goals as goal

pub returns-clause-write : goal.returns-clause-write
returns-clause-write g c e = (
  record {
    judgement = c.in_ok-judgement.judgement;
    text = c.in_ok-judgement.text.items;
    judged = follows _ _ _ c.in_ok-judgement.ensures.judged c.in_ok-contents.ensures.found;
    told = c.in_ok-judgement.ensures.told;
    written = search rules;
  },
  search rules,
  search rules,
)
