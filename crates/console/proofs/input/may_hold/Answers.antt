use Rattle.std.proofs.Common.{rules}
use Rattle.console.proofs.Fronts.{too_long}
use Rattle.console.proofs.input.may_hold.Goals as goal

pub returns-then-front-gt-LONGEST : goal.returns-then-front-gt-LONGEST
returns-then-front-gt-LONGEST c is more = too_long c.args.front.now more (search rules)
