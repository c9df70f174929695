use Rattle.std.proofs.Common.{arith, sym}
use Rattle.service.proofs.Named.{named}
use Rattle.service.proofs.checks.sys_caller.Goals as goal

pub returns-clause-name : goal.returns-clause-name
returns-clause-name c =
    named c.in-Some.says c.args.body.now (λ i. omega (arith, c.type_inv.body i)) (sym c.in-Some.ensures)
