use Rattle.std.proofs.Common.{◌≡◌, ◌<◌, ◌+◌, ap, ◌∙◌, arith}
use Rattle.host_keys.specs.Spent.{greatest}
use Rattle.host_keys.specs.declared.begun.Begun.TheVariants.{Run}
use Rattle.host_keys.proofs.SpentLaws.{after_all, fresh}
use Rattle.host_keys.proofs.spent.Spent.next_run.Goals as goal

pub returns-then-last-lt4294967295-clause-may : goal.returns-then-last-lt4294967295-clause-may
returns-then-last-lt4294967295-clause-may c =
    let g : c.greatest-last.result ≡ greatest c.args.self.now = c.greatest-last.ensures
    ∙ ap greatest c.begun.ensures in
    let below : greatest c.args.self.now < c.greatest-last.result + 1 = omega arith in
    record {
      is = omega arith;
      after = after_all c.args.self.now (Run (c.greatest-last.result + 1)) below;
    }

pub returns-then-last-lt4294967295-clause-fresh : goal.returns-then-last-lt4294967295-clause-fresh
returns-then-last-lt4294967295-clause-fresh c =
    let g : c.greatest-last.result ≡ greatest c.args.self.now = c.greatest-last.ensures
    ∙ ap greatest c.begun.ensures in
    let below : greatest c.args.self.now < c.greatest-last.result + 1 = omega arith in
    fresh c.args.self.now (Run (c.greatest-last.result + 1))
    (after_all c.args.self.now (Run (c.greatest-last.result + 1)) below)
