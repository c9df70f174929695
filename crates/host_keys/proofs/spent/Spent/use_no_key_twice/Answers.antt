use Rattle.std.proofs.Common.{◌≡◌, true, subst}
use Rattle.host_keys.specs.Spent.{follow}
use Rattle.host_keys.proofs.SpentLaws.{no_key_twice}
use Rattle.host_keys.proofs.spent.Spent.use_no_key_twice.Goals as goal

pub returns-clause-keys : goal.returns-clause-keys
returns-clause-keys c = no_key_twice c.args.self.now (subst (λ s. follow s
    ≡ true) c.self.view_is c.self.invariant.in_order)
