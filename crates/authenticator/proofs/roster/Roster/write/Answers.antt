use Rattle.std.proofs.Common.{List, subst}
use Rattle.std.specs.Prelude.{IsTrue}
use Rattle.xdr.specs.Item.{Fits}
use Rattle.authenticator.specs.declared.member.Member.{Member}
use Rattle.authenticator.specs.Roster.{is_roster_value, roster_item, roster_value, some_gaps}
use Rattle.authenticator.proofs.Forms.{listed_fits, roster_passes}
use Rattle.authenticator.proofs.roster.Roster.write.Goals as goal

pub returns-clause-fits : goal.returns-clause-fits
returns-clause-fits c =
    let ms = c.self.inside.members.items in
    subst (λ (x : List Member). Fits roster_item (roster_value x)) c.self.view_is
    (listed_fits (some_gaps ms) ms c.self.invariant.0)

pub returns-clause-rising : goal.returns-clause-rising
returns-clause-rising c =
    subst (λ (x : List Member). IsTrue (is_roster_value (roster_value x))) c.self.view_is
    (roster_passes c.self.inside.members.items c.self.invariant)
