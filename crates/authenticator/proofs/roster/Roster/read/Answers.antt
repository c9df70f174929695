use Rattle.std.proofs.Common.{sym, subst}
use Rattle.xdr.specs.Item.{Value}
use Rattle.xdr.specs.Texts.Text.{IsText}
use Rattle.authenticator.specs.Roster.{roster_item, roster_text}
use Rattle.authenticator.proofs.roster.Roster.read.Goals as goal

-- what was read is the text of the roster that comes of it
pub returns-in-Some-clause-found : goal.returns-in-Some-clause-found
returns-in-Some-clause-found c =
    subst (λ (v : Value roster_item). IsText roster_text v c.args.bytes.now) (sym c.in-Some.ensures.some)
    c.in_ok-listed.ensures.found
