use Rattle.std.proofs.Common.{sym, ◌∙◌}
use Rattle.authenticator.specs.Signed.{signed_digest}
use Rattle.replay.proofs.FaultySteps.{signed_same}
use Rattle.replay.proofs.messages.is_signed_in.Goals as goal

pub returns-in-Some : goal.returns-in-Some
returns-in-Some c =
    let member = c.in-Some.member in
    signed_same c.args.roster.now
    (record {
      node = c.args.node;
      word = c.args.word;
      hash = c.args.hash.now;
      signature = c.args.signature.now;
    })
    member c.is_signed.result (sym c.member.ensures ∙ c.in-Some.is) c.is_signed.ensures
    (c.tests_as_it_is_signed.ensures.by_root member.root member.height
    (signed_digest c.args.node c.args.word c.args.hash.now) c.args.signature.now)
