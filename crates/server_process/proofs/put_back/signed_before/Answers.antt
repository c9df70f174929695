use Rattle.server_process.proofs.OfPutBack.{not_claimed}
use Rattle.server_process.proofs.put_back.signed_before.Goals as goal

pub returns-in-None-clause-none : goal.returns-in-None-clause-none
returns-in-None-clause-none c =
    not_claimed c.args.server.now c.args.bytes.now (rw c.in-None.is at c.in_ok-authenticator.ensures.none)
