use Rattle.std.proofs.Common.{inl}
use Rattle.server_process.proofs.OfPutBack.{is_known}
use Rattle.server_process.proofs.held.Held.answer.Goals as goal

pub returns-clause-shown : goal.returns-clause-shown
returns-clause-shown c number was =
    inl (is_known c.args.self.now.server c.args.bytes.now c.in-Ok.put_back c.in-Ok.ensures.none number was)
