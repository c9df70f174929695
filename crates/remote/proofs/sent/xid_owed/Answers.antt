use Rattle.rpc.specs.Call.{message_at}
use Rattle.remote.proofs.Xids.{read_xid, unread}
use Rattle.remote.proofs.sent.xid_owed.Goals as goal

pub returns-in-Ok : goal.returns-in-Ok
returns-in-Ok c =
    read_xid c.args.bytes.now c.in-Ok.field-0 c.first_four.result c.in-Ok.ensures.found c.in-Ok.ensures.exact
    c.first_four.ensures

pub returns-in-Err : goal.returns-in-Err
returns-in-Err c = unread c.in-Err.field-0 (message_at c.args.bytes.now) c.in-Err.ensures.exact
