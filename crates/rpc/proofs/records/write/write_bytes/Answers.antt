use Rattle.std.proofs.Common.{rules, arith, sym, take, drop, take-append-drop, length-drop}
use Rattle.rpc.proofs.records.write.write_bytes.Goals as goal

pub returns-then-write_front-bytes-clause-text : goal.returns-then-write_front-bytes-clause-text
returns-then-write_front-bytes-clause-text g c =
    let n = c.write_front.result in (
      take n c.args.bytes.now,
      drop n c.args.bytes.now,
      sym (take-append-drop n c.args.bytes.now),
      omega (arith, length-drop n c.args.bytes.now, c.if-write_front-bytes.true),
      c.write_front.ensures.text,
    )
