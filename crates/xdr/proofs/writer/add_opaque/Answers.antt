use Rattle.std.proofs.Common.{ℕ, List, ◌++◌, length, arith, length-append}
use Rattle.xdr.specs.Item.{number_spelling, padding}
use Rattle.xdr.proofs.Front.{length-number_spelling}
use Rattle.xdr.proofs.Room.{refused, takes_both}
use Rattle.xdr.proofs.writer.add_opaque.Goals as goal

pub returns-in_err-put_u32-clause-room : goal.returns-in_err-put_u32-clause-room
returns-in_err-put_u32-clause-room c =
    let bytes : List ℕ = c.args.bytes.now in
    refused _ _ _ _ c.from_residual.ensures.0
    (omega (
      arith,
      c.in_err-put_u32.ensures.room,
      length-append (number_spelling 4 (length bytes)) (bytes ++ padding (length bytes)),
      length-number_spelling 4 (length bytes),
    ))

pub returns-clause-room : goal.returns-clause-room
returns-clause-room c =
    let bytes : List ℕ = c.args.bytes.now in
    takes_both 4 (length (bytes ++ padding (length bytes))) _ _ _ c.add_fixed.result _
    (omega (
      arith,
      length-append (number_spelling 4 (length bytes)) (bytes ++ padding (length bytes)),
      length-number_spelling 4 (length bytes),
    ))
    c.in_ok-put_u32.ensures.room c.add_fixed.ensures.room
