use Rattle.std.proofs.Common.{refl}
use Rattle.std.proofs.lemmas.Result.{err_from_is_err_and}
use Rattle.xdr.specs.ReadFault.{xdr_fault}
use Rattle.xdr.specs.ArraysAndUnions.{choice_ok, choice_err_unless}
use Rattle.state_spec.specs.StateItems.{is_stage, stage_body}
use Rattle.checkpoint.proofs.parts.world.read_stage.Goals as goal

pub returns-in-0 : goal.returns-in-0
returns-in-0 c =
    choice_ok is_stage stage_body c.args.reader.now 0 c.u32.new.self tt c.u32.new.self
    (rw c.in-0.is at c.in_ok-u32.ensures) refl refl

pub returns-in_err-from-in-1 : goal.returns-in_err-from-in-1
returns-in_err-from-in-1 c =
    let p = err_from_is_err_and c.from_residual-in_err-from-in-1.result
    c.from_residual-in_err-from-in-1.ensures.1 in
    rw (p.1, p.2) (choice_err_unless is_stage stage_body c.args.reader.now 1 c.u32.new.self
    (xdr_fault c.in_err-from-in-1.field-0.0)
    (rw c.in-1.is at c.in_ok-u32.ensures) refl c.in_err-from-in-1.ensures)

pub returns-in_ok-from-in-1 : goal.returns-in_ok-from-in-1
returns-in_ok-from-in-1 c =
    choice_ok is_stage stage_body c.args.reader.now 1 c.u32.new.self
    (c.in_ok-from-in-1.from, c.in_ok-from-in-1.body.now) c.read_message.new.reader
    (rw c.in-1.is at c.in_ok-u32.ensures) refl c.in_ok-from-in-1.ensures

pub returns-in_err-to-in-2 : goal.returns-in_err-to-in-2
returns-in_err-to-in-2 c =
    let p = err_from_is_err_and c.from_residual-in_err-to-in-2.result
    c.from_residual-in_err-to-in-2.ensures.1 in
    rw (p.1, p.2) (choice_err_unless is_stage stage_body c.args.reader.now 2 c.u32.new.self
    (xdr_fault c.in_err-to-in-2.field-0.0)
    (rw c.in-2.is at c.in_ok-u32.ensures) refl c.in_err-to-in-2.ensures)

pub returns-in_ok-to-in-2 : goal.returns-in_ok-to-in-2
returns-in_ok-to-in-2 c =
    choice_ok is_stage stage_body c.args.reader.now 2 c.u32.new.self
    (c.in_ok-to-in-2.to, c.in_ok-to-in-2.body.now) c.read_message-in-2.new.reader
    (rw c.in-2.is at c.in_ok-u32.ensures) refl c.in_ok-to-in-2.ensures
