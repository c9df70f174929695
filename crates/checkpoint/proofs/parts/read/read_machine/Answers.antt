use Rattle.std.proofs.Common.{refl}
use Rattle.std.proofs.lemmas.Result.{err_from_is_err_and}
use Rattle.xdr.specs.ReadFault.{xdr_fault}
use Rattle.xdr.specs.ArraysAndUnions.{choice_ok, choice_err_unless}
use Rattle.state_spec.specs.server_spec.FileItems.{file_item}
use Rattle.state_spec.specs.StateItems.{is_node_kind, machine_item}
use Rattle.checkpoint.specs.Parts.SaidParts.{kind_said, world_said}
use Rattle.checkpoint.proofs.parts.read.read_machine.Goals as goal

pub returns-in_err-shared-in-1 : goal.returns-in_err-shared-in-1
returns-in_err-shared-in-1 c =
    let p = err_from_is_err_and c.from_residual-in_err-shared-in-1.result
    c.from_residual-in_err-shared-in-1.ensures.1 in
    rw (p.1, p.2) (choice_err_unless is_node_kind (machine_item file_item) c.args.reader.now 1 c.u32.new.self
    (xdr_fault c.in_err-shared-in-1.field-0.0)
    (rw c.in-1.is at c.in_ok-u32.ensures) refl c.in_err-shared-in-1.ensures)

pub returns-in_ok-shared-in-1 : goal.returns-in_ok-shared-in-1
returns-in_ok-shared-in-1 c =
    let shared = c.in_ok-shared-in-1.shared in
    choice_ok is_node_kind (machine_item file_item) c.args.reader.now 1 c.u32.new.self
    (kind_said 1 shared.clock shared.received.items shared.sends.items
    (world_said c.in_ok-shared-in-1.world)) c.read_server.new.reader
    (rw c.in-1.is at c.in_ok-u32.ensures) refl c.in_ok-shared-in-1.ensures

pub returns-in_err-shared-in-2 : goal.returns-in_err-shared-in-2
returns-in_err-shared-in-2 c =
    let p = err_from_is_err_and c.from_residual-in_err-shared-in-2.result
    c.from_residual-in_err-shared-in-2.ensures.1 in
    rw (p.1, p.2) (choice_err_unless is_node_kind (machine_item file_item) c.args.reader.now 2 c.u32.new.self
    (xdr_fault c.in_err-shared-in-2.field-0.0)
    (rw c.in-2.is at c.in_ok-u32.ensures) refl c.in_err-shared-in-2.ensures)

pub returns-in_ok-shared-in-2 : goal.returns-in_ok-shared-in-2
returns-in_ok-shared-in-2 c =
    let shared = c.in_ok-shared-in-2.shared in
    choice_ok is_node_kind (machine_item file_item) c.args.reader.now 2 c.u32.new.self
    (kind_said 2 shared.clock shared.received.items shared.sends.items 0) c.read_client.new.reader
    (rw c.in-2.is at c.in_ok-u32.ensures) refl c.in_ok-shared-in-2.ensures
