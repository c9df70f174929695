use Rattle.std.proofs.Common.{arith}
use Rattle.nfs_items.proofs.Programs as programs
use Rattle.nfs_types.specs.Bounds.{HasBounds}
use Rattle.nfs_types.specs.Texts.{nfs_program}
use Rattle.nfs_types.specs.Arguments.{call_of, GivesCall}
use Rattle.nfs_types.proofs.ArgumentsRead.{own_value}
use Rattle.nfs_types.proofs.Bounded.{value_bounded}
use Rattle.nfs_types.proofs.reading.read_args.Goals as goal

pub returns-clause-found : goal.returns-clause-found
returns-clause-found c =
    let given : GivesCall c.args.procedure c.args.bytes.now c.read_arguments.result
    c.read_arguments.new.reader = rw (← c.new.ensures) c.read_arguments.ensures in
    programs.given_is_said nfs_program call_of _ c.args.bytes.now c.read_arguments.result
    c.read_arguments.new.reader (λ i. omega (arith, c.type_inv.bytes i)) given

pub returns-clause-only : goal.returns-clause-only
returns-clause-only c =
    let given : GivesCall c.args.procedure c.args.bytes.now c.read_arguments.result
    c.read_arguments.new.reader = rw (← c.new.ensures) c.read_arguments.ensures in
    programs.said_is_given nfs_program call_of _ c.args.bytes.now c.read_arguments.result
    c.read_arguments.new.reader given

pub returns-clause-own : goal.returns-clause-own
returns-clause-own c =
    let given : GivesCall c.args.procedure c.args.bytes.now c.read_arguments.result
    c.read_arguments.new.reader = rw (← c.new.ensures) c.read_arguments.ensures in
    programs.given_is_own nfs_program call_of _ c.args.bytes.now own_value c.read_arguments.result
    c.read_arguments.new.reader (λ i. omega (arith, c.type_inv.bytes i)) given

pub returns-clause-bounds : goal.returns-clause-bounds
returns-clause-bounds c =
    let given : GivesCall c.args.procedure c.args.bytes.now c.read_arguments.result
    c.read_arguments.new.reader = rw (← c.new.ensures) c.read_arguments.ensures in
    programs.given_is_bounded nfs_program call_of _ c.args.bytes.now HasBounds value_bounded
    c.read_arguments.result
    c.read_arguments.new.reader (λ i. omega (arith, c.type_inv.bytes i)) given
