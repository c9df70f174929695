use Rattle.std.proofs.Common.{refl}
use Rattle.std.proofs.lemmas.Result.{err_from_is_err_and}
use Rattle.xdr.specs.ReadFault.{xdr_fault}
use Rattle.xdr.specs.ArraysAndUnions.{choice_ok, choice_err_unless}
use Rattle.tree_rules.specs.GivenListing.{said_entries}
use Rattle.server_spec.specs.FileItems.{is_file_kind, kind_item}
use Rattle.file_texts.specs.Parts.{attributes_said}
use Rattle.file_texts.proofs.read.read_kind.Goals as goal

pub returns-in_err-attributes-in-1 : goal.returns-in_err-attributes-in-1
returns-in_err-attributes-in-1 c =
    let p =
    err_from_is_err_and c.from_residual-in_err-attributes-in-1.result
    c.from_residual-in_err-attributes-in-1.ensures.1 in
    rw (p.1, p.2) (choice_err_unless is_file_kind kind_item c.args.reader.now 1 c.u32.new.self
    (xdr_fault c.in_err-attributes-in-1.field-0.0)
    (rw c.in-1.is at c.in_ok-u32.ensures) refl c.in_err-attributes-in-1.ensures)

pub returns-in_ok-attributes-in-1 : goal.returns-in_ok-attributes-in-1
returns-in_ok-attributes-in-1 c =
    choice_ok is_file_kind kind_item c.args.reader.now 1 c.u32.new.self
    (attributes_said c.in_ok-attributes-in-1.attributes, c.in_ok-attributes-in-1.bytes.now)
    c.read_regular.new.reader (rw c.in-1.is at c.in_ok-u32.ensures) refl c.in_ok-attributes-in-1.ensures

pub returns-in_err-attributes-in-2 : goal.returns-in_err-attributes-in-2
returns-in_err-attributes-in-2 c =
    let p =
    err_from_is_err_and c.from_residual-in_err-attributes-in-2.result
    c.from_residual-in_err-attributes-in-2.ensures.1 in
    rw (p.1, p.2) (choice_err_unless is_file_kind kind_item c.args.reader.now 2 c.u32.new.self
    (xdr_fault c.in_err-attributes-in-2.field-0.0)
    (rw c.in-2.is at c.in_ok-u32.ensures) refl c.in_err-attributes-in-2.ensures)

pub returns-in_ok-attributes-in-2 : goal.returns-in_ok-attributes-in-2
returns-in_ok-attributes-in-2 c =
    choice_ok is_file_kind kind_item c.args.reader.now 2 c.u32.new.self (
      attributes_said c.in_ok-attributes-in-2.attributes,
      (c.in_ok-attributes-in-2.next, said_entries c.in_ok-attributes-in-2.entries.items),
    )
    c.read_directory.new.reader (rw c.in-2.is at c.in_ok-u32.ensures) refl c.in_ok-attributes-in-2.ensures

pub returns-in_err-attributes-in-5 : goal.returns-in_err-attributes-in-5
returns-in_err-attributes-in-5 c =
    let p =
    err_from_is_err_and c.from_residual-in_err-attributes-in-5.result
    c.from_residual-in_err-attributes-in-5.ensures.1 in
    rw (p.1, p.2) (choice_err_unless is_file_kind kind_item c.args.reader.now 5 c.u32.new.self
    (xdr_fault c.in_err-attributes-in-5.field-0.0)
    (rw c.in-5.is at c.in_ok-u32.ensures) refl c.in_err-attributes-in-5.ensures)

pub returns-in_ok-attributes-in-5 : goal.returns-in_ok-attributes-in-5
returns-in_ok-attributes-in-5 c =
    choice_ok is_file_kind kind_item c.args.reader.now 5 c.u32.new.self
    (attributes_said c.in_ok-attributes-in-5.attributes, c.in_ok-attributes-in-5.target.now)
    c.read_symlink.new.reader (rw c.in-5.is at c.in_ok-u32.ensures) refl c.in_ok-attributes-in-5.ensures
