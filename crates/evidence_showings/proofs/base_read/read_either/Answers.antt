use Rattle.std.proofs.Common.{refl}
use Rattle.std.proofs.lemmas.Result.{err_from_is_err_and}
use Rattle.std.specs.Prelude.{◌==◌, if◌then◌else◌}
use Rattle.xdr.specs.ReadFault.{xdr_fault}
use Rattle.xdr.specs.ArraysAndUnions.{choice_ok, choice_err_unless}
use Rattle.authenticator.specs.Roster.{is_log}
use Rattle.authenticator.specs.declared.member.LogVersion.TheVariants.{One, Two}
use Rattle.evidence_spec.specs.Base.{begun_item}
use Rattle.evidence_showings.specs.Bases.{plain_base_value, worded_base_value}
use Rattle.evidence_showings.proofs.base_read.read_either.Goals as goal

pub returns-in_err-read-in-1 : goal.returns-in_err-read-in-1
returns-in_err-read-in-1 c =
    let p = err_from_is_err_and c.from_residual-in_err-read-in-1.result c.from_residual-in_err-read-in-1.ensures.1 in
    rw (p.1, p.2) (choice_err_unless is_log (λ n. if n == 1 then begun_item One else begun_item Two) c.args.reader.now 1 c.u32.new.self (xdr_fault c.in_err-read-in-1.field-0.0) (rw c.in-1.is at c.in_ok-u32.ensures) refl c.in_err-read-in-1.ensures.0)

pub returns-in_err-read-in-2 : goal.returns-in_err-read-in-2
returns-in_err-read-in-2 c =
    let p = err_from_is_err_and c.from_residual-in_err-read-in-2.result c.from_residual-in_err-read-in-2.ensures.1 in
    rw (p.1, p.2) (choice_err_unless is_log (λ n. if n == 1 then begun_item One else begun_item Two) c.args.reader.now 2 c.u32.new.self (xdr_fault c.in_err-read-in-2.field-0.0) (rw c.in-2.is at c.in_ok-u32.ensures) refl c.in_err-read-in-2.ensures.0)

pub returns-in_ok-read-in-1 : goal.returns-in_ok-read-in-1
returns-in_ok-read-in-1 c =
    choice_ok is_log (λ n. if n == 1 then begun_item One else begun_item Two) c.args.reader.now 1 c.u32.new.self (plain_base_value c.in_ok-read-in-1.field-0) c.read.new.reader (rw c.in-1.is at c.in_ok-u32.ensures) refl c.in_ok-read-in-1.ensures

pub returns-in_ok-read-in-2 : goal.returns-in_ok-read-in-2
returns-in_ok-read-in-2 c =
    choice_ok is_log (λ n. if n == 1 then begun_item One else begun_item Two) c.args.reader.now 2 c.u32.new.self (worded_base_value c.in_ok-read-in-2.field-0) c.read-in-2.new.reader (rw c.in-2.is at c.in_ok-u32.ensures) refl c.in_ok-read-in-2.ensures
