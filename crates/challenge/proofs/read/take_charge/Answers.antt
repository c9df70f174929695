use Rattle.std.proofs.Common.{refl, option_map}
use Rattle.std.proofs.lemmas.Result.{err_from_is_err_and}
use Rattle.xdr.specs.ReadFault.{xdr_fault}
use Rattle.xdr.specs.ArraysAndUnions.{choice_ok, choice_err_unless}
use Rattle.authenticator.specs.declared.member.LogVersion.TheVariants.{One}
use Rattle.secure_log.specs.Versioned as logs
use Rattle.secure_log.specs.Versioned.{versioned_value}
use Rattle.evidence_showings.specs.Plain.{plain_value}
use Rattle.evidence_showings.specs.Worded.{worded_value}
use Rattle.evidence_showings.specs.evidence_spec.Evidence.{charge_item, is_charge}
use Rattle.challenge.specs.ReadBased.{read_based_value}
use Rattle.challenge.proofs.Logs.{plain_charge}
use Rattle.challenge.proofs.read.take_charge.Goals as goal

pub returns-in_err-at-in-1 : goal.returns-in_err-at-in-1
returns-in_err-at-in-1 c =
    let p = err_from_is_err_and c.from_residual-in_err-at-in-1.result c.from_residual-in_err-at-in-1.ensures.1 in
    rw (p.1, p.2) (choice_err_unless is_charge charge_item c.args.source.now 1 c.take_word.new.source (xdr_fault c.in_err-at-in-1.field-0.0) (rw c.in-1.is at c.in_ok-take_word.ensures) refl c.in_err-at-in-1.ensures)

pub returns-in_ok-at-in-1 : goal.returns-in_ok-at-in-1
returns-in_ok-at-in-1 c =
    choice_ok is_charge charge_item c.args.source.now 1 c.take_word.new.source (c.in_ok-at-in-1.at, (plain_value c.in_ok-at-in-1.a, option_map plain_value c.in_ok-at-in-1.b)) c.take_fork.new.source (rw c.in-1.is at c.in_ok-take_word.ensures) refl c.in_ok-at-in-1.ensures

pub returns-in_err-log-in-2 : goal.returns-in_err-log-in-2
returns-in_err-log-in-2 c =
    let p = err_from_is_err_and c.from_residual-in_err-log-in-2.result c.from_residual-in_err-log-in-2.ensures.1 in
    rw (p.1, p.2) (choice_err_unless is_charge charge_item c.args.source.now 2 c.take_word.new.source (xdr_fault c.in_err-log-in-2.field-0.0) (rw c.in-2.is at c.in_ok-take_word.ensures) refl c.in_err-log-in-2.ensures.text)

pub returns-in_ok-log-in-2 : goal.returns-in_ok-log-in-2
returns-in_ok-log-in-2 c =
    rw (plain_charge c.in_ok-log-in-2.log c.in_ok-log-in-2.ensures.version) (choice_ok is_charge charge_item c.args.source.now 2 c.take_word.new.source (versioned_value One c.in_ok-log-in-2.log) c.take_log.new.source (rw c.in-2.is at c.in_ok-take_word.ensures) refl c.in_ok-log-in-2.ensures.text)

pub returns-in_err-at-in-3 : goal.returns-in_err-at-in-3
returns-in_err-at-in-3 c =
    let p = err_from_is_err_and c.from_residual-in_err-at-in-3.result c.from_residual-in_err-at-in-3.ensures.1 in
    rw (p.1, p.2) (choice_err_unless is_charge charge_item c.args.source.now 3 c.take_word.new.source (xdr_fault c.in_err-at-in-3.field-0.0) (rw c.in-3.is at c.in_ok-take_word.ensures) refl c.in_err-at-in-3.ensures)

pub returns-in_ok-at-in-3 : goal.returns-in_ok-at-in-3
returns-in_ok-at-in-3 c =
    choice_ok is_charge charge_item c.args.source.now 3 c.take_word.new.source (c.in_ok-at-in-3.at, (worded_value c.in_ok-at-in-3.a, option_map worded_value c.in_ok-at-in-3.b)) c.take_worded_fork.new.source (rw c.in-3.is at c.in_ok-take_word.ensures) refl c.in_ok-at-in-3.ensures

pub returns-in_err-log-in-4 : goal.returns-in_err-log-in-4
returns-in_err-log-in-4 c =
    let p = err_from_is_err_and c.from_residual-in_err-log-in-4.result c.from_residual-in_err-log-in-4.ensures.1 in
    rw (p.1, p.2) (choice_err_unless is_charge charge_item c.args.source.now 4 c.take_word.new.source (xdr_fault c.in_err-log-in-4.field-0.0) (rw c.in-4.is at c.in_ok-take_word.ensures) refl c.in_err-log-in-4.ensures)

pub returns-in_ok-log-in-4 : goal.returns-in_ok-log-in-4
returns-in_ok-log-in-4 c =
    choice_ok is_charge charge_item c.args.source.now 4 c.take_word.new.source (logs.worded_value c.in_ok-log-in-4.log) c.take_worded_log.new.source (rw c.in-4.is at c.in_ok-take_word.ensures) refl c.in_ok-log-in-4.ensures

pub returns-in_err-based-in-5 : goal.returns-in_err-based-in-5
returns-in_err-based-in-5 c =
    let p = err_from_is_err_and c.from_residual-in_err-based-in-5.result c.from_residual-in_err-based-in-5.ensures.1 in
    rw (p.1, p.2) (choice_err_unless is_charge charge_item c.args.source.now 5 c.take_word.new.source (xdr_fault c.in_err-based-in-5.field-0.0) (rw c.in-5.is at c.in_ok-take_word.ensures) refl c.in_err-based-in-5.ensures)

pub returns-in_ok-based-in-5 : goal.returns-in_ok-based-in-5
returns-in_ok-based-in-5 c =
    choice_ok is_charge charge_item c.args.source.now 5 c.take_word.new.source (read_based_value c.in_ok-based-in-5.based) c.take_based.new.source (rw c.in-5.is at c.in_ok-take_word.ensures) refl c.in_ok-based-in-5.ensures
