use Rattle.std.proofs.Common.{refl}
use Rattle.std.proofs.lemmas.Result.{err_from_is_err_and}
use Rattle.std.specs.Prelude.{◌==◌, if◌then◌else◌}
use Rattle.xdr.specs.ReadFault.{xdr_fault}
use Rattle.xdr.specs.ArraysAndUnions.{choice_ok, choice_err_unless}
use Rattle.authenticator.specs.Roster.{is_log}
use Rattle.authenticator.specs.declared.member.LogVersion.TheVariants.{One, Two}
use Rattle.secure_log.specs.Versioned.{worded_value}
use Rattle.evidence_showings.specs.Bases.{worded_base_value}
use Rattle.evidence_showings.specs.evidence_spec.Evidence.{begun_replay}
use Rattle.challenge.specs.BasedReplays.{plain_based_value}
use Rattle.challenge.proofs.based_read.take_based.Goals as goal

pub returns-in_err-based-in-1 : goal.returns-in_err-based-in-1
returns-in_err-based-in-1 c =
    let p = err_from_is_err_and c.from_residual-in_err-based-in-1.result c.from_residual-in_err-based-in-1.ensures.1 in
    rw (p.1, p.2) (choice_err_unless is_log (λ n. if n == 1 then begun_replay One else begun_replay Two) c.args.source.now 1 c.take_word.new.source (xdr_fault c.in_err-based-in-1.field-0.0) (rw c.in-1.is at c.in_ok-take_word.ensures) refl c.in_err-based-in-1.ensures)

pub returns-in_ok-based-in-1 : goal.returns-in_ok-based-in-1
returns-in_ok-based-in-1 c =
    choice_ok is_log (λ n. if n == 1 then begun_replay One else begun_replay Two) c.args.source.now 1 c.take_word.new.source (plain_based_value c.in_ok-based-in-1.based) c.take_plain.new.source (rw c.in-1.is at c.in_ok-take_word.ensures) refl c.in_ok-based-in-1.ensures

pub returns-in_err-base-in-2 : goal.returns-in_err-base-in-2
returns-in_err-base-in-2 c =
    let p = err_from_is_err_and c.from_residual-in_err-base-in-2.result c.from_residual-in_err-base-in-2.ensures.1 in
    rw (p.1, p.2) (choice_err_unless is_log (λ n. if n == 1 then begun_replay One else begun_replay Two) c.args.source.now 2 c.take_word.new.source (xdr_fault c.in_err-base-in-2.field-0.0) (rw c.in-2.is at c.in_ok-take_word.ensures) refl c.in_err-base-in-2.ensures)

pub returns-in_ok-base-in-2 : goal.returns-in_ok-base-in-2
returns-in_ok-base-in-2 c =
    choice_ok is_log (λ n. if n == 1 then begun_replay One else begun_replay Two) c.args.source.now 2 c.take_word.new.source (worded_base_value c.in_ok-base-in-2.base, worded_value c.in_ok-base-in-2.log) c.take_worded.new.source (rw c.in-2.is at c.in_ok-take_word.ensures) refl c.in_ok-base-in-2.ensures
