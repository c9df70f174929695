-- What evidence in memory says.
use Rattle.std.specs.Prelude.{◌≡◌, ◌<◌, IfSome}
use Rattle.std.specs.List.{AllByRecursion}
use Rattle.authenticator.specs.declared.member.LogVersion.{LogVersion}
use Rattle.authenticator.specs.declared.member.LogVersion.TheVariants.{One, Two}
use Rattle.secure_log.specs.Versioned.{VersionedParts}
use Rattle.evidence_showings.specs.Showings.{SaysNoMore}
use Rattle.evidence_showings.specs.evidence_spec.Evidence.{ForkParts}
use Rattle.evidence_showings.specs.evidence_spec.Evidence as spec
use Rattle.challenge.specs.declared.evidence.Fork.{Fork}
use Rattle.challenge.specs.declared.evidence.Charge.{Charge}
use Rattle.challenge.specs.declared.evidence.Charge.TheVariants as charges

-- a fork, as evidence has it
abbrev pub fork_in : Fork → ForkParts
fork_in f = record { log_version = f.log_version; at = f.at; a = f.a; b = f.b }

-- a charge, as evidence has it
abbrev pub charge_in : Charge → spec.Charge
charge_in (charges.Fork f) = spec.Fork (fork_in f)
charge_in (charges.Replay log) = spec.Replay log
charge_in (charges.Based based) = spec.Based based.base based.log

-- A log says no more than its text of a version does: in version 1 its entries skip nothing, in version 2 its
-- first number is at least 1.
abbrev pub LogSaysNoMore : LogVersion → VersionedParts → Type 0
LogSaysNoMore One s = AllByRecursion (λ l. l.skipped ≡ 0) s.entries
LogSaysNoMore Two s = 0 < s.first

-- A charge as it is read: its showings, or its log, say no more than their texts, so that the text tells all
-- of it.
abbrev pub IsWritten : spec.Charge → Type 0
IsWritten (spec.Fork f) = SaysNoMore f.log_version f.a × IfSome f.b (SaysNoMore f.log_version)
IsWritten (spec.Replay s) = LogSaysNoMore s.log_version s
IsWritten (spec.Based b s) =
    SaysNoMore b.log_version b.showing × (s.log_version ≡ b.log_version) × LogSaysNoMore s.log_version s
