-- Charges as they stand in a text.
use Rattle.std.specs.Prelude.{option_map}
use Rattle.xdr.specs.Item.{Value, choice}
use Rattle.authenticator.specs.declared.member.LogVersion.{LogVersion}
use Rattle.authenticator.specs.declared.member.LogVersion.TheVariants.{One, Two}
use Rattle.secure_log.specs.Versioned as logs
use Rattle.evidence_showings.specs.Plain.{plain_value}
use Rattle.evidence_showings.specs.Worded.{worded_value}
use Rattle.evidence_showings.specs.evidence_spec.Evidence.{charge_item, is_charge, replay_charge}
use Rattle.challenge.specs.ReadBased.{read_based_value, read_based_version}
use Rattle.challenge.specs.declared.charges.ReadCharge.{ReadCharge}
use Rattle.challenge.specs.declared.charges.ReadCharge.TheVariants.{Fork, Replay, WordedFork, WordedReplay}
use Rattle.challenge.specs.declared.charges.ReadCharge.TheVariants.{Based}

-- a charge, as its text's value
abbrev pub read_value : ReadCharge → Value (choice is_charge charge_item)
read_value (Fork at a b) = (1, (at, (plain_value a, option_map plain_value b)))
read_value (Replay log) = replay_charge log.log_version log
read_value (WordedFork at a b) = (3, (at, (worded_value a, option_map worded_value b)))
read_value (WordedReplay log) = (4, logs.worded_value log)
read_value (Based based) = (5, read_based_value based)

-- the version of the log that is shown
abbrev pub read_version : ReadCharge → LogVersion
read_version (Fork at a b) = One
read_version (Replay log) = log.log_version
read_version (WordedFork at a b) = Two
read_version (WordedReplay log) = Two
read_version (Based based) = read_based_version based
