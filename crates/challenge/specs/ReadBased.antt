-- Replays from a base as they stand in a text.
use Rattle.xdr.specs.Item.{Value}
use Rattle.authenticator.specs.declared.member.LogVersion.{LogVersion}
use Rattle.authenticator.specs.declared.member.LogVersion.TheVariants.{One, Two}
use Rattle.secure_log.specs.Versioned as logs
use Rattle.evidence_showings.specs.Bases.{worded_base_value}
use Rattle.evidence_showings.specs.evidence_spec.Evidence.{based_item}
use Rattle.challenge.specs.BasedReplays.{plain_based_value}
use Rattle.challenge.specs.declared.based_read.ReadBased.{ReadBased}
use Rattle.challenge.specs.declared.based_read.ReadBased.TheVariants.{Plain, Worded}

-- a base and a log after it, as their text's value
abbrev pub read_based_value : ReadBased → Value based_item
read_based_value (Plain r) = (1, plain_based_value r)
read_based_value (Worded base log) = (2, (worded_base_value base, logs.worded_value log))

-- the version of both
abbrev pub read_based_version : ReadBased → LogVersion
read_based_version (Plain r) = One
read_based_version (Worded base log) = Two
