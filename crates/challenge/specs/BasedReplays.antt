-- A base, and a part of the same log.
use Rattle.xdr.specs.Item.{Value}
use Rattle.authenticator.specs.declared.member.LogVersion.TheVariants.{One}
use Rattle.secure_log.specs.Versioned.{VersionedParts, versioned_value}
use Rattle.evidence_showings.specs.Bases.{PlainBaseParts, plain_base_value}
use Rattle.evidence_showings.specs.evidence_spec.Base.{BaseParts}
use Rattle.evidence_showings.specs.evidence_spec.Evidence.{begun_replay}

-- a base, and entries that are to follow on it
pub record BasedParts : Type 0 where
  pub base : BaseParts
  pub log : VersionedParts

-- both as they stand in a text of a log of version 1
pub record PlainBasedParts : Type 0 where
  pub base : PlainBaseParts
  pub log : VersionedParts

-- which says this
abbrev pub plain_based_value : PlainBasedParts → Value (begun_replay One)
plain_based_value r = (plain_base_value r.base, versioned_value One r.log)
