-- Bases as they stand in a text.
use Rattle.xdr.specs.Item.{Value}
use Rattle.evidence_spec.specs.Base.{base_item}
use Rattle.evidence_showings.specs.Bases.{plain_base_value, worded_base_value}
use Rattle.evidence_showings.specs.declared.base_read.ReadBase.{ReadBase}
use Rattle.evidence_showings.specs.declared.base_read.ReadBase.TheVariants as bases

-- a base as it stands in a text, as its text's value
abbrev pub read_base_value : ReadBase → Value base_item
read_base_value (bases.Plain b) = (1, plain_base_value b)
read_base_value (bases.Worded b) = (2, worded_base_value b)
