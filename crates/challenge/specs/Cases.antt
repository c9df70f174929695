-- A case: a roster and evidence against a node, as a file has them.
use Rattle.std.specs.Prelude.{◌&&◌}
use Rattle.xdr.specs.Item.{Item, Value, pair}
use Rattle.xdr.specs.Texts.Text.{Text}
use Rattle.authenticator.specs.Roster.{is_roster_value, roster_item, roster_value}
use Rattle.evidence_showings.specs.evidence_spec.Evidence.{evidence_item, evidence_text, evidence_value}
use Rattle.challenge.specs.declared.case.Case.{Case}

-- a case in a text (RFC 4506): the roster, and after it the evidence
abbrev pub case_item : Item
case_item = pair roster_item evidence_item

-- a case, as its text's value
abbrev pub case_value : Case → Value case_item
case_value c = (roster_value c.roster, evidence_value c.evidence)

-- Its text: the roster and the evidence pass their own tests, and nothing may follow.
abbrev pub case_text : Text
case_text = record { item = case_item; test = λ v. evidence_text.test v.1 && is_roster_value v.0 }
