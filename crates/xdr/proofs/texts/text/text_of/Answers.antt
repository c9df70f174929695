use Rattle.std.proofs.Common.{refl, sym, ◌∙◌, ◌≡◌, ◌==◌, true, false, length}
use Rattle.xdr.proofs.OfTexts.WholeTexts.{text_err, text_more, text_end}
use Rattle.xdr.proofs.texts.text.text_of.Goals as goal

pub returns-in-Err-Fault : goal.returns-in-Err-Fault
returns-in-Err-Fault g c =
    let h = rw c.in-Err-Fault.field-0-is at c.in-Err-Fault.ensures in
    text_err g.T.FromText.text c.args.bytes.now c.in-Err-Fault.field-0-0 (rw (← c.new-reader.ensures) h.0)

pub returns-then-not-is_empty : goal.returns-then-not-is_empty
returns-then-not-is_empty g c =
    let more : (length c.read_front.new.reader == 0) ≡ false =
    rw (← c.rest.ensures) (sym c.is_empty.ensures ∙ c.if-not-is_empty.true) in
    text_more g.T.FromText.text c.args.bytes.now (g.T.FromText.value c.in-Ok.value) c.read_front.new.reader
    (rw (← c.new-reader.ensures) c.in-Ok.ensures) more

pub returns-then-not-has_text : goal.returns-then-not-has_text
returns-then-not-has_text g c =
    let end : (length c.read_front.new.reader == 0) ≡ true =
    rw (← c.rest.ensures) (sym c.is_empty.ensures ∙ c.if-not-is_empty.false) in
    let fails : g.T.FromText.text.test (g.T.FromText.value c.in-Ok.value) ≡ false =
    sym c.has_text.ensures ∙ c.if-not-has_text.true in
    text_end g.T.FromText.text c.args.bytes.now (g.T.FromText.value c.in-Ok.value) c.read_front.new.reader
    (rw (← c.new-reader.ensures) c.in-Ok.ensures) end ∙ rw fails refl

-- a text that was read to its end and passes its test
pub returns : goal.returns
returns g c =
    let end : (length c.read_front.new.reader == 0) ≡ true =
    rw (← c.rest.ensures) (sym c.is_empty.ensures ∙ c.if-not-is_empty.false) in
    let passes : g.T.FromText.text.test (g.T.FromText.value c.in-Ok.value) ≡ true =
    sym c.has_text.ensures ∙ c.if-not-has_text.false in
    text_end g.T.FromText.text c.args.bytes.now (g.T.FromText.value c.in-Ok.value) c.read_front.new.reader
    (rw (← c.new-reader.ensures) c.in-Ok.ensures) end ∙ rw passes refl
