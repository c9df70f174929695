use Rattle.std.proofs.Common.{◌∙◌, Some, ap, sym}
use Rattle.xdr.specs.Reading.{number_at}
use Rattle.witness_process.proofs.OfPackets.{has_first, has_number, has_second, is_first, is_second}
use Rattle.witness_process.proofs.brought.brought_by.Goals as goal

pub returns-in_default : goal.returns-in_default
returns-in_default c = λ d says.
    absurd (has_number c.args.packet.now c.in_default.field-0 d
    (ap (λ b. number_at 4 b) (sym c.new-reader.ensures) ∙ c.in_default.ensures.0) says)

pub returns-in_default-u32 : goal.returns-in_default-u32
returns-in_default-u32 c = λ d says.
    let number = ap (λ b. number_at 4 b) (sym c.new-reader.ensures) ∙ c.in-Ok.ensures in
    absurd (has_first c.args.packet.now c.in-Ok.number c.u32.new.self c.in_default-u32.field-0 d number
    c.in_default-u32.ensures.0 says)

pub returns-then-number-eq-SEGMENT : goal.returns-then-number-eq-SEGMENT
returns-then-number-eq-SEGMENT c = λ d says.
    let number = ap (λ b. number_at 4 b) (sym c.new-reader.ensures) ∙ c.in-Ok.ensures in
    ap (λ n. Some n) (is_first c.args.packet.now c.in-Ok.number c.u32.new.self c.in-Ok-u32.first c.u32-2.new.self d
    number c.in-Ok-u32.ensures c.if-number-ne-ENVELOPE.true says)

pub returns-else-number-eq-SEGMENT : goal.returns-else-number-eq-SEGMENT
returns-else-number-eq-SEGMENT c = λ d says.
    let number = ap (λ b. number_at 4 b) (sym c.new-reader.ensures) ∙ c.in-Ok.ensures in
    ap (λ n. Some n) (is_first c.args.packet.now c.in-Ok.number c.u32.new.self c.in-Ok-u32.first c.u32-2.new.self d
    number c.in-Ok-u32.ensures c.if-number-ne-ENVELOPE.true says)

pub returns-in-Ok-u32-2 : goal.returns-in-Ok-u32-2
returns-in-Ok-u32-2 c = λ d says.
    let number = ap (λ b. number_at 4 b) (sym c.new-reader.ensures) ∙ c.in-Ok.ensures in
    ap (λ n. Some n) (is_second c.args.packet.now c.in-Ok.number c.u32.new.self c.in-Ok-u32.first c.u32-2.new.self
    c.in-Ok-u32-2.receiver c.u32-3.new.self d number c.in-Ok-u32.ensures c.if-number-ne-ENVELOPE.false
    c.in-Ok-u32-2.ensures says)

pub returns-in-Err : goal.returns-in-Err
returns-in-Err c = λ d says.
    let number = ap (λ b. number_at 4 b) (sym c.new-reader.ensures) ∙ c.in-Ok.ensures in
    absurd (has_second c.args.packet.now c.in-Ok.number c.u32.new.self c.in-Ok-u32.first c.u32-2.new.self
    c.in-Err.field-0 d number c.in-Ok-u32.ensures c.if-number-ne-ENVELOPE.false c.in-Err.ensures.0 says)
