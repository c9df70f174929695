use Rattle.std.proofs.Common.{sym, subst}
use Rattle.xdr.specs.Item.{Fits}
use Rattle.secure_log.specs.declared.log_entries.entry.Entry.{Entry}
use Rattle.secure_log.specs.LogEntries.Entry.{entry_item, entry_value}
use Rattle.witness_node_laws.proofs.texts.has_text.Goals as goal

pub returns-in-Send : goal.returns-in-Send
returns-in-Send c =
    subst (λ (e : Entry). Fits entry_item (entry_value e)) (sym c.in-Send.is) c.send_has_text.ensures

pub returns-in-Recv : goal.returns-in-Recv
returns-in-Recv c =
    subst (λ (e : Entry). Fits entry_item (entry_value e)) (sym c.in-Recv.is) c.recv_has_text.ensures

pub returns-in-Ack : goal.returns-in-Ack
returns-in-Ack c =
    subst (λ (e : Entry). Fits entry_item (entry_value e)) (sym c.in-Ack.is) c.ack_has_text.ensures

pub returns-in-Clock : goal.returns-in-Clock
returns-in-Clock c =
    subst (λ (e : Entry). Fits entry_item (entry_value e)) (sym c.in-Clock.is) c.clock_has_text.ensures

pub returns-in-Check : goal.returns-in-Check
returns-in-Check c =
    subst (λ (e : Entry). Fits entry_item (entry_value e)) (sym c.in-Check.is) c.check_has_text.ensures
