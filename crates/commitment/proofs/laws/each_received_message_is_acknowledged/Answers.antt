use Rattle.commitment.proofs.Receipts.{acknowledgement_law, found_law, receipt_law}
use Rattle.commitment.proofs.laws.each_received_message_is_acknowledged.Goals as goal

pub returns-clause-found : goal.returns-clause-found
returns-clause-found c = receipt_law

pub returns-clause-each : goal.returns-clause-each
returns-clause-each c = found_law

pub returns-clause-acknowledged : goal.returns-clause-acknowledged
returns-clause-acknowledged c = acknowledgement_law
