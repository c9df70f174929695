use Rattle.rpc.proofs.OfRecordLaws.OneReading.{one_reading}
use Rattle.rpc.proofs.record_laws.laws.one_reading.Goals as goal

-- the law
pub returns : goal.returns
returns c = one_reading
