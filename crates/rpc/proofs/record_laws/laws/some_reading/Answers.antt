use Rattle.rpc.proofs.OfRecordLaws.SomeReading.{some_reading}
use Rattle.rpc.proofs.record_laws.laws.some_reading.Goals as goal

-- the law
pub returns : goal.returns
returns c = some_reading
