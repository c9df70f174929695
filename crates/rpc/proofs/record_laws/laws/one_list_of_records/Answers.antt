use Rattle.rpc.proofs.OfRecordLaws.OneList.{one_list_of_records}
use Rattle.rpc.proofs.record_laws.laws.one_list_of_records.Goals as goal

-- the law
pub returns : goal.returns
returns c = one_list_of_records
