use Rattle.nfs_items.proofs.Programs.{answer_is_spelled}
use Rattle.nfs_types.specs.Texts.{nfs_program}
use Rattle.nfs_types.proofs.result_texts.laws.answers_are_spelled.Goals as goal

-- the law on every program, of NFS
pub returns : goal.returns
returns c = answer_is_spelled nfs_program
