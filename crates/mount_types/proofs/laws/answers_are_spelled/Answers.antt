use Rattle.nfs_items.proofs.Programs.{answer_is_spelled}
use Rattle.mount_types.specs.Texts.{mount_program}
use Rattle.mount_types.proofs.laws.answers_are_spelled.Goals as goal

-- the law on every program, of MOUNT
pub returns : goal.returns
returns c = answer_is_spelled mount_program
