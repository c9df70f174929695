use Rattle.fs_spec.proofs.FilesByPaths.{told}
use Rattle.fs_spec.proofs.laws.files_are_told_by_paths.Goals as goal

-- entry by entry, since rising cookies order them
pub returns : goal.returns
returns c = λ one other tree tree' fsid next paths files. told one other tree tree' paths files fsid next
