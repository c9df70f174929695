use Rattle.nfs_spec.proofs.OpeningFiles.{root_shows, hello_shows}
use Rattle.nfs_spec.proofs.laws.opening_files_show.Goals as goal

pub returns-clause-root : goal.returns-clause-root
returns-clause-root c = root_shows

pub returns-clause-hello : goal.returns-clause-hello
returns-clause-hello c = hello_shows
