use Rattle.std.proofs.Common.{true, false}
use Rattle.nfs_laws.proofs.OfSteps.Removing.{remove_ok, remove_dir_ok}
use Rattle.nfs_laws.proofs.OfChanges.NamedFiles.{removed_unnames, directory_gone}
use Rattle.nfs_laws.proofs.changes.laws.removing_keeps_the_rest.Goals as goal

pub returns-clause-remove : goal.returns-clause-remove
returns-clause-remove c w after who now dir name tree h =
    removed_unnames w who now tree false dir name after (remove_ok w who now dir name after h)

pub returns-clause-remove_dir : goal.returns-clause-remove_dir
returns-clause-remove_dir c w after who now dir name tree h =
    removed_unnames w who now tree true dir name after (remove_dir_ok w who now dir name after h)

pub returns-clause-gone : goal.returns-clause-gone
returns-clause-gone c w after who now dir n cookie name tree at h =
    directory_gone w who now tree dir name n cookie at after (remove_dir_ok w who now dir name after h)
