use Rattle.nfs_laws.proofs.OfSteps.Setting.{set_ok, write_ok}
use Rattle.nfs_laws.proofs.OfSteps.Making.{create_ok, make_dir_ok, symlink_ok, link_ok}
use Rattle.nfs_laws.proofs.OfSteps.Removing.{remove_ok, remove_dir_ok}
use Rattle.nfs_laws.proofs.OfSteps.Renaming.{rename_ok}
use Rattle.nfs_laws.proofs.steps.laws.granted_changes_pass_their_checks.Goals as goal

pub returns-clause-set_attributes : goal.returns-clause-set_attributes
returns-clause-set_attributes c w after who now n a h = set_ok w who now n a after h

pub returns-clause-write : goal.returns-clause-write
returns-clause-write c w after who now n offset new h = write_ok w who now n offset new after h

pub returns-clause-create : goal.returns-clause-create
returns-clause-create c w after who now dir name a number h = create_ok w who now dir name a number after h

pub returns-clause-make_dir : goal.returns-clause-make_dir
returns-clause-make_dir c w after who now dir name a number h =
    make_dir_ok w who now dir name a number after h

pub returns-clause-symlink : goal.returns-clause-symlink
returns-clause-symlink c w after who now dir name target number h =
    symlink_ok w who now dir name target number after h

pub returns-clause-link : goal.returns-clause-link
returns-clause-link c w after who now from dir name h = link_ok w who now from dir name after h

pub returns-clause-remove : goal.returns-clause-remove
returns-clause-remove c w after who now dir name h = remove_ok w who now dir name after h

pub returns-clause-remove_dir : goal.returns-clause-remove_dir
returns-clause-remove_dir c w after who now dir name h = remove_dir_ok w who now dir name after h

pub returns-clause-rename : goal.returns-clause-rename
returns-clause-rename c w after who now from to from_name to_name h =
    rename_ok w who now from from_name to to_name after h
