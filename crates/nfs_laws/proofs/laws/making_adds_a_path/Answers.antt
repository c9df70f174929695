use Rattle.std.proofs.Common.{refl}
use Rattle.nfs_laws.specs.Steps.Granted.{new_directory, new_link}
use Rattle.nfs_laws.proofs.OfSteps.Making.{create_ok, make_dir_ok, symlink_ok, link_ok}
use Rattle.nfs_laws.proofs.FilesFit.{directory_fits, link_fits}
use Rattle.nfs_laws.proofs.Paths.{make_adds, create_adds, link_adds}
use Rattle.nfs_laws.proofs.laws.making_adds_a_path.Goals as goal

pub returns-clause-create : goal.returns-clause-create
returns-clause-create c w after who now dir name a number tree time is bound h =
    create_adds now time w tree who dir name bound a is number after
    (create_ok w who now dir name a number after h)

pub returns-clause-make_dir : goal.returns-clause-make_dir
returns-clause-make_dir c w after who now dir name a number tree time is bound h =
    make_adds now time w tree who dir name bound (new_directory who now a) refl
    (directory_fits who now time a is) number after
    (make_dir_ok w who now dir name a number after h)

pub returns-clause-symlink : goal.returns-clause-symlink
returns-clause-symlink c w after who now dir name target number tree time bound short h =
    make_adds now time w tree who dir name bound (new_link who now target) refl
    (link_fits who now time target short) number after
    (symlink_ok w who now dir name target number after h)

pub returns-clause-link : goal.returns-clause-link
returns-clause-link c w after who now from dir name tree time bound h =
    link_adds now time w tree who from dir name bound after (link_ok w who now from dir name after h)
