use Rattle.nfs_laws.proofs.OfSteps.Making.{make_dir_ok, symlink_ok, create_ok, link_ok}
use Rattle.nfs_laws.proofs.OfChanges.NamedFiles.{made_makes, linked_links}
use Rattle.nfs_laws.proofs.changes.laws.making_keeps_the_rest.Goals as goal

pub returns-clause-create : goal.returns-clause-create
returns-clause-create c w after who now dir number name a tree free h =
    made_makes w who now tree dir name _ number after
    ((create_ok w who now dir name a number after h).fresh free).make

pub returns-clause-make_dir : goal.returns-clause-make_dir
returns-clause-make_dir c w after who now dir number name a tree h =
    made_makes w who now tree dir name _ number after (make_dir_ok w who now dir name a number after h)

pub returns-clause-symlink : goal.returns-clause-symlink
returns-clause-symlink c w after who now dir number name target tree h =
    made_makes w who now tree dir name _ number after (symlink_ok w who now dir name target number after h)

pub returns-clause-link : goal.returns-clause-link
returns-clause-link c w after who now from dir name h =
    linked_links w who now from dir name after (link_ok w who now from dir name after h)
