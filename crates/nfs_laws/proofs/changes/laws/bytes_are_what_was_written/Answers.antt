use Rattle.nfs_laws.proofs.OfSteps.Setting.{set_ok, write_ok}
use Rattle.nfs_laws.proofs.OfSteps.Making.{create_ok}
use Rattle.nfs_laws.proofs.OfChanges.NamedFiles.{made_makes}
use Rattle.nfs_laws.proofs.OfChanges.BytesWritten.{wrote_bytes, set_bytes, made_bytes}
use Rattle.nfs_laws.proofs.changes.laws.bytes_are_what_was_written.Goals as goal

pub returns-clause-write : goal.returns-clause-write
returns-clause-write c w after who now n offset new some h =
    wrote_bytes w who now n offset new some after (write_ok w who now n offset new after h)

pub returns-clause-set_attributes : goal.returns-clause-set_attributes
returns-clause-set_attributes c w after who now n size a given h =
    set_bytes w who now n size a given after (set_ok w who now n a after h)

pub returns-clause-create : goal.returns-clause-create
returns-clause-create c w after who now dir number size name a tree given free h =
    made_bytes w who now dir name a number size after given
    (made_makes w who now tree dir name _ number after
    ((create_ok w who now dir name a number after h).fresh free).make)
