use Rattle.std.proofs.Common.{[]}
use Rattle.nfs_laws.proofs.OfSteps.Setting.{set_ok, write_ok}
use Rattle.nfs_laws.proofs.OfSteps.Making.{create_ok}
use Rattle.nfs_laws.proofs.OfChanges.NamedFiles.{set_becomes, wrote_becomes}
use Rattle.nfs_laws.proofs.changes.laws.setting_keeps_the_rest.Goals as goal

pub returns-clause-set_attributes : goal.returns-clause-set_attributes
returns-clause-set_attributes c w after who now n a h =
    set_becomes w who now n a after (set_ok w who now n a after h)

pub returns-clause-create : goal.returns-clause-create
returns-clause-create c w after who now dir n cookie number name a at h =
    let over = (create_ok w who now dir name a number after h).over n cookie at in
    (over.is_same, over.as_set_attributes)

pub returns-clause-write : goal.returns-clause-write
returns-clause-write c w after who now n offset new some h =
    wrote_becomes w who now n offset new some after (write_ok w who now n offset new after h)

pub returns-clause-nothing : goal.returns-clause-nothing
returns-clause-nothing c w after who now n offset h = (write_ok w who now n offset [] after h).effect
