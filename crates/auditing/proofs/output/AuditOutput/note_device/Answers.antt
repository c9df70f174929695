use Rattle.std.proofs.Common.{refl}
use Rattle.auditing.proofs.output.AuditOutput.note_device.Goals as goal

pub returns-clause-goes : goal.returns-clause-goes
returns-clause-goes g c =
    rw (← c.self.view_is) (record {
      folder = refl;
      calm = λ h. absurd (c.or_device-self-inside.ensures h);
      kept = λ name bytes h. h;
    })

pub returns-clause-noted : goal.returns-clause-noted
returns-clause-noted g c = c.or_device-self-inside.ensures
