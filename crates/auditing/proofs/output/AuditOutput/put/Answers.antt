use Rattle.std.proofs.Common.{refl}
use Rattle.auditing.proofs.Putting.{kept-by}
use Rattle.auditing.proofs.output.AuditOutput.put.Goals as goal

pub returns-clause-goes : goal.returns-clause-goes
returns-clause-goes g c =
    rw (← c.self.view_is) (record {
      folder = refl;
      calm = λ h. h;
      kept = kept-by (g.S.Shelf.files c.self.inside.shelf) c.args.name.now c.args.bytes.now
          (g.S.Shelf.files c.put.new.self) c.put.result c.put.ensures.put c.put.ensures.stays;
    })
