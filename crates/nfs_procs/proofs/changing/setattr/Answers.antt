use Rattle.std.proofs.Common.{subst}
use Rattle.nfs_items.specs.CallerOf.{caller_of}
use Rattle.nfs_laws.specs.nfs_spec.Sattr.{given_fields}
use Rattle.nfs_laws.specs.nfs_spec.NfsCalls.{number_for}
use Rattle.nfs_laws.specs.nfs_spec.Procedures.{set_attributes}
use Rattle.file_tree.specs.Performs.{DoesAt}
use Rattle.nfs_procs.proofs.Told.{attributes_told}
use Rattle.nfs_procs.proofs.changing.setattr.Goals as goal

-- SETATTR answers as its effect says: the stat of a refusal, or the attributes
pub returns : goal.returns
returns c =
    let fs = c.args.tree.now.files in
    let n = number_for fs c.args.file.0.now in
    let who = caller_of c.args.who.now in
    let a = given_fields c.args.now c.args.attributes.now in (
      tt,
      attributes_told fs c.set_attributes.new.self.files n
          (set_attributes fs who c.args.now n a) c.in_ok-done.done
          (subst (λ k. DoesAt (set_attributes fs who c.args.now k a) k fs c.in_ok-done.done
          c.set_attributes.new.self.files)
          c.number_for-number.ensures c.in_ok-done.ensures.effect),
    )
