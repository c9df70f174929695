use Rattle.std.proofs.Common.{subst}
use Rattle.nfs_items.specs.CallerOf.{caller_of}
use Rattle.nfs_laws.specs.nfs_spec.NfsCalls.{number_for}
use Rattle.nfs_laws.specs.nfs_spec.Procedures.{write}
use Rattle.file_tree.specs.Performs.{DoesAt}
use Rattle.nfs_procs.proofs.Told.{attributes_told}
use Rattle.nfs_procs.proofs.changing.write.Goals as goal

-- WRITE answers as its effect says: the stat of a refusal, or the attributes
pub returns : goal.returns
returns c =
    let fs = c.args.tree.now.files in
    let n = number_for fs c.args.file.0.now in
    let who = caller_of c.args.who.now in (
      tt,
      attributes_told fs c.write.new.self.files n (write fs who c.args.now n c.args.offset c.args.bytes.now)
          c.in_ok-done.done
          (subst (λ k. DoesAt (write fs who c.args.now k c.args.offset c.args.bytes.now) k fs
          c.in_ok-done.done c.write.new.self.files)
          c.number_for-number.ensures c.in_ok-done.ensures.effect),
    )
