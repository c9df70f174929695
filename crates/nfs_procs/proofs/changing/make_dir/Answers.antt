use Rattle.std.proofs.Common.{subst}
use Rattle.nfs_items.specs.CallerOf.{caller_of}
use Rattle.nfs_items.specs.Attributes.{outcome_of}
use Rattle.file_tree.specs.nfs_types.Results.{dir_op_of}
use Rattle.nfs_laws.specs.nfs_spec.Sattr.{given_fields}
use Rattle.nfs_laws.specs.nfs_spec.NfsCalls.{number_for}
use Rattle.nfs_laws.specs.nfs_spec.Procedures.{make_dir}
use Rattle.nfs_laws.specs.Steps.Granted.{new_directory}
use Rattle.nfs_laws.proofs.OfSteps.Making.{make_dir_ok}
use Rattle.nfs_laws.proofs.OfSteps.AfterEffects.{make_there}
use Rattle.file_tree.specs.Performs.{Does}
use Rattle.nfs_procs.proofs.Told.{handle_told}
use Rattle.nfs_procs.proofs.changing.make_dir.Goals as goal

-- MKDIR answers as its effect says: the stat of a refusal, or the handle and the attributes
pub returns : goal.returns
returns c =
    let fs = c.args.tree.now.files in
    let d = number_for fs c.args.place.dir.0.now in
    let who = caller_of c.args.who.now in
    let a = given_fields c.args.now c.args.attributes.now in (
      tt,
      handle_told fs c.make_dir.new.self.files
          (make_dir fs who c.args.now d c.args.place.name.now a) c.in_ok-made.made
          (outcome_of dir_op_of c.file_after.result)
          (subst (λ k. Does (make_dir fs who c.args.now k c.args.place.name.now a) fs c.in_ok-made.made
          c.make_dir.new.self.files) c.number_for-dir.ensures c.in_ok-made.ensures.effect)
          c.file_after.ensures
          (λ n after is. make_there fs who c.args.now d c.args.place.name.now
          (new_directory who c.args.now a) n after
          (make_dir_ok fs who c.args.now d c.args.place.name.now a n after is)),
    )
