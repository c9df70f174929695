use Rattle.std.proofs.Common.{Some, None, Ok, refl, sym, ap, subst, ◌∙◌}
use Rattle.nfs_spec.specs.nfs_items.CallerOf.{caller_of}
use Rattle.nfs_spec.proofs.fs_spec.Walks.{none_some}
use Rattle.nfs_spec.specs.ProcedureChecks.{◌>>=◌}
use Rattle.nfs_spec.specs.Procedures.{set_attributes, create}
use Rattle.inode_table.specs.inodes.Given.{given_in}
use Rattle.file_tree.specs.FileChecks.Creates.{DecidesCreate}
use Rattle.file_tree.specs.KeptDigests.{DropsOnly}
use Rattle.file_tree.specs.Performs.{DoesAt, Keeps, changed_by_create, number_if}
use Rattle.nfs_spec.specs.Sattr.{gives_any}
use Rattle.file_tree.proofs.CreatedFiles.{changed_old}
use Rattle.file_tree.proofs.KeptDigests.{files_seen}
use Rattle.file_tree.proofs.tree.Tree.create.Goals as goal

pub create_new-requires-clause-granted : goal.create_new-requires-clause-granted
create_new-requires-clause-granted c =
    let a = given_in c.of-given.result in
    let found : DecidesCreate c.self.inside.table
    (caller_of c.args.who.now) c.args.now c.args.dir c.args.name.now a (Ok c.in-Ok-None.field-0) =
    c.in-Ok-None.ensures c.args.now a refl in
    subst (λ w. DecidesCreate w (caller_of c.args.who.now) c.args.now c.args.dir c.args.name.now a
    (Ok None)) (files_seen c.self.view_is) (rw c.in-Ok-None.field-0-is at found)

pub returns-in-Ok-clause-effect : goal.returns-in-Ok-clause-effect
returns-in-Ok-clause-effect c =
    let a = given_in c.of-given.result in
    let found : DecidesCreate c.self.inside.table
    (caller_of c.args.who.now) c.args.now c.args.dir c.args.name.now a (Ok c.in-Ok-Some.field-0) =
    c.in-Ok-Some.ensures c.args.now a refl in
    let over =
    subst (λ w. DecidesCreate w (caller_of c.args.who.now) c.args.now c.args.dir c.args.name.now a
    (Ok (Some c.in-Ok-Some.number))) (files_seen c.self.view_is) (rw c.in-Ok-Some.field-0-is at found) in
    let set =
    subst (λ r. DoesAt (set_attributes c.args.self.now.files
    (caller_of c.args.who.now) c.args.now c.in-Ok-Some.number a) c.in-Ok-Some.number c.args.self.now.files r
    c.set.new.self.files) c.in-Ok.is
    c.in_ok-_attributes-in-Ok-Some.ensures.effect in
    ap (λ a. create c.args.self.now.files (caller_of c.args.who.now) c.args.now c.args.dir c.args.name.now a)
    (sym c.of-given.ensures)
    ∙ over.1 ∙ ap (λ r. r >>= λ after. Ok (c.in-Ok-Some.number, after.1)) set.0

pub returns-in-Ok-clause-paths : goal.returns-in-Ok-clause-paths
returns-in-Ok-clause-paths c =
    let a = given_in c.of-given.result in
    let found : DecidesCreate c.self.inside.table
    (caller_of c.args.who.now) c.args.now c.args.dir c.args.name.now a (Ok c.in-Ok-Some.field-0) =
    c.in-Ok-Some.ensures c.args.now a refl in
    let over =
    subst (λ w. DecidesCreate w (caller_of c.args.who.now) c.args.now c.args.dir c.args.name.now a
    (Ok (Some c.in-Ok-Some.number))) (files_seen c.self.view_is) (rw c.in-Ok-Some.field-0-is at found) in
    λ none. absurd (none_some (sym none ∙ over.0.1))

-- what SETATTR of the file that has the name drops
pub returns-in-Ok-clause-digests : goal.returns-in-Ok-clause-digests
returns-in-Ok-clause-digests c =
    let a = given_in c.of-given.result in
    let found : DecidesCreate c.self.inside.table
    (caller_of c.args.who.now) c.args.now c.args.dir c.args.name.now a (Ok c.in-Ok-Some.field-0) =
    c.in-Ok-Some.ensures c.args.now a refl in
    let over =
    subst (λ w. DecidesCreate w (caller_of c.args.who.now) c.args.now c.args.dir c.args.name.now a
    (Ok (Some c.in-Ok-Some.number))) (files_seen c.self.view_is) (rw c.in-Ok-Some.field-0-is at found) in
    let kept : DropsOnly (number_if (gives_any a) c.in-Ok-Some.number) c.args.self.now c.set.new.self =
    subst (λ r. Keeps (λ _. number_if (gives_any a) c.in-Ok-Some.number) c.args.self.now r c.set.new.self)
    c.in-Ok.is c.in_ok-_attributes-in-Ok-Some.ensures.digests in
    subst (λ ns. DropsOnly ns c.args.self.now c.set.new.self)
    (sym (changed_old a c.args.self.now.files c.args.dir c.args.name.now c.in-Ok-Some.number _ over.0.1)
    ∙ ap (λ a. changed_by_create a c.args.self.now.files c.args.dir c.args.name.now c.in-Ok-Some.number)
    c.of-given.ensures) kept

pub returns-in-Err-2-clause-effect : goal.returns-in-Err-2-clause-effect
returns-in-Err-2-clause-effect c =
    let a = given_in c.of-given.result in
    let found : DecidesCreate c.self.inside.table
    (caller_of c.args.who.now) c.args.now c.args.dir c.args.name.now a (Ok c.in-Ok-Some.field-0) =
    c.in-Ok-Some.ensures c.args.now a refl in
    let over =
    subst (λ w. DecidesCreate w (caller_of c.args.who.now) c.args.now c.args.dir c.args.name.now a
    (Ok (Some c.in-Ok-Some.number))) (files_seen c.self.view_is) (rw c.in-Ok-Some.field-0-is at found) in
    let set =
    subst (λ r. DoesAt (set_attributes c.args.self.now.files
    (caller_of c.args.who.now) c.args.now c.in-Ok-Some.number a) c.in-Ok-Some.number c.args.self.now.files r
    c.set.new.self.files)
    c.in-Err-2.is c.in_ok-_attributes-in-Ok-Some.ensures.effect in (
      ap (λ a. create c.args.self.now.files (caller_of c.args.who.now) c.args.now c.args.dir c.args.name.now
          a)
          (sym c.of-given.ensures)
          ∙ over.1 ∙ ap (λ r. r >>= λ after. Ok (c.in-Ok-Some.number, after.1)) set.0,
      set.1,
    )
