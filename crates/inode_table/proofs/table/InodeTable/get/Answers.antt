use Rattle.std.proofs.Common.{Bor, Option, Some, None, refl, sym, ap, ◌≡◌, ◌∙◌}
use Rattle.std.specs.Prelude.{IfSome, option_map}
use Rattle.std.specs.Option.{option_copied}
use Rattle.fs_spec.specs.Files.{file_at}
use Rattle.tree_rules.specs.inodes.Inodes.{file_in}
use Rattle.tree_rules.specs.inodes.declared.inode.Inode.{Inode}
use Rattle.tree_rules.proofs.inodes.FilesSeen.{file_seen}
use Rattle.inode_table.proofs.InodesSeen.{is_body, attributes_kept, parent_kept}
use Rattle.inode_table.proofs.table.InodeTable.get.Goals as goal

-- what holds of what is there
if_some : {X : Type 0} (o : Option X) (P : X → Type 0) → ((x : X) → o ≡ Some x → P x) → IfSome o P
if_some (Some x) P h = h x refl
if_some None P h = tt

-- the file of an inode that is lent is the inode's
copied : (o : Option (Bor Inode)) → option_map (λ i. file_in i.now) o ≡ option_map file_in (option_copied o)
copied (Some x) = refl
copied None = refl

pub returns-clause-file : goal.returns-clause-file
returns-clause-file c =
    let inside = c.self.inside in
    copied c.get.result ∙ ap (option_map file_in) c.get.ensures.value
    ∙ sym (file_seen inside.fsid inside.next inside.inodes.entries c.args.number)
    ∙ ap (λ w. file_at w c.args.number) c.self.view_is

pub returns-clause-attributes : goal.returns-clause-attributes
returns-clause-attributes c = if_some c.get.result _ (λ i is.
    attributes_kept c.self.inside c.self.invariant c.args.number
    (sym c.get.ensures.value ∙ ap option_copied is)
    c.self.view_is)

pub returns-clause-parent : goal.returns-clause-parent
returns-clause-parent c = if_some c.get.result _ (λ i is.
    parent_kept c.self.inside c.self.invariant c.args.number
    (sym c.get.ensures.value ∙ ap option_copied is) c.self.view_is)

pub returns-clause-body : goal.returns-clause-body
returns-clause-body c = if_some c.get.result _ (λ i is.
    is_body c.self.inside c.self.invariant c.args.number (sym c.get.ensures.value ∙ ap option_copied is))
