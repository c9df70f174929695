use Rattle.std.proofs.Common.{◌≡◌, sym, subst}
use Rattle.std.proofs.lemmas.Bool.{leb-false}
use Rattle.mount_types.specs.Mounts.{AreMounts}
use Rattle.server_spec.proofs.Listed.{mounts_pushed, pushed-shown}
use Rattle.mount.proofs.table.MountTable.push.Goals as goal

pub invariant_of-self-2 : goal.invariant_of-self-2
invariant_of-self-2 c =
    let name : c.in_ok-name.name.items ≡ c.args.host.now =
    c.in_ok-name.ensures.items_if_clones_equal (λ x y h. h) in
    subst AreMounts
    (sym (pushed-shown (λ h. h.items) c.self.inside.hosts.items c.push.new.self.items c.in_ok-name.name
    c.args.host.now c.args.self.now c.in_ok-push.ensures.items name c.self.view_is))
    (mounts_pushed c.args.self.now c.args.host.now
    (subst AreMounts c.self.view_is c.self.invariant) c.requires (sym c.if-contains.ensures)
    (leb-false 40 _ (sym c.if-is_full.ensures)))
