use Rattle.std.proofs.Common.{rules, tests, ◌≡◌, not, map, sym, ap, subst, ◌∙◌}
use Rattle.std.specs.List.{filter}
use Rattle.std.specs.Str.{bytes_eq}
use Rattle.std.proofs.lemmas.Fn.{filter_same}
use Rattle.mount_types.specs.Mounts.{Mounts, root_of, without_mount, without_host, AreMounts}
use Rattle.server_spec.proofs.Listed.{without_mount-shown, without_host-shown, mounts_filtered}
use Rattle.mount.proofs.table.MountTable.remove.Goals as goal

pub returns-clause-root : goal.returns-clause-root
returns-clause-root c =
    let kept : c.retain.new.self.items ≡ filter
    (λ h. not (bytes_eq c.args.host.now h.items)) c.self.inside.hosts.items =
    filter_same _ _ _ (λ x b q k. search (rules, tests)) _ _ c.retain.ensures.filtered in
    ap (map (λ h. root_of h.items)) kept ∙ without_mount-shown
    (λ h. h.items) c.args.host.now c.self.inside.hosts.items
    ∙ ap (λ (mounts : Mounts). without_mount mounts (root_of c.args.host.now)) c.self.view_is

pub returns-clause-all : goal.returns-clause-all
returns-clause-all c =
    let kept : c.retain.new.self.items ≡ filter
    (λ h. not (bytes_eq c.args.host.now h.items)) c.self.inside.hosts.items =
    filter_same _ _ _ (λ x b q k. search (rules, tests)) _ _ c.retain.ensures.filtered in
    ap (map (λ h. root_of h.items)) kept ∙ without_host-shown
    (λ h. h.items) c.args.host.now c.self.inside.hosts.items
    ∙ ap (λ (mounts : Mounts). without_host mounts c.args.host.now) c.self.view_is

pub invariant_of-self : goal.invariant_of-self
invariant_of-self c =
    let kept : c.retain.new.self.items ≡ filter
    (λ h. not (bytes_eq c.args.host.now h.items)) c.self.inside.hosts.items =
    filter_same _ _ _ (λ x b q k. search (rules, tests)) _ _ c.retain.ensures.filtered in
    subst AreMounts (sym (ap (map (λ h. root_of h.items)) kept
    ∙ without_host-shown (λ h. h.items) c.args.host.now c.self.inside.hosts.items))
    (mounts_filtered _ _ c.self.invariant)
