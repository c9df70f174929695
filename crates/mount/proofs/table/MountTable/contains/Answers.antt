use Rattle.std.proofs.Common.{rules, tests, ◌∙◌, ap}
use Rattle.std.specs.Str.{bytes_eq}
use Rattle.std.proofs.lemmas.Iterator.{YieldsList-from_slice}
use Rattle.std.proofs.lemmas.Iterator.Search.{any_from_yields_List}
use Rattle.mount_types.specs.Mounts.{Mounts, root_of, is_listed}
use Rattle.server_spec.proofs.Listed.{is_listed-shown}
use Rattle.mount.proofs.table.MountTable.contains.Goals as goal

-- one of the hosts is this one exactly where its mount is listed
pub returns : goal.returns
returns c =
    any_from_yields_List (λ h. bytes_eq c.args.host.now h.items) _ _ _ c.any.ensures.ran
    (YieldsList-from_slice c.self.inside.hosts.items cc) (λ x b q k. search (rules, tests))
    ∙ is_listed-shown (λ h. h.items) c.args.host.now c.self.inside.hosts.items
    ∙ ap (λ (mounts : Mounts). is_listed mounts (root_of c.args.host.now)) c.self.view_is
