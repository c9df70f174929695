use Rattle.std.proofs.Common.{◌≡◌, ℕ, suc, ◌+◌, ◌∷◌, Vec, Global, drop, ap, sym, ◌∙◌, arith}
use Rattle.std.proofs.Math.Seq.{drop-cons}
use Rattle.std.proofs.lemmas.List.{drop_all}
use Rattle.std.proofs.lemmas.Result.{err_from_is_err_and}
use Rattle.xdr.specs.Item.{Value}
use Rattle.mount_types.specs.Mounts.{root_of}
use Rattle.state_machine.proofs.file_texts.Arrays.{nothing_added, one_added, all_added, part_added}
use Rattle.state_spec.specs.StateItems.{mount_item}
use Rattle.checkpoint.proofs.mounts.add_each.Goals as goal

-- what is said of a machine
abbrev said : Vec ℕ Global → Value mount_item
said host = root_of host.items

pub loop-host-init : goal.loop-host-init
loop-host-init c = nothing_added mount_item said c.args.hosts.now c.args.out.now.items

pub loop-host-preserved : goal.loop-host-preserved
loop-host-preserved c =
    let hosts = c.args.hosts.now in
    let at = c.loop-host.host-index in
    let host = c.host-item.result in
    let next : suc at ≡ at + 1 = omega arith in
    let rest : drop at hosts ≡ host ∷ drop (at + 1) hosts =
    drop-cons hosts at host c.loop-host-test.true
    ∙ ap (λ h. h ∷ drop (suc at) hosts) (sym c.host-item.is) ∙ ap (λ n. host ∷ drop n hosts) next in
    one_added mount_item said hosts (drop at hosts) (drop (at + 1) hosts) host _ _ _ rest
    (rw c.deref.ensures.value at c.in_ok-add_mount.ensures.text)
    (rw c.deref.ensures.value at c.in_ok-add_mount.ensures.fits) c.loop-host.invariant

pub returns : goal.returns
returns c =
    all_added mount_item said _ _ _ _
    (drop_all c.loop-host.host-index c.args.hosts.now c.loop-host-test.false) c.loop-host.invariant

pub returns-in_err-add_mount : goal.returns-in_err-add_mount
returns-in_err-add_mount c =
    let p = err_from_is_err_and c.from_residual.result c.from_residual.ensures.1 in
    rw p.1 (part_added mount_item said _ _ _ _ _ p.0 c.in_err-add_mount.ensures.text c.loop-host.invariant)
