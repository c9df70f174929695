use Rattle.std.proofs.Common.{◌<◌, length, sym, ◌∙◌, arith}
use Rattle.std.proofs.lemmas.Bool.Decides.{nat_tests}
use Rattle.mount.proofs.Slashes.{slashes_are_root}
use Rattle.mount.proofs.paths.is_root.Goals as goal

pub returns-then-not-is_empty : goal.returns-then-not-is_empty
returns-then-not-is_empty c =
    let test = c.if-not-is_empty.ensures in
    let more : 0 < length c.args.path.now = grind (arith, nat_tests) in
    c.are_slashes.ensures ∙ sym (slashes_are_root c.args.path.now more)
