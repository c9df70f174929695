use Rattle.std.proofs.Common.{◌≡◌, ◌++◌, List, ℕ, subst}
use Rattle.std.specs.Prelude.{IfOk, codes, string_bytes}
use Rattle.gateway_process.proofs.status.progress_line.Goals as goal

-- the words are those of what is assured
pub returns : goal.returns
returns c =
    subst (λ (words : List ℕ). IfOk c.format.result (λ line. string_bytes line ≡ codes "nfsacc: witness "
    ++ (c.args.address.now ++ (codes ": " ++ (words ++ codes "\n"))))) c.in_ok-words.ensures c.format.ensures.ok
