use Rattle.std.proofs.Common.{◌≡◌, ◌+◌, ◌++◌, ℕ, List, take, length, arith, ap, ◌∙◌}
use Rattle.std.proofs.lemmas.Slice.{take-put_mid}
use Rattle.lamport.proofs.key.put_32.Goals as goal

-- the bytes follow those before them
pub returns : goal.returns
returns c =
    let at = c.args.at in
    let bytes = c.copy_from_slice.ensures.after in
    let size : length c.copy_from_slice.new.self ≡ 32 = omega arith in
    take-put_mid at _ c.args.text.now c.copy_from_slice.new.self (at + 32) (omega arith) (omega arith)
    ∙ ap (λ (l : List ℕ). take at c.args.text.now ++ l) bytes
