use Rattle.std.proofs.Common.{◌≡◌, ◌+◌, ◌++◌, ℕ, List, take, length, arith, ap, ◌∙◌}
use Rattle.std.proofs.lemmas.Slice.{take-put_mid}
use Rattle.lamport.specs.Lamport.{word_bytes}
use Rattle.lamport.proofs.secrets.put_word.Goals as goal

-- the four bytes follow those before them
pub returns : goal.returns
unfolding word_bytes
returns c =
    let at = c.args.at in
    let bytes = c.copy_from_slice.ensures.after ∙ c.to_be_bytes.ensures in
    let size : length c.copy_from_slice.new.self ≡ 4 = ap length bytes in
    take-put_mid at _ c.args.text.now c.copy_from_slice.new.self (at + 4) (omega arith) (omega arith)
    ∙ ap (λ (l : List ℕ). take at c.args.text.now ++ l) bytes
