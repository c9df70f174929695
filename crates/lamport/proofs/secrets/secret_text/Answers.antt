use Rattle.std.proofs.Common.{◌≡◌, ◌++◌, ℕ, List, take, length, arith, ap, sym, ◌∙◌, if◌then◌else◌}
use Rattle.std.proofs.lemmas.List.{take_all, take_at}
use Rattle.sha2.specs.Sha256.{sha256}
use Rattle.lamport.specs.Lamport.{secret, word_bytes}
use Rattle.lamport.proofs.secrets.secret_text.Goals as goal

-- the master secret and three numbers are the 44 bytes
pub returns : goal.returns
unfolding secret
returns c =
    let bit : List ℕ = word_bytes (if c.args.bit then 1 else 0) in
    let leaf : List ℕ = word_bytes c.args.leaf in
    let place : List ℕ = word_bytes c.args.place in
    let master : List ℕ = c.copy_from_slice.new.self in
    let size : length master ≡ 32 = omega arith in
    let front = take_at master _ 32 size ∙ c.copy_from_slice.ensures.after in
    let two = c.put_word.ensures ∙ ap (λ (l : List ℕ). l ++ leaf) front in
    let three = c.put_word-2.ensures ∙ ap (λ (l : List ℕ). l ++ place) two in
    let last : word_bytes c.word_of.result ≡ bit = ap word_bytes c.word_of.ensures in
    let whole : take 44 c.put_word-3.new.text ≡ ((c.args.master.now ++ leaf) ++ place) ++ bit =
    c.put_word-3.ensures ∙ (λ i. three i ++ last i) in
    let all : take 44 c.put_word-3.new.text ≡ c.put_word-3.new.text =
    take_all 44 c.put_word-3.new.text (omega arith) in
    ap sha256 (sym whole ∙ all)
