use Rattle.std.proofs.Common.{◌≡◌, ◌∷◌, ◌<◌, ℕ, List, length, arith, refl}
use Rattle.std.specs.List.{position_or_len, before_first, after_first}
use Rattle.host_keys.specs.Spent.{lines_of}
use Rattle.host_keys.proofs.SpentText.{is_feed, more_lines, one_line}
use Rattle.host_keys.proofs.spent.Lines.next.Goals as goal

-- the first line and what is left, as a split gives them
first_line : (text line rest : List ℕ)
    → (line ≡ before_first is_feed text) × (rest ≡ after_first is_feed text)
    × (position_or_len is_feed text < length text) → lines_of text ≡ line ∷ lines_of rest
first_line text line rest h = rw (h.0, h.1) (more_lines text h.2)

pub returns-in_err-line-clause-lines : goal.returns-in_err-line-clause-lines
returns-in_err-line-clause-lines c =
    let one = one_line c.args.self.now.rest.now (c.in_err-line.ensures.byte (omega arith) (λ w o f. f)) in
    rw c.from_residual.ensures (one, refl)

pub returns-clause-lines : goal.returns-clause-lines
returns-clause-lines c =
    first_line c.args.self.now.rest.now c.in_ok-line.line.now c.in_ok-line.rest.now
    (c.in_ok-line.ensures.byte (omega arith) (λ w o f. f))
