use Rattle.std.proofs.Common.{◌∷◌, decimal, refl}
use Rattle.host_keys.specs.Members.{kind_word}
use Rattle.host_keys.proofs.Steps.{none_some, same_rest, same_three, same_value}
use Rattle.host_keys.proofs.member_line.read_node.Goals as goal

pub returns-in_err-height-clause-only : goal.returns-in_err-height-clause-only
returns-in_err-height-clause-only c p rest is e =
    let s0 = same_rest (c.in_ok-literal.ensures.found refl) e in
    let s1 = c.number.ensures.only p.0 (kind_word p.1 ∷ decimal p.2 ∷ rest) is.0 s0 in
    let s2 = c.read_kind.ensures.only p.1 (decimal p.2 ∷ rest) tt s1.1 in
    let s3 = c.number-2.ensures.only p.2 rest is.1 s2.1 in
    absurd (none_some c.in_err-height.was s3.0)

pub returns-clause-only : goal.returns-clause-only
returns-clause-only c p rest is e =
    let s0 = same_rest (c.in_ok-literal.ensures.found refl) e in
    let s1 = c.number.ensures.only p.0 (kind_word p.1 ∷ decimal p.2 ∷ rest) is.0 s0 in
    let s2 = c.read_kind.ensures.only p.1 (decimal p.2 ∷ rest) tt s1.1 in
    let s3 = c.number-2.ensures.only p.2 rest is.1 s2.1 in (
      same_three (same_value c.in_ok-node.was s1.0) (same_value c.in_ok-kind.was s2.0)
          (same_value c.in_ok-height.was s3.0),
      s3.1,
    )
