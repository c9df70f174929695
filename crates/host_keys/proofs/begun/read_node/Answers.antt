use Rattle.std.proofs.Common.{◌∷◌, codes, decimal, refl}
use Rattle.host_keys.specs.Beginnings.{digest_word}
use Rattle.host_keys.proofs.Steps.{none_some, same_rest, same_three, same_value}
use Rattle.host_keys.proofs.begun.read_node.Goals as goal

pub returns-in_err-roster-clause-only : goal.returns-in_err-roster-clause-only
returns-in_err-roster-clause-only c p rest is e =
    let s0 = c.number.ensures.only p.0
    (codes "node" ∷ decimal p.1 ∷ codes "roster" ∷ digest_word p.2 ∷ rest) is.0 e in
    let s1 = same_rest (c.in_ok-literal.ensures.found refl) s0.1 in
    let s2 = c.number-2.ensures.only p.1 (codes "roster" ∷ digest_word p.2 ∷ rest) is.1 s1 in
    let s3 = same_rest (c.in_ok-literal-2.ensures.found refl) s2.1 in
    let s4 = c.read_roster.ensures.only p.2 rest is.2 s3 in
    absurd (none_some c.in_err-roster.was s4.0)

pub returns-clause-only : goal.returns-clause-only
returns-clause-only c p rest is e =
    let s0 = c.number.ensures.only p.0
    (codes "node" ∷ decimal p.1 ∷ codes "roster" ∷ digest_word p.2 ∷ rest) is.0 e in
    let s1 = same_rest (c.in_ok-literal.ensures.found refl) s0.1 in
    let s2 = c.number-2.ensures.only p.1 (codes "roster" ∷ digest_word p.2 ∷ rest) is.1 s1 in
    let s3 = same_rest (c.in_ok-literal-2.ensures.found refl) s2.1 in
    let s4 = c.read_roster.ensures.only p.2 rest is.2 s3 in (
      same_three (same_value c.in_ok-epoch.was s0.0) (same_value c.in_ok-node.was s2.0)
          (same_value c.in_ok-roster.was s4.0),
      s4.1,
    )
