-- What is offered by a node that gives no base, or gives one.
-- Serves: base_above.
use Rattle.std.proofs.Common.{◌≡◌, ℕ, ◌+◌, ◌<◌, ◌≤◌, Bool, true, false, nat_lt, None, refl, subst, arith}
use Rattle.std.proofs.lemmas.Bool.Decides.{nat_tests}
use Rattle.secure_log.specs.LogEntries.Chain.{span}
use Rattle.node_logs.specs.Nodes.{NodeParts}
use Rattle.hosting.specs.BaseGiving.{HasNone, Offers, no_base}

-- the next number is above those before it
pub later : (after number : ℕ) → after ≤ number → after < number + 1
later after number past = omega arith

pub past_one : (after number : ℕ) → after ≤ number → after ≤ number + 1
past_one after number past = omega arith

-- none at the next number either
pub one_more : (n : NodeParts) (after number : ℕ) → ((k : ℕ) → after < k → k ≤ number → HasNone n k)
    → HasNone n (number + 1) → (k : ℕ) → after < k → k ≤ number + 1 → HasNone n k
one_more n after number none last k above within = by (nat_lt number k) refl
  where
    by : (b : Bool) → nat_lt number k ≡ b → HasNone n k
    by true e =
        let past : number < k = grind (arith, nat_tests) in
        let is : number + 1 ≡ k = omega (arith, past, within) in
        subst (HasNone n) is last
    by false e = let low : k ≤ number = grind (arith, nat_tests) in none k above low

up_to : (at number last end : ℕ) → at ≤ end → last ≡ end → last ≤ number → at ≤ number
up_to at number last end within is ended = omega (arith, within, is, ended)

pub none_above : (n : NodeParts) (after number last : ℕ) → last ≡ span n.entries → last ≤ number
    → ((at : ℕ) → after < at → at ≤ number → HasNone n at) → Offers n after None
none_above n after number last is ended none =
    no_base (λ at above within. none at above (up_to at number last (span n.entries) within is ended)) refl
