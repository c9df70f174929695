-- What an option's two cases say.
-- Serves: state_of, read_state.
use Rattle.std.proofs.Common.{◌≡◌, Option, Some, None, subst}
use Rattle.std.specs.Prelude.{MatchOption}

module _ {A : Type 0} (N : Type 0) (P : A → Type 0) where
  -- of none
  pub when_none : (o : Option A) → MatchOption o N P → o ≡ None → N
  when_none o h e = subst (λ o. MatchOption o N P) e h

  -- of one
  pub when_some : (o : Option A) (a : A) → MatchOption o N P → o ≡ Some a → P a
  when_some o a h e = subst (λ o. MatchOption o N P) e h
