-- What is known of what may be found.
-- Serves: base_in, run_lines.
use Rattle.std.proofs.Common.{◌≡◌, Option, Some, None, subst}
use Rattle.std.specs.Prelude.{IfNone, IfSome}

-- what is known of a base that was found
pub of_some : {C : Type 0} (o : Option C) (x : C) (is : C → Type 0) → o ≡ Some x → IfSome o is → is x
of_some o x is e h = subst (λ p. IfSome p is) e h

-- what is known where none was found
pub of_none : {C P : Type 0} (o : Option C) → o ≡ None → IfNone o P → P
of_none {C} {P} o e h = subst (λ p. IfNone p P) e h
