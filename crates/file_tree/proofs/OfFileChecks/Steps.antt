-- Steps of a procedure, one after the other: each is passed, or stops it.
-- Serves: the checks of all calls here.
use Rattle.std.proofs.Common.{◌≡◌, Bool, true, false, Result, Ok, Err, refl, sym, ap, ◌∙◌}
use Rattle.std.specs.Prelude.{◌↔◌}
use Rattle.nfs_spec.specs.nfs_items.declared.stat.Stat.{Stat}
use Rattle.nfs_spec.specs.fs_spec.Files.{Files}
use Rattle.nfs_spec.specs.ProcedureChecks.{◌>>=◌, check}
use Rattle.nfs_spec.specs.Changes.{Effect}
use Rattle.file_tree.specs.FileChecks.Decides.{Decides, IsCheckOf}

-- a step that is passed leaves the next
pub passes : {A B : Type 0} (r : Result A Stat) (x : A) (k : A → Result B Stat) (y : Result B Stat)
    → r ≡ Ok x → k x ≡ y → (r >>= k) ≡ y
passes r x k y is next = ap (λ r. r >>= k) is ∙ next

-- a step that is refused is the last
pub stops : {A B : Type 0} (r : Result A Stat) (e : Stat) (k : A → Result B Stat) → r ≡ Err e
    → (r >>= k) ≡ Err e
stops r e k is = ap (λ r. r >>= k) is

-- the check of a condition, by the test that tells it
pub told : (b : Bool) {P : Type 0} (e : Stat) (r : Result (Unit {0}) Stat) → (b ≡ true) ↔ P → IsCheckOf P e r
    → check b e ≡ r
told true e (Ok u) iff holds = refl
told true e (Err s) iff fails = absurd (fails.1 (iff.0 refl))
told false e (Ok u) iff holds = absurd (ft (iff.1 holds))
  where
    ft : false ≡ true → ⊥
    ft h = cc
told false e (Err s) iff fails = ap (λ s. Err s) (sym fails.0)

-- the last check decides
pub decides : {A : Type 0} (effect : Effect A) (r : Result (Unit {0}) Stat) (x : A × Files)
    → effect ≡ (r >>= λ _. Ok x) → Decides effect r
decides effect (Ok u) x is = (x, is)
decides effect (Err e) x is = is
