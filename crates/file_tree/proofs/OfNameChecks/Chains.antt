-- Checks in a row.
-- Serves: `check_remove`, `check_remove_dir`, `check_rename`.
use Rattle.std.proofs.Common.{◌≡◌, Result, Ok, Err, refl}
use Rattle.std.specs.Result.{result_map_both}
use Rattle.nfs_spec.specs.nfs_items.declared.stat.Stat.{Stat}
use Rattle.nfs_spec.specs.ProcedureChecks.{◌>>=◌}

-- of checks in a row, the first ones may be taken together
pub bind_assoc : {A B C : Type 0} (r : Result A Stat) (f : A → Result B Stat) (g : B → Result C Stat)
    → ((r >>= f) >>= g) ≡ (r >>= (λ x. f x >>= g))
bind_assoc (Ok x) f g = refl
bind_assoc (Err e) f g = refl

-- what follows a check may be written in another way
pub bind_alike : {A B : Type 0} (r : Result A Stat) (f g : A → Result B Stat) → ((x : A) → f x ≡ g x)
    → (r >>= f) ≡ (r >>= g)
bind_alike (Ok x) f g same = same x
bind_alike (Err e) f g same = refl

-- what a granted check gives may be taken in another way
pub map_bind : {A B C : Type 0} (h : B → C) (r : Result A Stat) (f : A → Result B Stat)
    → result_map_both h (λ e. e) (r >>= f) ≡ (r >>= (λ x. result_map_both h (λ e. e) (f x)))
map_bind h (Ok x) f = refl
map_bind h (Err e) f = refl

-- the same after three tests
pub map_tests : {A B : Type 0} (h : A → B) (a b c : Result (Unit {0}) Stat) (x : A)
    → result_map_both h (λ e. e) (a >>= (λ _. b >>= (λ _. c >>= (λ _. Ok x))))
    ≡ (a >>= (λ _. b >>= (λ _. c >>= (λ _. Ok (h x)))))
map_tests h (Ok u) (Ok v) (Ok w) x = refl
map_tests h (Ok u) (Ok v) (Err e) x = refl
map_tests h (Ok u) (Err e) c x = refl
map_tests h (Err e) b c x = refl

-- two maps in a row are one
pub map_twice : {A B C : Type 0} (g : B → C) (h : A → B) (r : Result A Stat)
    → result_map_both g (λ e. e) (result_map_both h (λ e. e) r) ≡ result_map_both (λ x. g (h x)) (λ e. e) r
map_twice g h (Ok x) = refl
map_twice g h (Err e) = refl
