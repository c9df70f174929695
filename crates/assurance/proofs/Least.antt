-- The least of some numbers, with one more.
-- Serves: lesser, leave_out, hand_out.
use Rattle.std.proofs.Common.{◌≡◌, ℕ, zero, suc, ◌<◌, ◌≤◌, List, ◌∷◌, Option, Some, None, refl, sym, ap, subst, ◌∙◌, arith}
use Rattle.std.specs.Prelude.{option_map}
use Rattle.std.proofs.lemmas.List.Elements.{All-cons, All-weaker}
use Rattle.assurance.specs.Assured.{LastAnswer, leaving_out}
use Rattle.assurance.specs.Keeping.{IsLast, IsLeast}
use Rattle.assurance.specs.declared.assured.Answer.{Answer}

-- one that isn't less leaves it
pub keeps_least : (xs : List ℕ) (m n : ℕ) → IsLeast xs (Some m) → m < n → IsLeast (n ∷ xs) (Some m)
keeps_least xs m n h less =
    let there = h.1 in
    (All-cons (λ k. m ≤ k) n xs (omega (arith, less)) h.0, (suc there.0, omega (arith, there.1), there.2))

-- one that isn't greater is it
pub new_least : (xs : List ℕ) (m n : ℕ) → IsLeast xs (Some m) → n ≤ m → IsLeast (n ∷ xs) (Some n)
new_least xs m n h less = (
  All-cons (λ k. n ≤ k) n xs (omega arith)
      (All-weaker (λ k. m ≤ k) (λ k. n ≤ k) (λ k low. omega (arith, low, less)) xs h.0),
  (zero, omega arith, refl),
)

-- an answer that leaves out one more
pub kept_less : (n : ℕ) (a : Option LastAnswer) (last : Option Answer) (kept new : Answer) → IsLast a last
    → last ≡ Some kept → new.is_exposed ≡ kept.is_exposed → new.end ≡ kept.end
    → ((xs : List ℕ) → IsLeast xs kept.left_out → IsLeast (n ∷ xs) new.left_out)
    → IsLast (option_map (leaving_out n) a) (Some new)
kept_less n None None kept new h is same end least = absurd cc
kept_less n None (Some last) kept new h is same end least = absurd h
kept_less n (Some a) None kept new h is same end least = absurd h
kept_less n (Some a) (Some last) kept new h is same end least =
    let one : last ≡ kept = cc in
    let exposed : last.is_exposed ≡ kept.is_exposed = ap (λ (x : Answer). x.is_exposed) one in
    record {
      exposed = same ∙ sym exposed ∙ h.exposed;
      end = end ∙ sym (ap (λ (x : Answer). x.end) one) ∙ h.end;
      least = least a.out (subst (λ (x : Answer). IsLeast a.out x.left_out) one h.least);
    }
