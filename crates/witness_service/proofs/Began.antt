-- Bases that a witness keeps are the same exactly where the bases in memory are.
-- Serves: are_same, began_with, WitnessService::close.
use Rattle.std.proofs.Common.{◌≡◌, ℕ, ◌<◌, List}
use Rattle.std.proofs.Common.{map, get_or, length, sym, ap, ◌∙◌}
use Rattle.std.proofs.lemmas.List.{get_or-map}
use Rattle.witness_books.specs.challenge.KnownBases as bases
use Rattle.witness_books.specs.node_book.Rows.{known_in}

-- a base in memory is told by what a witness keeps of it
pub same_known : (k l : bases.KnownBase) → known_in k ≡ known_in l → k ≡ l
same_known k l e = λ i. record {
  log_version = (e i).parts.log_version;
  showing = (e i).parts.showing;
  at = (e i).parts.at;
  state = (e i).state;
}

-- where the same is made of two lists, the same is made of what stands at one place
pub same_at : {A B : Type 0} (f : A → B) (xs ys : List A) (i : ℕ) (x y : A) → i < length xs → i < length ys
    → x ≡ get_or xs i x → y ≡ get_or ys i y → map f xs ≡ map f ys → f x ≡ f y
same_at f xs ys i x y left right is other e =
    ap f is ∙ (sym (get_or-map f xs i x (f x) left)
    ∙ (ap (λ l. get_or l i (f x)) e ∙ (get_or-map f ys i y (f x) right ∙ sym (ap f other))))
