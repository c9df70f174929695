-- Where no log was audited yet.
-- Serves: open, start.
use Rattle.std.proofs.Common.{◌≡◌, ℕ, List, [], ◌∷◌, map, length, replicate, refl, sym, ap, ap₂, ◌∙◌}
use Rattle.authenticator.specs.declared.member.Member.{Member}
use Rattle.witness_spec.specs.Contract.{starting_book, starting_books}
use Rattle.witness_spec.specs.Starting.{Beginning, KnownBase, base_of, from_the_first, start_number}
use Rattle.witness_books.specs.Books.{BooksParts, beginning_of, parts_in}
use Rattle.witness_books.specs.Starts.{base_at}
use Rattle.watching.specs.Ends.{ends_of}

-- each number is 0
zeros : (roster ms : List Member)
    → replicate (length ms) 0 ≡ ends_of
    (map (λ m. starting_book m (base_of (from_the_first roster) m.node)) ms)
zeros roster [] = refl
zeros roster (m ∷ ms) = ap (λ (ends : List ℕ). 0 ∷ ends) (zeros roster ms)

pub opening_ends : (roster : List Member)
    → replicate (length roster) 0 ≡ ends_of (starting_books (from_the_first roster))
opening_ends roster = zeros roster roster

-- each number is that of the member's base, or 0
starts : (g : Beginning) (ms : List Member)
    → map (λ m. start_number (base_of g m.node)) ms ≡ ends_of (map (λ m. starting_book m (base_of g m.node)) ms)
starts g [] = refl
starts g (m ∷ ms) = ap (λ (ends : List ℕ). start_number (base_of g m.node) ∷ ends) (starts g ms)

starting_ends : (g : Beginning)
    → map (λ m. start_number (base_of g m.node)) g.roster ≡ ends_of (starting_books g)
starting_ends g = starts g g.roster

pub start_ends : (b : BooksParts) (members : List Member) (bases : List KnownBase) (ends : List ℕ)
    → members ≡ b.roster → bases ≡ b.bases
    → ends ≡ map (λ m. start_number (base_at bases m.node)) members
    → parts_in b ≡ starting_books (beginning_of b) → ends ≡ ends_of (parts_in b)
start_ends b members bases ends ms bs is opening =
    is
    ∙ (ap₂ (λ (x : List Member) (y : List KnownBase). map (λ m. start_number (base_at y m.node)) x) ms bs
    ∙ (starting_ends (beginning_of b) ∙ sym (ap ends_of opening)))
