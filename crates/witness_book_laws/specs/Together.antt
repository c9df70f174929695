-- The books of all members of a beginning.
use Rattle.std.specs.Prelude.{ℕ, ◌==◌, List, [], ◌∷◌, map, Option, Some, None, if◌then◌else◌}
use Rattle.authenticator.specs.declared.member.Member.{Member}
use Rattle.witness_laws.specs.witness_spec.Starting.{Beginning, IsBeginning}
use Rattle.witness_laws.specs.witness_spec.Watched.{watched}
use Rattle.witness_laws.specs.witness_spec.Contract.{AreBooks}
use Rattle.witness_book_laws.specs.Books.{Book, parts_of}
use Rattle.witness_book_laws.specs.Fitting.{FitsTogether, IsOfMember}

-- the book of the member with a number
abbrev pub book_at : List Member → List Book → (node : ℕ) → Option Book
book_at [] books node = None
book_at (m ∷ ms) [] node = None
book_at (m ∷ ms) (b ∷ books) node = if m.node == node then Some b else book_at ms books node

-- the books with another one for the member with a number
abbrev pub with_book_at : List Member → (node : ℕ) → Book → List Book → List Book
with_book_at [] node new books = books
with_book_at (m ∷ ms) node new [] = []
with_book_at (m ∷ ms) node new (b ∷ books) =
    if m.node == node then new ∷ books else b ∷ with_book_at ms node new books

-- Each of these members of a beginning has a book of its own, whose parts fit together.
abbrev pub FitEach : Beginning → List Member → List Book → Type 0
FitEach g [] [] = Unit {0}
FitEach g [] (b ∷ books) = ⊥
FitEach g (m ∷ ms) [] = ⊥
FitEach g (m ∷ ms) (b ∷ books) = IsOfMember (watched g m) b × FitsTogether b × FitEach g ms books

-- Books as a program keeps them: they begin with good bases, each fits together, and all of them stand for a
-- history.
pub record AreKept (g : Beginning) (books : List Book) : Type 0 where
  -- its bases are good, and no two are of one node
  pub begins : IsBeginning g
  -- each fits together
  pub fit : FitEach g g.roster books
  -- they stand for a history
  pub are : AreBooks g (map parts_of books)
