-- Where a member's book is, and what a change of it alone leaves.
use Rattle.std.specs.Prelude.{◌≡◌, ℕ, ◌+◌, ◌==◌, List, [], ◌∷◌, length, Option, Some, None, if◌then◌else◌}
use Rattle.authenticator.specs.declared.member.Member.{Member}
use Rattle.node_book.specs.witness_book_laws.Books.{Book}
use Rattle.node_book.specs.witness_book_laws.Together.{book_at, with_book_at}
use Rattle.node_book.specs.witness_book_laws.Ready.{IsReady, IsOfLog}
use Rattle.node_book.specs.witness_spec.Steps.{Step}

-- the place of the member with a number, where the first place is this
abbrev pub place_from : (first : ℕ) → List Member → (node : ℕ) → Option ℕ
place_from first [] node = None
place_from first (m ∷ ms) node = if m.node == node then Some first else place_from (first + 1) ms node

-- The book of the member with a number can make a step.
pub record CanStep (ms : List Member) (node : ℕ) (books : List Book) (step : Step) : Type 0 where
  -- there is a book for each member
  pub each : length books ≡ length ms
  -- its book can make steps
  pub ready : (b : Book) → book_at ms books node ≡ Some b → IsReady b
  -- a segment that the step gives is of its log
  pub of_log : (b : Book) → book_at ms books node ≡ Some b → IsOfLog b.log_version step

-- The book of the member with a number did this, and the others stayed.
pub record OneDoes (ms : List Member) (node : ℕ) (old : List Book) (Does : Book → Book → Type 0)
    (new : List Book) : Type 0 where
  -- its book
  pub book : Book
  -- it is among them
  pub there : book_at ms old node ≡ Some book
  -- its book after that
  pub after : Book
  -- what it did
  pub does : Does book after
  -- the books with that one
  pub are : new ≡ with_book_at ms node after old
