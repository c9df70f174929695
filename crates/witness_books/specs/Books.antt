-- What a witness's books say: those of all members of a roster, each from its base if it has one.
use Rattle.std.specs.Prelude.{Bool, true, false, List, map, refl}
use Rattle.std.specs.Arc.{arc_value}
use Rattle.std.specs.Global.{Global}
use Rattle.std.specs.declared.sync.Arc.{Arc}
use Rattle.std.specs.Coded.{Coded, code_by, coded×, coded_list}
use Rattle.authenticator.specs.Roster.{IsRoster}
use Rattle.authenticator.specs.declared.member.Member.{Member}
use Rattle.authenticator.specs.contracts.member.Member as members
use Rattle.node_book.specs.challenge.KnownBases as bases
use Rattle.node_book.specs.witness_spec.Replies.{Reply}
use Rattle.node_book.specs.witness_spec.Replies as replies
use Rattle.node_book.specs.witness_spec.Starting.{KnownBase, Beginning, base_of}
use Rattle.node_book.specs.witness_spec.Histories.{BookParts}
use Rattle.node_book.specs.witness_book_laws.Books.{Book, book_starting, parts_of}
use Rattle.node_book.specs.witness_book_laws.Ready.{AreReady}
use Rattle.node_book.specs.BookCodes.{base_code, book_code}
use Rattle.node_book.specs.Rows.{known_in}

-- A roster, the bases of some of its members, and the members' books in the roster's order.
pub record BooksParts : Type 0 where
  -- the roster
  pub roster : List Member
  -- the bases
  pub bases : List KnownBase
  -- a book for each member
  pub books : List Book

-- of a roster, bases and books
abbrev pub books_code : Coded BooksParts
books_code =
    code_by (List Member × (List KnownBase × List Book))
    (coded× (coded_list members.the_row.coded) (coded× (coded_list base_code) (coded_list book_code)))
    (λ b. (b.roster, (b.bases, b.books)))
    (λ p. record { roster = p.0; bases = p.1.0; books = p.1.1 }) (λ _. refl)

-- what they began with
abbrev pub beginning_of : BooksParts → Beginning
beginning_of b = record { roster = b.roster; bases = b.bases }

-- bases as they are shared
abbrev pub bases_in : List (Arc bases.KnownBase Global) → List KnownBase
bases_in shared = map (λ b. known_in (arc_value b)) shared

-- a roster with bases as they are shared, as what books began with
abbrev pub beginning_in : List Member → List (Arc bases.KnownBase Global) → Beginning
beginning_in ms shared = record { roster = ms; bases = bases_in shared }

-- the books, as what they must hold is said
abbrev pub parts_in : BooksParts → List BookParts
parts_in b = map parts_of b.books

-- the books of a beginning's members before any step, each from its base if it has one
abbrev pub books_at_first : Beginning → List Book
books_at_first g = map (λ m. book_starting m (base_of g m.node)) g.roster

-- The reply is a refusal.
abbrev pub is_refusal : Reply → Bool
is_refusal (replies.Refused refusal) = true
is_refusal (replies.FileRefused refusal d) = true
is_refusal (replies.PutBackRefused refusal j) = true
is_refusal _ = false

-- What the type of books keeps.
pub record KeepsBooks (b : BooksParts) : Type 0 where
  -- the roster is one
  pub roster : IsRoster b.roster
  -- the bases are good, no two of one node, and the members' books can make their steps
  pub ready : AreReady (beginning_of b) b.books
