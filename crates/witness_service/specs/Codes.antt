-- Codes of claims, passes and journals, by which a proof tells them apart.
use Rattle.std.specs.Prelude.{ℕ, List, refl}
use Rattle.std.specs.Coded.{Coded, code_by, coded×, coded_ℕ, coded_list}
use Rattle.authenticator.specs.declared.member.Member.{Member}
use Rattle.authenticator.specs.contracts.member.Member as members
use Rattle.witness_books.specs.Books.{BooksParts, books_code}
use Rattle.witness_books.specs.node_book.BookCodes.{base_code}
use Rattle.witness_books.specs.node_book.NoteCodes.{note_code}
use Rattle.witness_books.specs.witness_spec.Starting.{KnownBase}
use Rattle.witness_books.specs.witness_spec.Events.{Event}
use Rattle.witness_books.specs.witness_spec.Replies.{Reply}
use Rattle.witness_service.specs.Claims.{Claim, Held}
use Rattle.witness_service.specs.Journals.{JournalParts, ServiceParts}

-- of a claim
abbrev pub claim_code : Coded Claim
claim_code =
    code_by (ℕ × (Event × Reply)) (coded× coded_ℕ note_code) (λ c. (c.place, c.step))
    (λ p. record { place = p.0; step = p.1 }) (λ _. refl)

-- of a pass
abbrev pub held_code : Coded Held
held_code =
    code_by (List Claim × ℕ) (coded× (coded_list claim_code) coded_ℕ) (λ h. (h.claims, h.read))
    (λ p. record { claims = p.0; read = p.1 }) (λ _. refl)

-- of a journal
abbrev pub journal_code : Coded JournalParts
journal_code =
    code_by (BooksParts × List (Event × Reply)) (coded× books_code (coded_list note_code))
    (λ j. (j.books, j.places)) (λ p. record { books = p.0; places = p.1 }) (λ _. refl)

-- of what a service says
abbrev pub service_code : Coded ServiceParts
service_code =
    code_by (List Member × List KnownBase) (coded× (coded_list members.the_row.coded) (coded_list base_code))
    (λ s. (s.beginning.roster, s.beginning.bases))
    (λ p. record { beginning = record { roster = p.0; bases = p.1 } }) (λ _. refl)
