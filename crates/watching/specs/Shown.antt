-- What a witness keeps: its books, and what each member showed last.
use Rattle.std.specs.Prelude.{◌≡◌, ◌⊎◌, ◌==◌, ℕ, Bool, true, nat_lt, List, [], ◌∷◌, option_map, refl}
use Rattle.std.specs.Prelude.{Option, Some, None, if◌then◌else◌}
use Rattle.std.specs.Coded.{Coded, code_by, coded×, coded_list, coded_option}
use Rattle.authenticator.specs.Numbers.{number_in}
use Rattle.authenticator.specs.Signed.{authenticator_value}
use Rattle.authenticator.specs.declared.authenticator.Authenticator.{Authenticator}
use Rattle.authenticator.specs.declared.member.LogVersion.{LogVersion}
use Rattle.authenticator.specs.declared.member.Member.{Member}
use Rattle.peer_calls.specs.NodeRequests.{shown_at}
use Rattle.witness_books.specs.node_book.BookCodes.{authenticator_code}
use Rattle.witness_books.specs.Books.{BooksParts, books_code}
use Rattle.watching.specs.declared.deliver.Delivered.{Delivered}
use Rattle.watching.specs.declared.deliver.Delivered.TheVariants as d

-- Books, and for each member, in the order of the roster, the authenticator with the greatest number of those that
-- were handed in and not refused, if there is one.
pub record StandingParts : Type 0 where
  pub books : BooksParts
  pub shown : List (Option Authenticator)

-- of such
abbrev pub standing_code : Coded StandingParts
standing_code =
    code_by (BooksParts × List (Option Authenticator))
    (coded× books_code (coded_list (coded_option authenticator_code))) (λ s. (s.books, s.shown))
    (λ p. record { books = p.0; shown = p.1 }) (λ _. refl)

-- whether the number of an authenticator is greater than that of what was shown before
abbrev pub is_later : LogVersion → Option Authenticator → Authenticator → Bool
is_later version None a = true
is_later version (Some before) a = nat_lt (number_in version before.word) (number_in version a.word)

-- the later of the two
abbrev pub later : LogVersion → Option Authenticator → Authenticator → Option Authenticator
later version before a = if is_later version before a then Some a else before

-- what members showed last, after one more authenticator
abbrev pub with_shown : List Member → Authenticator → List (Option Authenticator) → List (Option Authenticator)
with_shown [] a shown = shown
with_shown (m ∷ ms) a [] = []
with_shown (m ∷ ms) a (s ∷ shown) =
    if m.node == a.node then later m.log_version s a ∷ shown else s ∷ with_shown ms a shown

-- what a node showed last
abbrev pub shown_in : List Member → (node : ℕ) → List (Option Authenticator) → Option Authenticator
shown_in [] node shown = None
shown_in (m ∷ ms) node [] = None
shown_in (m ∷ ms) node (s ∷ shown) = if m.node == node then s else shown_in ms node shown

abbrev pub last_shown : StandingParts → (node : ℕ) → Option Authenticator
last_shown s node = shown_in s.books.roster node s.shown

-- what is kept after a packet
abbrev pub with_packet : List Member → Option Authenticator → List (Option Authenticator)
    → List (Option Authenticator)
with_packet ms None shown = shown
with_packet ms (Some a) shown = with_shown ms a shown

-- The authenticator is that of the packet, if it is a packet with one.
abbrev pub IsPacketOf : (packet : List ℕ) → Option Authenticator → Type 0
IsPacketOf packet a = option_map authenticator_value a ≡ shown_at packet

-- A packet that became this leaves what was shown so: its authenticator counts where it wasn't refused.
abbrev pub Notes : (old : StandingParts) → (packet : List ℕ) → Delivered → (new : StandingParts) → Type 0
Notes old packet d.Taken new =
    (a : Option Authenticator) × IsPacketOf packet a × (new.shown ≡ with_packet old.books.roster a old.shown)
Notes old packet d.Already new =
    (a : Option Authenticator) × IsPacketOf packet a × (new.shown ≡ with_packet old.books.roster a old.shown)
Notes old packet (d.Refused refusal) new = new.shown ≡ old.shown

-- Where memory was refused it may have been noted.
abbrev pub MayNote : (old : StandingParts) → (packet : List ℕ) → (new : StandingParts) → Type 0
MayNote old packet new =
    (new.shown ≡ old.shown) ⊎ ((became : Delivered) × Notes old packet became new)
