-- Times (RFC 1094, section 2.3.4, timeval).
use Rattle.std.specs.Prelude.{ℕ, Bool, nat_lt, ◌==◌, ◌||◌, ◌&&◌, if◌then◌else◌, refl}
use Rattle.std.specs.Coded.{Coded, code_by, coded×, coded_ℕ}
use Rattle.xdr.specs.Item.{Item, word, pair, Value}

-- seconds since the start of 1970, and microseconds
pub record Timeval : Type 0 where
  pub seconds : ℕ
  pub microseconds : ℕ

-- times are told apart by seconds and microseconds
abbrev pub timeval_code : Coded Timeval
timeval_code =
    code_by (ℕ × ℕ) (coded× coded_ℕ coded_ℕ)
    (λ t. (t.seconds, t.microseconds)) (λ p. record { seconds = p.0; microseconds = p.1 }) (λ _. refl)

-- timeval: seconds and microseconds, a word each
abbrev pub timeval : Item
timeval = pair word word

-- a time as a value of that item
abbrev pub timeval_value : Timeval → Value timeval
timeval_value t = (t.seconds, t.microseconds)

-- whether the first time is before the second
abbrev pub is_before : Timeval → Timeval → Bool
is_before a b =
    nat_lt a.seconds b.seconds || ((a.seconds == b.seconds) && nat_lt a.microseconds b.microseconds)

-- the later of two times
abbrev pub later : Timeval → Timeval → Timeval
later a b = if is_before a b then b else a
