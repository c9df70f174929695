-- The numbers and the address in what `nfsacc serve` is asked.
use Rattle.std.specs.Prelude.{◌≡◌, ⊤, ℕ, ◌≤◌, Option, Some, None, [], ◌∷◌, IfSome, IsSome, option_map}
use Rattle.std.specs.Str.Parse.{IsNumeral, digits_value}
use Rattle.std.specs.Net.Addr.{IsLoopbackV4, IsLoopbackV6, MatchIp, ipv4_octets}
use Rattle.std.specs.Net.Grammar.{IsIpText}
use Rattle.std.specs.declared.net.ip_addr.IpAddr.{IpAddr}
use Rattle.clap.specs.Walk.{Text}
use Rattle.authenticator.specs.Roster.{log_number}
use Rattle.command_line.specs.declared.serve.ServeRequest.{ServeRequest}
use Rattle.command_line.specs.declared.serve_numbers.ServeOrder.{ServeOrder}
use Rattle.command_line.specs.declared.serve_numbers.ServeRefusal.{ServeRefusal}
use Rattle.command_line.specs.declared.serve_numbers.ServeRefusal.TheVariants as refusals

-- the text is a number in decimal digits, from the one to the other
abbrev pub IsWithin : ℕ → ℕ → Text → Type 0
IsWithin least most text = IsNumeral 10 text × (least ≤ digits_value 10 text) × (digits_value 10 text ≤ most)

-- the text is such a number, and which
abbrev pub Writes : ℕ → ℕ → Text → ℕ → Type 0
Writes least most text n = IsWithin least most text × (n ≡ digits_value 10 text)

-- the same of an option's word; where it isn't given the number is another
abbrev pub WritesOr : ℕ → ℕ → ℕ → Option Text → ℕ → Type 0
WritesOr least most other None n = n ≡ other
WritesOr least most other (Some text) n = Writes least most text n

-- the same of an option for which no other number stands
abbrev pub WritesIf : ℕ → ℕ → Option Text → Option ℕ → Type 0
WritesIf least most None found = found ≡ None
WritesIf least most (Some text) found = IsSome found × IfSome found (Writes least most text)

-- an option is given, and its word isn't such a number
abbrev pub IsNotWithin : ℕ → ℕ → Option Text → Type 0
IsNotWithin least most None = ⊥
IsNotWithin least most (Some text) = ¬ (IsWithin least most text)

-- only this machine reaches the address
abbrev pub IsLoopback : IpAddr → Type 0
IsLoopback address = MatchIp address IsLoopbackV4 IsLoopbackV6

-- it is 127.0.0.1
abbrev pub IsLocalhost : IpAddr → Type 0
IsLocalhost address = MatchIp address (λ a. ipv4_octets a ≡ 127 ∷ 0 ∷ 0 ∷ 1 ∷ []) (λ _. ⊥)

-- an option is given, and its word is no address
abbrev pub IsNoAddress : Option Text → Type 0
IsNoAddress None = ⊥
IsNoAddress (Some text) = (a : IpAddr) → ¬ (IsIpText text a)

-- an option is given, and its word is an address that others reach
abbrev pub IsOutside : Option Text → Type 0
IsOutside None = ⊥
IsOutside (Some text) = (a : IpAddr) × IsIpText text a × (¬ (IsLoopback a))

-- ---- what comes of a request

-- the order that it makes
pub record Orders (r : ServeRequest) (o : ServeOrder) : Type 0 where
  pub port : Writes 0 65535 r.port.now o.port
  pub connections : Writes 1 16 r.count.now o.options.connections
  pub server : WritesOr 1 15 12 (option_map (λ s. s.now) r.server_height) o.options.heights.server
  pub client : WritesOr 1 15 10 (option_map (λ s. s.now) r.client_height) o.options.heights.client
  pub address : IfSome r.address (λ text. IsIpText text.now o.address)
  pub own : r.address ≡ None → IsLocalhost o.address
  pub guarded : ¬ (IsLoopback o.address) → IsSome r.master
  pub master : o.master ≡ r.master
  pub roster_out : o.options.roster_out ≡ r.roster_out
  pub evidence : o.options.evidence ≡ r.evidence
  pub control : o.control ≡ r.control
  pub idle : WritesIf 1 86400 (option_map (λ s. s.now) r.idle) o.options.idle
  pub log_version : WritesOr 1 2 1 (option_map (λ s. s.now) r.log_version)
      (log_number o.options.log_version)
  pub base_out : o.options.base_out ≡ r.base_out
  pub check_every : WritesIf 1 16384 (option_map (λ s. s.now) r.check_every) o.options.check_every
  pub progress : o.options.progress ≡ r.progress

-- an option isn't given, or its word is a number from the one to the other
abbrev pub IsWithinOr : ℕ → ℕ → Option Text → Type 0
IsWithinOr least most None = ⊤
IsWithinOr least most (Some text) = IsWithin least most text

-- ---- the checks of a request, in their order

-- its port and its count are numbers in their ranges
pub record HasCounts (r : ServeRequest) : Type 0 where
  pub port : IsWithin 0 65535 r.port.now
  pub count : IsWithin 1 16 r.count.now

-- and so are both heights, as far as they are given
pub record HasHeights (r : ServeRequest) : Type 0 where
  pub counts : HasCounts r
  pub server : IsWithinOr 1 15 (option_map (λ s. s.now) r.server_height)
  pub client : IsWithinOr 1 15 (option_map (λ s. s.now) r.client_height)

-- and so are the seconds of silence, if they are given
pub record HasSilence (r : ServeRequest) : Type 0 where
  pub heights : HasHeights r
  pub idle : IsWithinOr 1 86400 (option_map (λ s. s.now) r.idle)

-- and so is the version of the logs, if it is given
pub record HasVersion (r : ServeRequest) : Type 0 where
  pub silence : HasSilence r
  pub log_version : IsWithinOr 1 2 (option_map (λ s. s.now) r.log_version)

-- and so are the calls between two CHECKs, if they are given
pub record HasNumbers (r : ServeRequest) : Type 0 where
  pub version : HasVersion r
  pub check_every : IsWithinOr 1 16384 (option_map (λ s. s.now) r.check_every)

-- why it makes none: the first check that fails
abbrev pub Refuses : ServeRequest → ServeRefusal → Type 0
Refuses r refusals.Port = ¬ (IsWithin 0 65535 r.port.now)
Refuses r refusals.Count = IsWithin 0 65535 r.port.now × (¬ (IsWithin 1 16 r.count.now))
Refuses r refusals.ServerHeight =
    HasCounts r × IsNotWithin 1 15 (option_map (λ s. s.now) r.server_height)
Refuses r refusals.ClientHeight =
    HasCounts r × IsWithinOr 1 15 (option_map (λ s. s.now) r.server_height)
    × IsNotWithin 1 15 (option_map (λ s. s.now) r.client_height)
Refuses r refusals.Idle = HasHeights r × IsNotWithin 1 86400 (option_map (λ s. s.now) r.idle)
Refuses r refusals.LogVersion =
    HasSilence r × IsNotWithin 1 2 (option_map (λ s. s.now) r.log_version)
Refuses r refusals.CheckEvery =
    HasVersion r × IsNotWithin 1 16384 (option_map (λ s. s.now) r.check_every)
Refuses r refusals.Address = HasNumbers r × IsNoAddress (option_map (λ s. s.now) r.address)
Refuses r refusals.Unguarded =
    HasNumbers r × (r.master ≡ None) × IsOutside (option_map (λ s. s.now) r.address)
