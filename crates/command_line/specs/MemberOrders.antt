-- The numbers in what `nfsacc member` is asked.
use Rattle.std.specs.Prelude.{◌≡◌, ◌==◌, ◌≤◌, ◌<◌, ◌⊎◌, ℕ, Option, Some, None, codes, length}
use Rattle.std.specs.Prelude.{option_map}
use Rattle.std.specs.List.{after_first, before_first, position_or_len}
use Rattle.std.specs.Str.Parse.{digits_value}
use Rattle.clap.specs.Walk.{Text}
use Rattle.authenticator.specs.Roster.{log_number}
use Rattle.authenticator.specs.declared.member.Kind.{Kind}
use Rattle.authenticator.specs.declared.member.Kind.TheVariants.{Client, Server}
use Rattle.command_line.specs.ServeOrders.{IsNotWithin, IsWithin, Writes, WritesOr}
use Rattle.command_line.specs.declared.keys.MemberRequest.{MemberRequest}
use Rattle.command_line.specs.declared.member_numbers.MemberOrder.{MemberOrder}
use Rattle.command_line.specs.declared.member_numbers.MemberRefusal.{MemberRefusal}
use Rattle.command_line.specs.declared.member_numbers.MemberRefusal.TheVariants as refusals

-- the word for a kind
abbrev pub kind_word : Kind → Text
kind_word Server = codes "server"
kind_word Client = codes "client"

-- a text is the word for neither
abbrev pub IsNoKind : Text → Type 0
IsNoKind text = (kind : Kind) → text ≡ kind_word kind → ⊥

-- the height of a kind where none is named
abbrev pub default_height : Kind → ℕ
default_height Server = 12
default_height Client = 10

-- what stands before the first `-` (45) of a text, and after it
abbrev pub first_of_range : Text → Text
first_of_range text = before_first (λ b. b == 45) text

abbrev pub last_of_range : Text → Text
last_of_range text = after_first (λ b. b == 45) text

-- a text is two numbers from the one to the other with `-` between, the second no less than the first
pub record IsPair (least most : ℕ) (text : Text) : Type 0 where
  pub dash : position_or_len (λ b. b == 45) text < length text
  pub first : IsWithin least most (first_of_range text)
  pub last : IsWithin least most (last_of_range text)
  pub rising : digits_value 10 (first_of_range text) ≤ digits_value 10 (last_of_range text)

-- which they are
pub record WritesPair (least most : ℕ) (text : Text) (first last : ℕ) : Type 0 where
  pub is : IsPair least most text
  pub first_is : first ≡ digits_value 10 (first_of_range text)
  pub last_is : last ≡ digits_value 10 (last_of_range text)

-- a text is one such number, or two
abbrev pub IsRange : (least most : ℕ) → Text → Type 0
IsRange least most text = IsWithin least most text ⊎ IsPair least most text

-- a text is one number, the first and the last, or it is both
abbrev pub WritesRange : (least most : ℕ) → Text → (first last : ℕ) → Type 0
WritesRange least most text first last =
    (Writes least most text first × (last ≡ first)) ⊎ WritesPair least most text first last

-- the same of an option's word; where it isn't given the numbers are others
abbrev pub WritesRangeOr : (least most a b : ℕ) → Option Text → (first last : ℕ) → Type 0
WritesRangeOr least most a b None first last = (first ≡ a) × (last ≡ b)
WritesRangeOr least most a b (Some text) first last = WritesRange least most text first last

-- an option is given, and its word isn't one such number or two
abbrev pub IsNoRange : (least most : ℕ) → Option Text → Type 0
IsNoRange least most None = ⊥
IsNoRange least most (Some text) = ¬ (IsRange least most text)

-- ---- what comes of a request

-- the order that it makes
pub record OrdersMember (r : MemberRequest) (o : MemberOrder) : Type 0 where
  pub secret : o.secret ≡ r.secret
  pub node : Writes 1 64 r.node.now o.node
  pub kind : r.kind.now ≡ kind_word o.kind
  pub height : WritesOr 1 16 (default_height o.kind) (option_map (λ s. s.now) r.height) o.height
  pub epochs : WritesRangeOr 1 4294967295 1 1 (option_map (λ s. s.now) r.epochs) o.first o.last
  pub log_version : WritesOr 1 2 1 (option_map (λ s. s.now) r.log_version) (log_number o.log_version)

-- its numbers are in their ranges
pub record AreMemberNumbers (o : MemberOrder) : Type 0 where
  pub node : (1 ≤ o.node) × (o.node ≤ 64)
  pub height : (1 ≤ o.height) × (o.height ≤ 16)
  pub first : 1 ≤ o.first
  pub last : o.first ≤ o.last

-- why it makes none
abbrev pub RefusesMember : MemberRequest → MemberRefusal → Type 0
RefusesMember r refusals.Node = ¬ (IsWithin 1 64 r.node.now)
RefusesMember r refusals.Kind = IsNoKind r.kind.now
RefusesMember r refusals.Height = IsNotWithin 1 16 (option_map (λ s. s.now) r.height)
RefusesMember r refusals.Epochs = IsNoRange 1 4294967295 (option_map (λ s. s.now) r.epochs)
RefusesMember r refusals.LogVersion = IsNotWithin 1 2 (option_map (λ s. s.now) r.log_version)
