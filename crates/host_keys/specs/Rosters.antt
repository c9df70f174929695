-- Member lines together, and the rosters that they make.
use Rattle.std.specs.Prelude.{◌≡◌, ◌==◌, ⊤, ◌++◌, ◌⊎◌, ℕ, zero, suc, Bool, true, ◌&&◌, nat_lt, List, [], ◌∷◌}
use Rattle.std.specs.Prelude.{Option, Some, None, IsSome, IsTrue, if◌then◌else◌, option_to_list}
use Rattle.std.specs.List.{AllByRecursion, list_any}
use Rattle.authenticator.specs.declared.member.Member.{Member}
use Rattle.authenticator.specs.declared.member.TheConstants.{MAX_NODE}
use Rattle.host_keys.specs.Members.{IsMemberLine, member_text}
use Rattle.host_keys.specs.declared.member_line.MemberLine.{MemberLine}
use Rattle.host_keys.specs.declared.member_lines.Lacking.{Lacking}
use Rattle.host_keys.specs.declared.member_lines.LineFault.{LineFault}
use Rattle.host_keys.specs.declared.member_lines.LineFault.TheVariants.{Bad, Otherwise, NoMemory}

-- the member that the first line says with a number in an epoch
abbrev pub member_at : List MemberLine → (epoch node : ℕ) → Option Member
member_at [] epoch node = None
member_at (l ∷ ls) epoch node =
    if (l.epoch == epoch) && (l.member.node == node) then Some l.member else member_at ls epoch node

-- some line says a number
abbrev pub has_node : List MemberLine → ℕ → Bool
has_node ls node = list_any (λ l. l.member.node == node) ls

-- some line is of an epoch
abbrev pub HasEpoch : List MemberLine → ℕ → Type 0
HasEpoch ls epoch = IsTrue (list_any (λ l. l.epoch == epoch) ls)

-- ---- a line more

-- A line is taken once: nothing changes where it was taken before, else it stands last, as the first of its
-- number
-- and epoch.
abbrev pub Adds : List MemberLine → MemberLine → List MemberLine → Type 0
Adds before l after =
    ((member_at before l.epoch l.member.node ≡ Some l.member) × (after ≡ before))
    ⊎ ((member_at before l.epoch l.member.node ≡ None) × (after ≡ before ++ (l ∷ [])))

-- why a line isn't taken
abbrev pub LineRefused : List MemberLine → List ℕ → LineFault → Type 0
LineRefused before text Bad = (l : MemberLine) → IsMemberLine l → text ≡ member_text l → ⊥
LineRefused before text Otherwise =
    (l : MemberLine) × IsMemberLine l × (text ≡ member_text l)
    × (m : Member) × (member_at before l.epoch l.member.node ≡ Some m) × (m ≡ l.member → ⊥)
LineRefused before text NoMemory = ⊤

-- ---- which numbers are there

-- a number that some line says is said in this epoch
abbrev pub IsIn : List MemberLine → (epoch node : ℕ) → Type 0
IsIn ls epoch node = has_node ls node ≡ true → IsSome (member_at ls epoch node)

-- a number that some line says, and none in an epoch of which there are others
pub record IsLacking (ls : List MemberLine) (k : Lacking) : Type 0 where
  pub epoch : HasEpoch ls k.epoch
  pub node : has_node ls k.node ≡ true
  pub absent : member_at ls k.epoch k.node ≡ None

-- each epoch with a line has all numbers that lines say
abbrev pub AreComplete : List MemberLine → Type 0
AreComplete ls = AllByRecursion (λ l. (node : ℕ) → IsIn ls l.epoch node) ls

-- ---- epochs by rising numbers

-- an epoch is after a number, and before another one, if there is one
abbrev pub is_nearer : (number epoch : ℕ) → Option ℕ → Bool
is_nearer n epoch None = nat_lt n epoch
is_nearer n epoch (Some other) = nat_lt n epoch && nat_lt epoch other

-- the nearest of those of lines and another one
abbrev pub epoch_from : ℕ → Option ℕ → List MemberLine → Option ℕ
epoch_from n best [] = best
epoch_from n best (l ∷ ls) = epoch_from n (if is_nearer n l.epoch best then Some l.epoch else best) ls

-- ---- rosters

-- the members with numbers up to one, by rising numbers
unfoldable pub members_to : List MemberLine → (epoch most : ℕ) → List Member
members_to ls epoch zero = []
members_to ls epoch (suc most) = members_to ls epoch most ++ option_to_list (member_at ls epoch (suc most))

-- the members of an epoch
abbrev pub members_of : List MemberLine → ℕ → List Member
members_of ls epoch = members_to ls epoch MAX_NODE
