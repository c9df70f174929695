-- What a check of a file says that is to hold a base.
use Rattle.std.specs.Prelude.{◌≡◌, ℕ, List, [], ◌∷◌, ◌++◌, Option, Ok, Err, IfSome, codes, decimal}
use Rattle.rpc.specs.Records.Writing.{WritesFront}
use Rattle.authenticator.specs.declared.member.Member.{Member}
use Rattle.authenticator.specs.declared.refusal.Refusal.{Refusal}
use Rattle.authenticator.specs.declared.refusal.Refusal.TheVariants.{NoMemory}
use Rattle.challenge.specs.BaseFiles.{ChecksFile}
use Rattle.challenge.specs.KnownBases.{KnownBase}
use Rattle.console.specs.declared.bases.BaseJudgement.{BaseJudgement}
use Rattle.console.specs.declared.bases.BaseJudgement.TheVariants.{Base, NoBase}

-- The bytes are a roster's text with that of this base after it, which is good under that roster, of this member.
abbrev pub Holds : List ℕ → KnownBase → Member → Type 0
Holds bytes base member = ChecksFile bytes (λ (c : KnownBase × Member). c.0) (λ c. c.1) (Ok (base, member))

-- They hold a base of this node, whose CHECK has this number.
pub record HoldsBase (bytes : List ℕ) (node at : ℕ) : Type 0 where
  pub base : KnownBase
  pub member : Member
  pub holds : Holds bytes base member
  pub its : base.showing.node ≡ node
  pub there : base.at ≡ at

-- checking them as such a file is refused so; a refusal of memory says nothing of them
abbrev pub IsRefused : List ℕ → Refusal → Type 0
IsRefused bytes NoMemory = ⊥
IsRefused bytes refusal = ChecksFile bytes (λ (c : KnownBase × Member). c.0) (λ c. c.1) (Err refusal)

-- what is said of bytes
abbrev pub JudgesBase : List ℕ → BaseJudgement → Type 0
JudgesBase bytes (Base node at) = HoldsBase bytes node at
JudgesBase bytes (NoBase refusal) = IsRefused bytes refusal

-- the line that tells it (32 is a blank, 10 ends it)
abbrev pub base_line : BaseJudgement → List ℕ
base_line (Base node at) = codes "base " ++ (decimal node ++ (32 ∷ (decimal at ++ (10 ∷ []))))
base_line (NoBase refusal) = codes "no base" ++ (10 ∷ [])

-- a write failed: what an input shows was written in part, and not all of it
pub record TellsBasePart (input before after : Option (List ℕ)) : Type 0 where
  pub judgement : BaseJudgement
  pub judged : IfSome input (λ bytes. JudgesBase bytes judgement)
  pub written : WritesFront before after (base_line judgement)
