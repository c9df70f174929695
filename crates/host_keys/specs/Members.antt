-- Lines that say a member's key.
use Rattle.std.specs.Prelude.{◌++◌, ◌-◌, ◌^◌, ℕ, List, [], ◌∷◌, codes, decimal}
use Rattle.authenticator.specs.declared.member.Kind.{Kind}
use Rattle.authenticator.specs.declared.member.Kind.TheVariants.{Server, Client}
use Rattle.authenticator.specs.declared.member.LogVersion.{LogVersion}
use Rattle.authenticator.specs.declared.member.LogVersion.TheVariants.{One, Two}
use Rattle.authenticator.specs.declared.member.TheConstants.{MAX_NODE}
use Rattle.merkle_keys.specs.declared.signature.TheConstants.{MAX_HEIGHT}
use Rattle.hex.specs.Hex.{encode_lower}
use Rattle.host_keys.specs.Lines.{IsDigest, IsWithin, line_of}
use Rattle.host_keys.specs.declared.member_line.MemberLine.{MemberLine}

-- the word for a kind
abbrev pub kind_word : Kind → List ℕ
kind_word Server = codes "server"
kind_word Client = codes "client"

-- a member's number, its kind and the height of its tree of keys
abbrev pub node_words : ℕ × Kind × ℕ → List (List ℕ)
node_words p = codes "member" ∷ decimal p.0 ∷ kind_word p.1 ∷ decimal p.2 ∷ []

-- the version of its log, of which version 1 has no words, and the word `epoch`
abbrev pub version_words : LogVersion → List (List ℕ)
version_words One = codes "epoch" ∷ []
version_words Two = codes "log" ∷ codes "2" ∷ codes "epoch" ∷ []

-- the same with the epoch, and the key in hexadecimal digits
abbrev pub key_words : LogVersion × ℕ × List ℕ → List (List ℕ)
key_words p = version_words p.0 ++ (decimal p.1 ∷ encode_lower p.2 ∷ [])

-- the two parts of what a line says
abbrev pub node_in : MemberLine → ℕ × Kind × ℕ
node_in l = (l.member.node, l.member.kind, l.member.height)

abbrev pub key_in : MemberLine → LogVersion × ℕ × List ℕ
key_in l = (l.member.log_version, l.epoch, l.member.root)

-- the words of a member line
abbrev pub member_words : MemberLine → List (List ℕ)
member_words l = node_words (node_in l) ++ key_words (key_in l)

-- the line
abbrev pub member_text : MemberLine → List ℕ
member_text l = line_of (member_words l)

-- the number and the height are those of a roster's member
abbrev pub IsNode : ℕ × Kind × ℕ → Type 0
IsNode p = IsWithin 1 MAX_NODE p.0 × IsWithin 1 MAX_HEIGHT p.2

-- the epoch is a number from 1 on, and the key has 32 bytes
abbrev pub IsKey : LogVersion × ℕ × List ℕ → Type 0
IsKey p = IsWithin 1 (2 ^ 32 - 1) p.1 × IsDigest p.2

-- what a member line may say
pub record IsMemberLine (l : MemberLine) : Type 0 where
  pub node : IsWithin 1 MAX_NODE l.member.node
  pub height : IsWithin 1 MAX_HEIGHT l.member.height
  pub epoch : IsWithin 1 (2 ^ 32 - 1) l.epoch
  pub root : IsDigest l.member.root
