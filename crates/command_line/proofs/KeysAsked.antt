-- What the matches of these commands ask for. Serves: keys_request_in.
use Rattle.std.proofs.Common.{◌≡◌, ◌∙◌, List, [], Some, codes, refl, sym, ap, unwrap_or}
use Rattle.clap.specs.Walk.{Row, Text, first_of}
use Rattle.clap.specs.Simple.{subcommand_of}
use Rattle.clap.specs.Faults.{fault_of}
use Rattle.command_line.specs.CommandLine.{Secret, Member, Rosters, asked_in, commands}
use Rattle.command_line.specs.Keys.{MemberAsked, member_asked, RostersAsked, rosters_asked}
use Rattle.command_line.proofs.Asked.{asked_is}

-- `secret` asks for the name that its matches hold
pub secret_is : (words : List Text) (rows : List Row) (name : Text) → fault_of commands words ≡ []
    → subcommand_of commands words ≡ Some (codes "secret", rows)
    → name ≡ unwrap_or (first_of (codes "file") rows) [] → asked_in words ≡ Some (Secret name)
secret_is words rows name none is name_is =
    asked_is words (codes "secret") rows none is ∙ ap (λ (f : Text). Some (Secret f)) (sym name_is)

-- the words are those that the matches of `member` hold
pub record IsMemberAsked (rows : List Row) (a : MemberAsked) : Type 0 where
  pub secret : a.secret ≡ unwrap_or (first_of (codes "secret") rows) []
  pub node : a.node ≡ unwrap_or (first_of (codes "node") rows) []
  pub kind : a.kind ≡ unwrap_or (first_of (codes "kind") rows) []
  pub height : a.height ≡ first_of (codes "height") rows
  pub epochs : a.epochs ≡ first_of (codes "epochs") rows
  pub log_version : a.log_version ≡ first_of (codes "log-version") rows

-- `member` asks for them
pub member_is : (words : List Text) (rows : List Row) (a : MemberAsked) → fault_of commands words ≡ []
    → subcommand_of commands words ≡ Some (codes "member", rows) → IsMemberAsked rows a
    → asked_in words ≡ Some (Member a)
member_is words rows a none is asks =
    asked_is words (codes "member") rows none is ∙ ap (λ (x : MemberAsked). Some (Member x)) same
  where
    same : member_asked rows ≡ a
    same = rw (
      sym asks.secret,
      sym asks.node,
      sym asks.kind,
      sym asks.height,
      sym asks.epochs,
      sym asks.log_version,
    ) refl

-- the words are those that the matches of `rosters` hold
pub record IsRostersAsked (rows : List Row) (a : RostersAsked) : Type 0 where
  pub out : a.out ≡ unwrap_or (first_of (codes "out") rows) []
  pub file : a.file ≡ unwrap_or (first_of (codes "file") rows) []

-- `rosters` asks for them
pub rosters_is : (words : List Text) (rows : List Row) (a : RostersAsked) → fault_of commands words ≡ []
    → subcommand_of commands words ≡ Some (codes "rosters", rows) → IsRostersAsked rows a
    → asked_in words ≡ Some (Rosters a)
rosters_is words rows a none is asks =
    asked_is words (codes "rosters") rows none is ∙ ap (λ (x : RostersAsked). Some (Rosters x)) same
  where
    same : rosters_asked rows ≡ a
    same = rw (
      sym asks.out,
      sym asks.file,
    ) refl
