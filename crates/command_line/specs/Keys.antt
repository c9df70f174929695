-- What the words after `secret`, `member` and `rosters` ask for.
use Rattle.std.specs.Prelude.{List, [], ◌∷◌, Option, codes}
use Rattle.clap.specs.Walk.{Row, Text, first_of}
use Rattle.clap.specs.Simple.{App, new_app, with_rule}
use Rattle.command_line.specs.Serve.{needed_option, word_argument, word_in, word_option}

-- `secret`, with its arguments
abbrev pub secret_command : App
secret_command =
    with_rule (new_app (codes "secret")) (word_argument (codes "file"))

-- `member`, with its arguments
abbrev pub member_command : App
member_command =
    with_rule (with_rule (with_rule (with_rule (with_rule (with_rule (new_app (codes "member"))
    (needed_option (codes "secret")))
    (needed_option (codes "node")))
    (needed_option (codes "kind")))
    (word_option (codes "height")))
    (word_option (codes "epochs")))
    (word_option (codes "log-version"))

-- what `member` is asked, word by word
pub record MemberAsked : Type 0 where
  pub secret : Text
  pub node : Text
  pub kind : Text
  pub height : Option Text
  pub epochs : Option Text
  pub log_version : Option Text

-- the same, by what was found for its arguments
abbrev pub member_asked : List Row → MemberAsked
member_asked rows = record {
  secret = word_in (codes "secret") rows;
  node = word_in (codes "node") rows;
  kind = word_in (codes "kind") rows;
  height = first_of (codes "height") rows;
  epochs = first_of (codes "epochs") rows;
  log_version = first_of (codes "log-version") rows;
}

-- `rosters`, with its arguments
abbrev pub rosters_command : App
rosters_command =
    with_rule (with_rule (new_app (codes "rosters")) (needed_option (codes "out")))
    (word_argument (codes "file"))

-- what `rosters` is asked, word by word
pub record RostersAsked : Type 0 where
  pub out : Text
  pub file : Text

-- the same, by what was found for its arguments
abbrev pub rosters_asked : List Row → RostersAsked
rosters_asked rows = record {
  out = word_in (codes "out") rows;
  file = word_in (codes "file") rows;
}

-- the names of these commands
abbrev pub keys_names : List Text
keys_names = codes "secret" ∷ codes "member" ∷ codes "rosters" ∷ []
