-- What the words after `server`, `gateway`, `witness`, `ask`, `stop` and `status` ask for.
use Rattle.std.specs.Prelude.{Bool, List, [], ◌∷◌, Option, codes}
use Rattle.clap.specs.Walk.{Row, Text, first_of}
use Rattle.clap.specs.Simple.{App, new_app, with_rule}
use Rattle.command_line.specs.Serve.{is_flag_set, flag_option, needed_option, word_argument, word_in}
use Rattle.command_line.specs.Serve.{word_option}

-- `server`, with its arguments
abbrev pub server_command : App
server_command =
    with_rule (with_rule (with_rule (with_rule (with_rule (with_rule (with_rule (with_rule (with_rule
    (new_app (codes "server")) (needed_option (codes "secret")))
    (needed_option (codes "rosters")))
    (needed_option (codes "state")))
    (needed_option (codes "node")))
    (needed_option (codes "listen")))
    (word_option (codes "audit")))
    (word_option (codes "check-every")))
    (flag_option (codes "progress")))
    (word_option (codes "log-file"))

-- what `server` is asked, word by word
pub record ServerAsked : Type 0 where
  pub secret : Text
  pub rosters : Text
  pub state : Text
  pub node : Text
  pub listen : Text
  pub audit : Option Text
  pub check_every : Option Text
  pub progress : Bool
  pub log_file : Option Text

-- the same, by what was found for its arguments
abbrev pub server_asked : List Row → ServerAsked
server_asked rows = record {
  secret = word_in (codes "secret") rows;
  rosters = word_in (codes "rosters") rows;
  state = word_in (codes "state") rows;
  node = word_in (codes "node") rows;
  listen = word_in (codes "listen") rows;
  audit = first_of (codes "audit") rows;
  check_every = first_of (codes "check-every") rows;
  progress = is_flag_set (codes "progress") rows;
  log_file = first_of (codes "log-file") rows;
}

-- `gateway`, with its arguments
abbrev pub gateway_command : App
gateway_command =
    with_rule (with_rule (with_rule (with_rule (with_rule (with_rule (with_rule (with_rule (with_rule
    (with_rule (with_rule (with_rule (new_app (codes "gateway")) (needed_option (codes "secret")))
    (needed_option (codes "nodes")))
    (needed_option (codes "server")))
    (needed_option (codes "rosters")))
    (needed_option (codes "state")))
    (word_option (codes "witness")))
    (word_option (codes "listen")))
    (word_option (codes "every")))
    (word_option (codes "reserve")))
    (word_option (codes "give-up")))
    (flag_option (codes "progress")))
    (word_option (codes "log-file"))

-- what `gateway` is asked, word by word
pub record GatewayAsked : Type 0 where
  pub secret : Text
  pub nodes : Text
  pub server : Text
  pub rosters : Text
  pub state : Text
  pub witness : Option Text
  pub listen : Option Text
  pub every : Option Text
  pub reserve : Option Text
  pub give_up : Option Text
  pub progress : Bool
  pub log_file : Option Text

-- the same, by what was found for its arguments
abbrev pub gateway_asked : List Row → GatewayAsked
gateway_asked rows = record {
  secret = word_in (codes "secret") rows;
  nodes = word_in (codes "nodes") rows;
  server = word_in (codes "server") rows;
  rosters = word_in (codes "rosters") rows;
  state = word_in (codes "state") rows;
  witness = first_of (codes "witness") rows;
  listen = first_of (codes "listen") rows;
  every = first_of (codes "every") rows;
  reserve = first_of (codes "reserve") rows;
  give_up = first_of (codes "give-up") rows;
  progress = is_flag_set (codes "progress") rows;
  log_file = first_of (codes "log-file") rows;
}

-- `witness`, with its arguments
abbrev pub witness_command : App
witness_command =
    with_rule (with_rule (with_rule (with_rule (with_rule (with_rule (with_rule (with_rule (with_rule
    (with_rule (with_rule (with_rule (new_app (codes "witness")) (needed_option (codes "rosters")))
    (needed_option (codes "at")))
    (needed_option (codes "listen")))
    (word_option (codes "witness")))
    (word_option (codes "every")))
    (word_option (codes "patience")))
    (word_option (codes "overlap")))
    (word_option (codes "evidence")))
    (word_option (codes "epoch")))
    (flag_option (codes "join")))
    (word_option (codes "state")))
    (word_option (codes "log-file"))

-- what `witness` is asked, word by word
pub record WitnessAsked : Type 0 where
  pub rosters : Text
  pub at : Text
  pub listen : Text
  pub witness : Option Text
  pub every : Option Text
  pub patience : Option Text
  pub overlap : Option Text
  pub evidence : Option Text
  pub epoch : Option Text
  pub join : Bool
  pub state : Option Text
  pub log_file : Option Text

-- the same, by what was found for its arguments
abbrev pub witness_asked : List Row → WitnessAsked
witness_asked rows = record {
  rosters = word_in (codes "rosters") rows;
  at = word_in (codes "at") rows;
  listen = word_in (codes "listen") rows;
  witness = first_of (codes "witness") rows;
  every = first_of (codes "every") rows;
  patience = first_of (codes "patience") rows;
  overlap = first_of (codes "overlap") rows;
  evidence = first_of (codes "evidence") rows;
  epoch = first_of (codes "epoch") rows;
  join = is_flag_set (codes "join") rows;
  state = first_of (codes "state") rows;
  log_file = first_of (codes "log-file") rows;
}

-- `ask`, with its arguments
abbrev pub ask_command : App
ask_command =
    with_rule (with_rule (with_rule (with_rule (with_rule (new_app (codes "ask"))
    (word_option (codes "rosters")))
    (word_option (codes "nodes")))
    (word_option (codes "evidence")))
    (word_option (codes "state")))
    (word_argument (codes "witness"))

-- what `ask` is asked, word by word
pub record AskAsked : Type 0 where
  pub rosters : Option Text
  pub nodes : Option Text
  pub evidence : Option Text
  pub state : Option Text
  pub witness : Text

-- the same, by what was found for its arguments
abbrev pub ask_asked : List Row → AskAsked
ask_asked rows = record {
  rosters = first_of (codes "rosters") rows;
  nodes = first_of (codes "nodes") rows;
  evidence = first_of (codes "evidence") rows;
  state = first_of (codes "state") rows;
  witness = word_in (codes "witness") rows;
}

-- `stop`, with its arguments
abbrev pub stop_command : App
stop_command =
    with_rule (new_app (codes "stop")) (word_argument (codes "state"))

-- `status`, with its arguments
abbrev pub status_command : App
status_command =
    with_rule (new_app (codes "status")) (word_argument (codes "state"))

-- the names of these commands
abbrev pub hosts_names : List Text
hosts_names =
    codes "server" ∷ codes "gateway" ∷ codes "witness" ∷ codes "ask" ∷ codes "stop" ∷ codes "status" ∷ []
