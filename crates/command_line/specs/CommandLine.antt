-- What the words of a command line ask for.
use Rattle.std.specs.Prelude.{◌||◌, Bool, true, false, List, [], ◌∷◌, Option, Some, None, codes}
use Rattle.std.specs.Prelude.{if◌then◌else◌, option_and_then, option_map}
use Rattle.std.specs.Option.{option_map_or}
use Rattle.std.specs.Str.{bytes_eq}
use Rattle.clap.specs.Kinds.{Kinds}
use Rattle.clap.specs.Walk.{Row, Rule, Text, first_of, one_of, rows_of}
use Rattle.clap.specs.Matches.{found_of}
use Rattle.clap.specs.Simple.{App, Shape, new_app, new_rule, new_shape, subcommand_of, with_rule}
use Rattle.clap.specs.Simple.{with_subcommand}
use Rattle.clap.specs.Faults.{fault_of}
use Rattle.clap.specs.declared.builder.action.ArgAction.TheVariants.{SetTrue}
use Rattle.clap.specs.declared.parser.matches.ArgMatches.{ArgMatches}
use Rattle.command_line.specs.Hosts.{AskAsked, GatewayAsked, ServerAsked, WitnessAsked, ask_asked}
use Rattle.command_line.specs.Hosts.{ask_command}
use Rattle.command_line.specs.Hosts.{gateway_asked, gateway_command, server_asked, server_command}
use Rattle.command_line.specs.Hosts.{status_command, stop_command}
use Rattle.command_line.specs.Hosts.{witness_asked, witness_command}
use Rattle.command_line.specs.Keys.{MemberAsked, RostersAsked, member_asked, member_command, rosters_asked}
use Rattle.command_line.specs.Keys.{rosters_command, secret_command}
use Rattle.command_line.specs.Serve.{ServeAsked, serve_asked, serve_command, word_in}
use Rattle.command_line.specs.declared.request.Request.{Request}
use Rattle.command_line.specs.declared.request.Request.TheVariants as requests

-- ---- nfsacc, as the library that reads command lines sees it

-- it has a version and subcommands, of which one must be named
abbrev pub nfsacc : App
nfsacc = record {
  top = record (new_shape (codes "nfsacc")) {
    has_version = true;
    arg_required_else_help = true;
    subcommand_required = true;
  };
  subs = [];
}

-- `rpc` has no words of its own
abbrev pub rpc_command : Shape
rpc_command = new_shape (codes "rpc")

-- a flag, given as `--` and its name
abbrev pub flag : Text → Rule
flag name = record (new_rule name) { long = Some name; action = Some SetTrue }

-- a file's name, which must be given
abbrev pub file_argument : Rule
file_argument = record (new_rule (codes "file")) { value_names = 1; required = true }

-- an option with the name of a file, given as `--` and its own name
abbrev pub file_option : Text → Rule
file_option name = record (new_rule name) { long = Some name; value_names = 1 }

-- an option with a number, given as `--` and its own name
abbrev pub number_option : Text → Rule
number_option name = record (new_rule name) { long = Some name; value_names = 1 }

-- `check`, with the options `--explain`, `--entries`, `--state`, `--json` and `--roster` and a file
abbrev pub check_command : App
check_command =
    with_rule (with_rule (with_rule (with_rule (with_rule (with_rule (new_app (codes "check"))
    (flag (codes "explain"))) (flag (codes "entries"))) (number_option (codes "state")))
    (flag (codes "json"))) (file_option (codes "roster"))) file_argument

-- `roster`, with a file
abbrev pub roster_command : App
roster_command = with_rule (new_app (codes "roster")) file_argument

-- `base`, with a file
abbrev pub base_command : App
base_command = with_rule (new_app (codes "base")) file_argument

-- `run`, with the options `--roster-out`, `--base-out` and `--base` and a file
abbrev pub run_command : App
run_command =
    with_rule (with_rule (with_rule (with_rule (new_app (codes "run")) (file_option (codes "roster-out")))
    (file_option (codes "base-out"))) (file_option (codes "base"))) file_argument

-- with its subcommands `rpc`, `check`, `roster`, `base`, `run` and `serve`
abbrev pub first_commands : App
first_commands =
    with_subcommand (with_subcommand (with_subcommand
    (with_subcommand (with_subcommand (with_subcommand nfsacc rpc_command) check_command.top)
    roster_command.top) base_command.top) run_command.top) serve_command.top

-- and those of keys: `secret`, `member` and `rosters`
abbrev pub keys_commands : App
keys_commands =
    with_subcommand (with_subcommand (with_subcommand first_commands secret_command.top) member_command.top)
    rosters_command.top

-- and those of parties on hosts of their own: `server`, `gateway`, `witness`, `ask`, `stop` and `status`
abbrev pub commands : App
commands =
    with_subcommand (with_subcommand (with_subcommand (with_subcommand (with_subcommand
    (with_subcommand keys_commands server_command.top) gateway_command.top) witness_command.top)
    ask_command.top) stop_command.top) status_command.top

-- ---- what is asked for

-- what `check` is asked: a file's name, whether what the file shows is asked for, too, whether all entries
-- of the log are, before which of them the state is, whether one JSON object with all that is, and the name
-- of the file with the roster that is trusted
pub record CheckAsked : Type 0 where
  pub file : Text
  pub explain : Bool
  pub entries : Bool
  pub state : Option Text
  pub json : Bool
  pub roster : Option Text

-- what `run` is asked: the name of a script's file, that of the file that the roster's text goes to, what
-- the names of files with bases begin with, and the name of the file with the base at which the witness begins
pub record RunAsked : Type 0 where
  pub file : Text
  pub roster_out : Option Text
  pub base_out : Option Text
  pub base : Option Text

-- what a command line asks for
pub data Asked : Type 0 where
  -- records, to be answered
  Rpc : Asked
  Check : CheckAsked → Asked
  -- the roster in the file of this name
  Roster : Text → Asked
  -- the base in the file of this name
  Base : Text → Asked
  Run : RunAsked → Asked
  Serve : ServeAsked → Asked
  -- a file of secret bytes of this name
  Secret : Text → Asked
  Member : MemberAsked → Asked
  Rosters : RostersAsked → Asked
  Server : ServerAsked → Asked
  Gateway : GatewayAsked → Asked
  Witness : WitnessAsked → Asked
  Ask : AskAsked → Asked
  -- an end of the process of the state folder of this name
  Stop : Text → Asked
  -- what the process of the state folder of this name says of itself
  Status : Text → Asked

-- what a request asks for
abbrev pub asked_by : Request → Asked
asked_by requests.Rpc = Rpc
asked_by (requests.Check r) =
    Check (record {
      file = r.file.now;
      explain = r.explain;
      entries = r.entries;
      state = option_map (λ s. s.now) r.state;
      json = r.json;
      roster = option_map (λ s. s.now) r.roster;
    })
asked_by (requests.Roster name) = Roster name.now
asked_by (requests.Base name) = Base name.now
asked_by (requests.Run r) = Run (record {
  file = r.file.now;
  roster_out = option_map (λ s. s.now) r.roster_out;
  base_out = option_map (λ s. s.now) r.base_out;
  base = option_map (λ s. s.now) r.base;
})
asked_by (requests.Serve r) = Serve (record {
  port = r.port.now;
  count = r.count.now;
  address = option_map (λ s. s.now) r.address;
  server_height = option_map (λ s. s.now) r.server_height;
  client_height = option_map (λ s. s.now) r.client_height;
  master = option_map (λ s. s.now) r.master;
  roster_out = option_map (λ s. s.now) r.roster_out;
  evidence = option_map (λ s. s.now) r.evidence;
  control = option_map (λ s. s.now) r.control;
  idle = option_map (λ s. s.now) r.idle;
  log_version = option_map (λ s. s.now) r.log_version;
  base_out = option_map (λ s. s.now) r.base_out;
  check_every = option_map (λ s. s.now) r.check_every;
  progress = r.progress;
})
asked_by (requests.Secret name) = Secret name.now
asked_by (requests.Member r) = Member (record {
  secret = r.secret.now;
  node = r.node.now;
  kind = r.kind.now;
  height = option_map (λ s. s.now) r.height;
  epochs = option_map (λ s. s.now) r.epochs;
  log_version = option_map (λ s. s.now) r.log_version;
})
asked_by (requests.Rosters r) = Rosters (record {
  out = r.out.now;
  file = r.file.now;
})
asked_by (requests.Server r) = Server (record {
  secret = r.secret.now;
  rosters = r.rosters.now;
  state = r.state.now;
  node = r.node.now;
  listen = r.listen.now;
  audit = option_map (λ s. s.now) r.audit;
  check_every = option_map (λ s. s.now) r.check_every;
  progress = r.progress;
  log_file = option_map (λ s. s.now) r.log_file;
})
asked_by (requests.Gateway r) = Gateway (record {
  secret = r.secret.now;
  rosters = r.rosters.now;
  state = r.state.now;
  nodes = r.nodes.now;
  server = r.server.now;
  witness = option_map (λ s. s.now) r.witness;
  listen = option_map (λ s. s.now) r.listen;
  every = option_map (λ s. s.now) r.every;
  reserve = option_map (λ s. s.now) r.reserve;
  give_up = option_map (λ s. s.now) r.give_up;
  progress = r.progress;
  log_file = option_map (λ s. s.now) r.log_file;
})
asked_by (requests.Witness r) = Witness (record {
  rosters = r.rosters.now;
  at = r.at.now;
  listen = r.listen.now;
  witness = option_map (λ s. s.now) r.witness;
  every = option_map (λ s. s.now) r.every;
  patience = option_map (λ s. s.now) r.patience;
  overlap = option_map (λ s. s.now) r.overlap;
  evidence = option_map (λ s. s.now) r.evidence;
  epoch = option_map (λ s. s.now) r.epoch;
  join = r.join;
  state = option_map (λ s. s.now) r.state;
  log_file = option_map (λ s. s.now) r.log_file;
})
asked_by (requests.Ask r) = Ask (record {
  rosters = option_map (λ s. s.now) r.rosters;
  nodes = option_map (λ s. s.now) r.nodes;
  evidence = option_map (λ s. s.now) r.evidence;
  state = option_map (λ s. s.now) r.state;
  witness = r.witness.now;
})
asked_by (requests.Stop name) = Stop name.now
asked_by (requests.Status name) = Status name.now

-- what was found for the arguments of a subcommand
abbrev pub rows_in : ArgMatches → List Row
rows_in matches = rows_of (found_of matches)

-- a flag is set, by what was found
abbrev pub is_set : Text → List Row → Bool
is_set name rows = option_map_or (bytes_eq (codes "true")) (one_of name rows) false

-- `true` or `false`
abbrev pub is_flag_text : Text → Bool
is_flag_text text = bytes_eq (codes "true") text || bytes_eq (codes "false") text

-- it is known whether a flag is set
abbrev pub is_told : Text → List Row → Bool
is_told name rows = option_map_or is_flag_text (one_of name rows) true

-- what `check` of a file is asked, by what was found for its options
abbrev pub check_of : List Row → Text → CheckAsked
check_of rows file = record {
  file = file;
  explain = is_set (codes "explain") rows;
  entries = is_set (codes "entries") rows;
  state = first_of (codes "state") rows;
  json = is_set (codes "json") rows;
  roster = first_of (codes "roster") rows;
}

-- what `check` is asked
abbrev pub check_asked : List Row → Option Asked
check_asked rows = option_map (λ file. Check (check_of rows file)) (first_of (codes "file") rows)

-- what `roster` is asked
abbrev pub roster_asked : List Row → Option Asked
roster_asked rows = option_map Roster (first_of (codes "file") rows)

-- what `base` is asked
abbrev pub base_asked : List Row → Option Asked
base_asked rows = option_map Base (first_of (codes "file") rows)

-- what `run` of a file is asked, by what was found for its options
abbrev pub run_of : List Row → Text → RunAsked
run_of rows file = record {
  file = file;
  roster_out = first_of (codes "roster-out") rows;
  base_out = first_of (codes "base-out") rows;
  base = first_of (codes "base") rows;
}

-- what `run` is asked
abbrev pub run_asked : List Row → Option Asked
run_asked rows = option_map (λ file. Run (run_of rows file)) (first_of (codes "file") rows)

-- what a subcommand is asked, by its name and what was found for its arguments
abbrev pub asked_of : Text × List Row → Option Asked
asked_of (name, rows) =
    if bytes_eq (codes "rpc") name then Some Rpc
    else if bytes_eq (codes "check") name then check_asked rows
    else if bytes_eq (codes "roster") name then roster_asked rows
    else if bytes_eq (codes "base") name then base_asked rows
    else if bytes_eq (codes "run") name then run_asked rows
    else if bytes_eq (codes "serve") name then option_map Serve (serve_asked rows)
    else if bytes_eq (codes "secret") name then Some (Secret (word_in (codes "file") rows))
    else if bytes_eq (codes "member") name then Some (Member (member_asked rows))
    else if bytes_eq (codes "rosters") name then Some (Rosters (rosters_asked rows))
    else if bytes_eq (codes "server") name then Some (Server (server_asked rows))
    else if bytes_eq (codes "gateway") name then Some (Gateway (gateway_asked rows))
    else if bytes_eq (codes "witness") name then Some (Witness (witness_asked rows))
    else if bytes_eq (codes "ask") name then Some (Ask (ask_asked rows))
    else if bytes_eq (codes "stop") name then Some (Stop (word_in (codes "state") rows))
    else if bytes_eq (codes "status") name then Some (Status (word_in (codes "state") rows))
    else None

-- the same, where the rules find no fault
abbrev pub asked_without : Kinds → Option (Text × List Row) → Option Asked
asked_without [] found = option_and_then asked_of found
asked_without (kind ∷ kinds) found = None

-- what the words of a command line ask for, the program's name first: nothing where clap's
-- rules find a fault in them
abbrev pub asked_in : List Text → Option Asked
asked_in words = asked_without (fault_of commands words) (subcommand_of commands words)
