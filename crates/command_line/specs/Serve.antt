-- What the words after `serve` ask for.
use Rattle.std.specs.Prelude.{Bool, true, false, List, [], Option, Some, codes, option_and_then, option_map}
use Rattle.std.specs.Prelude.{unwrap_or}
use Rattle.std.specs.Option.{option_map_or}
use Rattle.std.specs.Str.{bytes_eq}
use Rattle.clap.specs.Walk.{Row, Rule, Text, first_of, one_of}
use Rattle.clap.specs.Simple.{App, new_app, new_rule, with_rule}
use Rattle.clap.specs.declared.builder.action.ArgAction.TheVariants.{SetTrue}

-- a word that must be given
abbrev pub word_argument : Text → Rule
word_argument name = record (new_rule name) { value_names = 1; required = true }

-- an option with a word after it, given as `--` and its own name
abbrev pub word_option : Text → Rule
word_option name = record (new_rule name) { long = Some name; value_names = 1 }

-- an option that must be given, with a word after it
abbrev pub needed_option : Text → Rule
needed_option name = record (new_rule name) { long = Some name; value_names = 1; required = true }

-- a flag, given as `--` and its name
abbrev pub flag_option : Text → Rule
flag_option name = record (new_rule name) { long = Some name; action = Some SetTrue }

-- the word of an argument that must be given, by what was found
abbrev pub word_in : Text → List Row → Text
word_in name rows = unwrap_or (first_of name rows) []

-- whether a flag is set, by what was found
abbrev pub is_flag_set : Text → List Row → Bool
is_flag_set name rows = option_map_or (bytes_eq (codes "true")) (one_of name rows) false

-- `serve`, with its options, a port and a count of connections
abbrev pub serve_options : App
serve_options =
    with_rule (with_rule (with_rule (with_rule (with_rule (with_rule
    (with_rule (with_rule (with_rule (with_rule (with_rule (with_rule (new_app (codes "serve"))
    (word_option (codes "address")))
    (word_option (codes "server-height")))
    (word_option (codes "client-height"))) (word_option (codes "master"))) (word_option (codes "roster-out")))
    (word_option (codes "evidence"))) (word_option (codes "control"))) (word_option (codes "idle")))
    (word_option (codes "log-version"))) (word_option (codes "base-out"))) (word_option
    (codes "check-every")))
    (record (new_rule (codes "progress")) { long = Some (codes "progress"); action = Some SetTrue })

abbrev pub serve_command : App
serve_command = with_rule (with_rule serve_options (word_argument (codes "port")))
    (word_argument (codes "count"))

-- what `serve` is asked, word by word
pub record ServeAsked : Type 0 where
  pub port : Text
  pub count : Text
  pub address : Option Text
  pub server_height : Option Text
  pub client_height : Option Text
  pub master : Option Text
  pub roster_out : Option Text
  pub evidence : Option Text
  pub control : Option Text
  pub idle : Option Text
  pub log_version : Option Text
  pub base_out : Option Text
  pub check_every : Option Text
  pub progress : Bool

-- the same, by its port, its count and what was found for its options
abbrev pub asked_with : List Row → Text → Text → ServeAsked
asked_with rows port count = record {
  port = port;
  count = count;
  address = first_of (codes "address") rows;
  server_height = first_of (codes "server-height") rows;
  client_height = first_of (codes "client-height") rows;
  master = first_of (codes "master") rows;
  roster_out = first_of (codes "roster-out") rows;
  evidence = first_of (codes "evidence") rows;
  control = first_of (codes "control") rows;
  idle = first_of (codes "idle") rows;
  log_version = first_of (codes "log-version") rows;
  base_out = first_of (codes "base-out") rows;
  check_every = first_of (codes "check-every") rows;
  progress = option_map_or (bytes_eq (codes "true")) (one_of (codes "progress") rows) false;
}

-- the same, by what was found for its arguments
abbrev pub serve_asked : List Row → Option ServeAsked
serve_asked rows =
    option_and_then (λ port. option_map (asked_with rows port) (first_of (codes "count") rows))
    (first_of (codes "port") rows)
