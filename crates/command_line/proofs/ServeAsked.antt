-- What the matches of `serve` ask for. Serves: request_in.
use Rattle.std.proofs.Common.{◌≡◌, ◌∙◌, true, List, [], Option, Some, None, codes, refl, sym, ap, unwrap_or}
use Rattle.std.specs.Prelude.{is_some, option_and_then, option_map}
use Rattle.clap.specs.Walk.{Row, Text, first_of}
use Rattle.clap.specs.Simple.{subcommand_of}
use Rattle.clap.specs.Faults.{fault_of}
use Rattle.command_line.specs.CommandLine.{Serve, asked_in, commands, is_set, is_told}
use Rattle.command_line.specs.Serve.{ServeAsked, asked_with}
use Rattle.command_line.proofs.Asked.{are_plain, asked_is}
use Rattle.command_line.proofs.Taken.{flag_is, value_is}

-- the words are those that the matches hold
pub record IsAsked (rows : List Row) (a : ServeAsked) : Type 0 where
  -- the port
  pub port : a.port ≡ unwrap_or (first_of (codes "port") rows) []
  -- the count of connections
  pub count : a.count ≡ unwrap_or (first_of (codes "count") rows) []
  -- the address, if one is given
  pub address : a.address ≡ first_of (codes "address") rows
  -- the height of the server's tree of keys, if one is given
  pub server : a.server_height ≡ first_of (codes "server-height") rows
  -- the height of each client's tree of keys, if one is given
  pub client : a.client_height ≡ first_of (codes "client-height") rows
  -- the file of the secret bytes, if one is given
  pub master : a.master ≡ first_of (codes "master") rows
  -- the file that the roster goes to, if one is given
  pub roster_out : a.roster_out ≡ first_of (codes "roster-out") rows
  -- the folder that evidence goes to, if one is given
  pub evidence : a.evidence ≡ first_of (codes "evidence") rows
  -- the folder of the control socket, if one is given
  pub control : a.control ≡ first_of (codes "control") rows
  -- the seconds that a connection may be silent, if they are given
  pub idle : a.idle ≡ first_of (codes "idle") rows
  -- the version of the logs, if it is given
  pub log_version : a.log_version ≡ first_of (codes "log-version") rows
  -- the folder that bases go to, if one is given
  pub base_out : a.base_out ≡ first_of (codes "base-out") rows
  -- the calls between two CHECKs, if they are given
  pub check_every : a.check_every ≡ first_of (codes "check-every") rows
  -- whether progress is asked for, where the matches tell it
  pub progress : is_told (codes "progress") rows ≡ true → a.progress ≡ is_set (codes "progress") rows

-- with both words there, what is asked is told by them
told : {A : Type 0} (port count : Option Text) (g : Text → Text → A) → is_some port ≡ true
    → is_some count ≡ true
    → option_and_then (λ p. option_map (g p) count) port ≡ Some (g (unwrap_or port []) (unwrap_or count []))
told None count g e f = cc
told (Some p) None g e f = cc
told (Some p) (Some c) g e f = refl

-- where no fault is found, `serve` asks for the words that its matches hold
pub serve_is : (words : List Text) (rows : List Row) (a : ServeAsked) → fault_of commands words ≡ []
    → subcommand_of commands words ≡ Some (codes "serve", rows)
    → IsAsked rows a → asked_in words ≡ Some (Serve a)
serve_is words rows a none is asks =
    let port = value_is commands words are_plain none (codes "serve") (codes "port") rows refl is in
    let count = value_is commands words are_plain none (codes "serve") (codes "count") rows refl is in
    let progress = asks.progress (flag_is commands words are_plain none (codes "serve")
    (codes "progress") rows refl is) in
    asked_is words (codes "serve") rows none is
    ∙ ap (option_map Serve) (told (first_of (codes "port") rows) (first_of (codes "count") rows)
    (asked_with rows) port count ∙ ap (λ (x : ServeAsked). Some x) (same progress))
  where
    same : a.progress ≡ is_set (codes "progress") rows
        → asked_with rows (unwrap_or (first_of (codes "port") rows) [])
        (unwrap_or (first_of (codes "count") rows) []) ≡ a
    same progress = rw (
      sym asks.port,
      sym asks.count,
      sym asks.address,
      sym asks.server,
      sym asks.client,
      sym asks.master,
      sym asks.roster_out,
      sym asks.evidence,
      sym asks.control,
      sym asks.idle,
      sym asks.log_version,
      sym asks.base_out,
      sym asks.check_every,
      sym progress,
    ) refl
