-- What the matches of these commands ask for. Serves: hosts_request_in.
use Rattle.std.proofs.Common.{◌≡◌, ◌∙◌, true, List, [], Some, codes, refl, sym, ap, unwrap_or}
use Rattle.clap.specs.Walk.{Row, Text, first_of}
use Rattle.clap.specs.Simple.{subcommand_of}
use Rattle.clap.specs.Faults.{fault_of}
use Rattle.command_line.specs.CommandLine.{Server, Gateway, Witness, Ask, Stop, Status, asked_in, commands}
use Rattle.command_line.specs.CommandLine.{is_set, is_told}
use Rattle.command_line.specs.Hosts.{ServerAsked, server_asked, GatewayAsked, gateway_asked, WitnessAsked}
use Rattle.command_line.specs.Hosts.{witness_asked, AskAsked, ask_asked}
use Rattle.command_line.proofs.Asked.{are_plain, asked_is}
use Rattle.command_line.proofs.Taken.{flag_is}

-- the words are those that the matches of `server` hold
pub record IsServerAsked (rows : List Row) (a : ServerAsked) : Type 0 where
  pub secret : a.secret ≡ unwrap_or (first_of (codes "secret") rows) []
  pub rosters : a.rosters ≡ unwrap_or (first_of (codes "rosters") rows) []
  pub state : a.state ≡ unwrap_or (first_of (codes "state") rows) []
  pub node : a.node ≡ unwrap_or (first_of (codes "node") rows) []
  pub listen : a.listen ≡ unwrap_or (first_of (codes "listen") rows) []
  pub audit : a.audit ≡ first_of (codes "audit") rows
  pub check_every : a.check_every ≡ first_of (codes "check-every") rows
  pub progress : is_told (codes "progress") rows ≡ true → a.progress ≡ is_set (codes "progress") rows
  pub log_file : a.log_file ≡ first_of (codes "log-file") rows

-- `server` asks for them
pub server_is : (words : List Text) (rows : List Row) (a : ServerAsked) → fault_of commands words ≡ []
    → subcommand_of commands words ≡ Some (codes "server", rows) → IsServerAsked rows a
    → asked_in words ≡ Some (Server a)
server_is words rows a none is asks =
    let progress_is = asks.progress (flag_is commands words are_plain none (codes "server")
    (codes "progress") rows refl is) in
    asked_is words (codes "server") rows none is
    ∙ ap (λ (x : ServerAsked). Some (Server x)) (same progress_is)
  where
    same : a.progress ≡ is_set (codes "progress") rows → server_asked rows ≡ a
    same progress_is = rw (
      sym asks.secret,
      sym asks.rosters,
      sym asks.state,
      sym asks.node,
      sym asks.listen,
      sym asks.audit,
      sym asks.check_every,
      sym progress_is,
      sym asks.log_file,
    ) refl

-- the words are those that the matches of `gateway` hold
pub record IsGatewayAsked (rows : List Row) (a : GatewayAsked) : Type 0 where
  pub secret : a.secret ≡ unwrap_or (first_of (codes "secret") rows) []
  pub nodes : a.nodes ≡ unwrap_or (first_of (codes "nodes") rows) []
  pub server : a.server ≡ unwrap_or (first_of (codes "server") rows) []
  pub rosters : a.rosters ≡ unwrap_or (first_of (codes "rosters") rows) []
  pub state : a.state ≡ unwrap_or (first_of (codes "state") rows) []
  pub witness : a.witness ≡ first_of (codes "witness") rows
  pub listen : a.listen ≡ first_of (codes "listen") rows
  pub every : a.every ≡ first_of (codes "every") rows
  pub reserve : a.reserve ≡ first_of (codes "reserve") rows
  pub give_up : a.give_up ≡ first_of (codes "give-up") rows
  pub progress : is_told (codes "progress") rows ≡ true → a.progress ≡ is_set (codes "progress") rows
  pub log_file : a.log_file ≡ first_of (codes "log-file") rows

-- `gateway` asks for them
pub gateway_is : (words : List Text) (rows : List Row) (a : GatewayAsked) → fault_of commands words ≡ []
    → subcommand_of commands words ≡ Some (codes "gateway", rows) → IsGatewayAsked rows a
    → asked_in words ≡ Some (Gateway a)
gateway_is words rows a none is asks =
    let progress_is = asks.progress (flag_is commands words are_plain none (codes "gateway")
    (codes "progress") rows refl is) in
    asked_is words (codes "gateway") rows none is
    ∙ ap (λ (x : GatewayAsked). Some (Gateway x)) (same progress_is)
  where
    same : a.progress ≡ is_set (codes "progress") rows → gateway_asked rows ≡ a
    same progress_is = rw (
      sym asks.secret,
      sym asks.nodes,
      sym asks.server,
      sym asks.rosters,
      sym asks.state,
      sym asks.witness,
      sym asks.listen,
      sym asks.every,
      sym asks.reserve,
      sym asks.give_up,
      sym progress_is,
      sym asks.log_file,
    ) refl

-- the words are those that the matches of `witness` hold
pub record IsWitnessAsked (rows : List Row) (a : WitnessAsked) : Type 0 where
  pub rosters : a.rosters ≡ unwrap_or (first_of (codes "rosters") rows) []
  pub at : a.at ≡ unwrap_or (first_of (codes "at") rows) []
  pub listen : a.listen ≡ unwrap_or (first_of (codes "listen") rows) []
  pub witness : a.witness ≡ first_of (codes "witness") rows
  pub every : a.every ≡ first_of (codes "every") rows
  pub patience : a.patience ≡ first_of (codes "patience") rows
  pub overlap : a.overlap ≡ first_of (codes "overlap") rows
  pub evidence : a.evidence ≡ first_of (codes "evidence") rows
  pub epoch : a.epoch ≡ first_of (codes "epoch") rows
  pub join : is_told (codes "join") rows ≡ true → a.join ≡ is_set (codes "join") rows
  pub state : a.state ≡ first_of (codes "state") rows
  pub log_file : a.log_file ≡ first_of (codes "log-file") rows

-- `witness` asks for them
pub witness_is : (words : List Text) (rows : List Row) (a : WitnessAsked) → fault_of commands words ≡ []
    → subcommand_of commands words ≡ Some (codes "witness", rows) → IsWitnessAsked rows a
    → asked_in words ≡ Some (Witness a)
witness_is words rows a none is asks =
    let join_is = asks.join (flag_is commands words are_plain none (codes "witness")
    (codes "join") rows refl is) in
    asked_is words (codes "witness") rows none is
    ∙ ap (λ (x : WitnessAsked). Some (Witness x)) (same join_is)
  where
    same : a.join ≡ is_set (codes "join") rows → witness_asked rows ≡ a
    same join_is = rw (
      sym asks.rosters,
      sym asks.at,
      sym asks.listen,
      sym asks.witness,
      sym asks.every,
      sym asks.patience,
      sym asks.overlap,
      sym asks.evidence,
      sym asks.epoch,
      sym join_is,
      sym asks.state,
      sym asks.log_file,
    ) refl

-- the words are those that the matches of `ask` hold
pub record IsAskAsked (rows : List Row) (a : AskAsked) : Type 0 where
  pub rosters : a.rosters ≡ first_of (codes "rosters") rows
  pub nodes : a.nodes ≡ first_of (codes "nodes") rows
  pub evidence : a.evidence ≡ first_of (codes "evidence") rows
  pub state : a.state ≡ first_of (codes "state") rows
  pub witness : a.witness ≡ unwrap_or (first_of (codes "witness") rows) []

-- `ask` asks for them
pub ask_is : (words : List Text) (rows : List Row) (a : AskAsked) → fault_of commands words ≡ []
    → subcommand_of commands words ≡ Some (codes "ask", rows) → IsAskAsked rows a
    → asked_in words ≡ Some (Ask a)
ask_is words rows a none is asks =
    asked_is words (codes "ask") rows none is ∙ ap (λ (x : AskAsked). Some (Ask x)) same
  where
    same : ask_asked rows ≡ a
    same = rw (
      sym asks.rosters,
      sym asks.nodes,
      sym asks.evidence,
      sym asks.state,
      sym asks.witness,
    ) refl

-- `stop` asks for the name that its matches hold
pub stop_is : (words : List Text) (rows : List Row) (name : Text) → fault_of commands words ≡ []
    → subcommand_of commands words ≡ Some (codes "stop", rows)
    → name ≡ unwrap_or (first_of (codes "state") rows) [] → asked_in words ≡ Some (Stop name)
stop_is words rows name none is name_is =
    asked_is words (codes "stop") rows none is ∙ ap (λ (f : Text). Some (Stop f)) (sym name_is)

-- `status` asks for the name that its matches hold
pub status_is : (words : List Text) (rows : List Row) (name : Text) → fault_of commands words ≡ []
    → subcommand_of commands words ≡ Some (codes "status", rows)
    → name ≡ unwrap_or (first_of (codes "state") rows) [] → asked_in words ≡ Some (Status name)
status_is words rows name none is name_is =
    asked_is words (codes "status") rows none is ∙ ap (λ (f : Text). Some (Status f)) (sym name_is)
