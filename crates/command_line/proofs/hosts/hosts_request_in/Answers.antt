use Rattle.std.proofs.Common.{refl}
use Rattle.command_line.proofs.Asked.{found_is}
use Rattle.command_line.proofs.Named.{not_so}
use Rattle.command_line.proofs.HostsAsked.{server_is, gateway_is, witness_is, ask_is, status_is, stop_is}
use Rattle.command_line.proofs.hosts.hosts_request_in.Goals as goal

pub returns-in-Some-clause-some : goal.returns-in-Some-clause-some
returns-in-Some-clause-some c words none found =
    let is = found_is c.args.matches.now _ _ _ found (c.in-Some.ensures.found.0 refl)
    c.in-Some.ensures.rows in
    let asked = c.server_request.ensures in
    server_is words _ (record {
      secret = _;
      rosters = _;
      state = _;
      node = _;
      listen = _;
      audit = _;
      check_every = _;
      progress = _;
      log_file = _;
    }) none is (record {
      secret = asked.secret;
      rosters = asked.rosters;
      state = asked.state;
      node = asked.node;
      listen = asked.listen;
      audit = asked.audit;
      check_every = asked.check_every;
      progress = asked.progress;
      log_file = asked.log_file;
    })

pub returns-in-Some-subcommand_matches-clause-some : goal.returns-in-Some-subcommand_matches-clause-some
returns-in-Some-subcommand_matches-clause-some c words none found =
    let is = found_is c.args.matches.now _ _ _ found (c.in-Some-subcommand_matches.ensures.found.0 refl)
    c.in-Some-subcommand_matches.ensures.rows in
    let asked = c.gateway_request.ensures in
    gateway_is words _ (record {
      secret = _;
      nodes = _;
      server = _;
      rosters = _;
      state = _;
      witness = _;
      listen = _;
      every = _;
      reserve = _;
      give_up = _;
      progress = _;
      log_file = _;
    }) none is (record {
      secret = asked.secret;
      nodes = asked.nodes;
      server = asked.server;
      rosters = asked.rosters;
      state = asked.state;
      witness = asked.witness;
      listen = asked.listen;
      every = asked.every;
      reserve = asked.reserve;
      give_up = asked.give_up;
      progress = asked.progress;
      log_file = asked.log_file;
    })

pub returns-in-Some-subcommand_matches-2-clause-some : goal.returns-in-Some-subcommand_matches-2-clause-some
returns-in-Some-subcommand_matches-2-clause-some c words none found =
    let is = found_is c.args.matches.now _ _ _ found (c.in-Some-subcommand_matches-2.ensures.found.0 refl)
    c.in-Some-subcommand_matches-2.ensures.rows in
    let asked = c.witness_request.ensures in
    witness_is words _ (record {
      rosters = _;
      at = _;
      listen = _;
      witness = _;
      every = _;
      patience = _;
      overlap = _;
      evidence = _;
      epoch = _;
      join = _;
      state = _;
      log_file = _;
    }) none is (record {
      rosters = asked.rosters;
      at = asked.at;
      listen = asked.listen;
      witness = asked.witness;
      every = asked.every;
      patience = asked.patience;
      overlap = asked.overlap;
      evidence = asked.evidence;
      epoch = asked.epoch;
      join = asked.join;
      state = asked.state;
      log_file = asked.log_file;
    })

pub returns-in-Some-subcommand_matches-3-clause-some : goal.returns-in-Some-subcommand_matches-3-clause-some
returns-in-Some-subcommand_matches-3-clause-some c words none found =
    let is = found_is c.args.matches.now _ _ _ found (c.in-Some-subcommand_matches-3.ensures.found.0 refl)
    c.in-Some-subcommand_matches-3.ensures.rows in
    let asked = c.ask_request.ensures in
    ask_is words _ (record { rosters = _; nodes = _; evidence = _; state = _; witness = _ }) none is (record {
      rosters = asked.rosters;
      nodes = asked.nodes;
      evidence = asked.evidence;
      state = asked.state;
      witness = asked.witness;
    })

pub returns-in-Some-subcommand_matches-4-clause-some : goal.returns-in-Some-subcommand_matches-4-clause-some
returns-in-Some-subcommand_matches-4-clause-some c words none found =
    let is = found_is c.args.matches.now _ _ _ found (c.in-Some-subcommand_matches-4.ensures.found.0 refl)
    c.in-Some-subcommand_matches-4.ensures.rows in
    stop_is words _ _ none is c.text_of.ensures

pub returns-in-Some-subcommand_matches-5-clause-some : goal.returns-in-Some-subcommand_matches-5-clause-some
returns-in-Some-subcommand_matches-5-clause-some c words none found =
    let is = found_is c.args.matches.now _ _ _ found (c.in-Some-subcommand_matches-5.ensures.found.0 refl)
    c.in-Some-subcommand_matches-5.ensures.rows in
    status_is words _ _ none is c.text_of-in-Some-subcommand_matches-5.ensures

pub returns-clause-none : goal.returns-clause-none
returns-clause-none c = (
  λ e. not_so (c.in_default.ensures.found.1 e),
  (
    λ e. not_so (c.in_default-subcommand_matches.ensures.found.1 e),
    (
      λ e. not_so (c.in_default-subcommand_matches-2.ensures.found.1 e),
      (
        λ e. not_so (c.in_default-subcommand_matches-3.ensures.found.1 e),
        (
          λ e. not_so (c.in_default-subcommand_matches-4.ensures.found.1 e),
          (
            λ e. not_so (c.in_default-subcommand_matches-5.ensures.found.1 e),
            (
                tt),
          ),
        ),
      ),
    ),
  ),
)
