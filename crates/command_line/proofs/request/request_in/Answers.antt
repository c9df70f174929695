use Rattle.std.proofs.Common.{◌≡◌, ◌∙◌, ◌++◌, List, [], ◌∷◌, Option, Some, refl, subst}
use Rattle.std.specs.List.{AllByRecursion}
use Rattle.clap.specs.Walk.{Text}
use Rattle.command_line.specs.Hosts.{hosts_names}
use Rattle.command_line.specs.Keys.{keys_names}
use Rattle.command_line.proofs.Asked.{base_is, check_is, found_is, name_is, roster_is, rpc_is, run_is}
use Rattle.command_line.proofs.ServeAsked.{serve_is}
use Rattle.command_line.proofs.request.request_in.Goals as goal

pub returns-in-Some : goal.returns-in-Some
returns-in-Some c words none found =
    let is = found_is c.args.matches.now _ _ _ found (c.in-Some.ensures.found.0 refl)
    c.in-Some.ensures.rows in
    let asked = c.check_request.ensures in
    check_is words _ (record { file = _; explain = _; entries = _; state = _; json = _; roster = _ })
    none is (record {
      file = asked.file;
      explain = asked.explain;
      entries = asked.entries;
      state = asked.state;
      json = asked.json;
      roster = asked.roster;
    })

pub returns-in-Some-subcommand_matches : goal.returns-in-Some-subcommand_matches
returns-in-Some-subcommand_matches c words none found =
    let is = found_is c.args.matches.now _ _ _ found (c.in-Some-subcommand_matches.ensures.found.0 refl)
    c.in-Some-subcommand_matches.ensures.rows in
    roster_is words _ _ none is c.text_of.ensures

pub returns-in-Some-subcommand_matches-2 : goal.returns-in-Some-subcommand_matches-2
returns-in-Some-subcommand_matches-2 c words none found =
    let is = found_is c.args.matches.now _ _ _ found (c.in-Some-subcommand_matches-2.ensures.found.0 refl)
    c.in-Some-subcommand_matches-2.ensures.rows in
    base_is words _ _ none is c.text_of-in-Some-subcommand_matches-2.ensures

pub returns-in-Some-subcommand_matches-3 : goal.returns-in-Some-subcommand_matches-3
returns-in-Some-subcommand_matches-3 c words none found =
    let is = found_is c.args.matches.now _ _ _ found (c.in-Some-subcommand_matches-3.ensures.found.0 refl)
    c.in-Some-subcommand_matches-3.ensures.rows in
    let asked = c.run_request.ensures in
    run_is words _ (record { file = _; roster_out = _; base_out = _; base = _ }) none is
    (record { file = asked.file; roster_out = asked.roster_out; base_out = asked.base_out; base = asked.base })

pub returns-in-Some-subcommand_matches-4 : goal.returns-in-Some-subcommand_matches-4
returns-in-Some-subcommand_matches-4 c words none found =
    let is = found_is c.args.matches.now _ _ _ found (c.in-Some-subcommand_matches-4.ensures.found.0 refl)
    c.in-Some-subcommand_matches-4.ensures.rows in
    let asks = c.serve_request.ensures in
    serve_is words _ (record {
      port = _;
      count = _;
      address = _;
      server_height = _;
      client_height = _;
      master = _;
      roster_out = _;
      evidence = _;
      control = _;
      idle = _;
      log_version = _;
      base_out = _;
      check_every = _;
      progress = _;
    }) none is (record {
      port = asks.port;
      count = asks.count;
      address = asks.address;
      server = asks.server;
      client = asks.client;
      master = asks.master;
      roster_out = asks.roster_out;
      evidence = asks.evidence;
      control = asks.control;
      idle = asks.idle;
      log_version = asks.log_version;
      base_out = asks.base_out;
      check_every = asks.check_every;
      progress = asks.progress;
    })

pub returns-in-Some-more_request_in : goal.returns-in-Some-more_request_in
returns-in-Some-more_request_in c = c.in-Some-more_request_in.ensures.some

-- names of which none is found, before others
before_others : (found : Option Text) (names others : List Text)
    → AllByRecursion (λ name. found ≡ Some name → ⊥) names
    → AllByRecursion (λ name. found ≡ Some name → ⊥) others
    → AllByRecursion (λ name. found ≡ Some name → ⊥) (names ++ others)
before_others found [] others h i = i
before_others found (name ∷ names) others h i = (h.0, before_others found names others h.1 i)

of_found : (a b : Option Text) (names : List Text) → a ≡ b → AllByRecursion (λ name. a ≡ Some name → ⊥) names
    → AllByRecursion (λ name. b ≡ Some name → ⊥) names
of_found a b names is h = subst (λ o. AllByRecursion (λ name. o ≡ Some name → ⊥) names) is h

-- no other subcommand was found: `rpc` is asked for
pub returns-in-None : goal.returns-in-None
returns-in-None c words none found =
    let name = name_is c.args.matches.now _ found in
    let more = before_others _ keys_names hosts_names c.in-None.ensures.keys c.in-None.ensures.hosts in
    rpc_is words none (
      λ e.
          let bad = rw c.in_default.is at c.subcommand_matches.ensures.found.1 (name ∙ e) in
          cc,
      (
        λ e.
            let bad = rw c.in_default-subcommand_matches.is at c.subcommand_matches-2.ensures.found.1
            (name ∙ e) in
            cc,
        (
          λ e.
              let bad = rw c.in_default-subcommand_matches-2.is at c.subcommand_matches-3.ensures.found.1
              (name ∙ e) in
              cc,
          (
            λ e.
                let bad = rw c.in_default-subcommand_matches-3.is at c.subcommand_matches-4.ensures.found.1
                (name ∙ e) in
                cc,
            (
              λ e.
                  let bad = rw c.in_default-subcommand_matches-4.is
                  at c.subcommand_matches-5.ensures.found.1 (name ∙ e) in
                  cc,
              of_found _ _ (keys_names ++ hosts_names) name more,
            ),
          ),
        ),
      ),
    )
