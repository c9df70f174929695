use Rattle.std.proofs.Common.{refl}
use Rattle.command_line.proofs.Asked.{found_is}
use Rattle.command_line.proofs.Named.{not_so}
use Rattle.command_line.proofs.KeysAsked.{secret_is, member_is, rosters_is}
use Rattle.command_line.proofs.keys.keys_request_in.Goals as goal

pub returns-in-Some-clause-some : goal.returns-in-Some-clause-some
returns-in-Some-clause-some c words none found =
    let is = found_is c.args.matches.now _ _ _ found (c.in-Some.ensures.found.0 refl)
    c.in-Some.ensures.rows in
    secret_is words _ _ none is c.text_of.ensures

pub returns-in-Some-subcommand_matches-clause-some : goal.returns-in-Some-subcommand_matches-clause-some
returns-in-Some-subcommand_matches-clause-some c words none found =
    let is = found_is c.args.matches.now _ _ _ found (c.in-Some-subcommand_matches.ensures.found.0 refl)
    c.in-Some-subcommand_matches.ensures.rows in
    let asked = c.member_request.ensures in
    member_is words _ (record { secret = _; node = _; kind = _; height = _; epochs = _; log_version = _ })
    none is (record {
      secret = asked.secret;
      node = asked.node;
      kind = asked.kind;
      height = asked.height;
      epochs = asked.epochs;
      log_version = asked.log_version;
    })

pub returns-in-Some-subcommand_matches-2-clause-some : goal.returns-in-Some-subcommand_matches-2-clause-some
returns-in-Some-subcommand_matches-2-clause-some c words none found =
    let is = found_is c.args.matches.now _ _ _ found (c.in-Some-subcommand_matches-2.ensures.found.0 refl)
    c.in-Some-subcommand_matches-2.ensures.rows in
    let asked = c.rosters_request.ensures in
    rosters_is words _ (record { out = _; file = _ }) none is (record {
      out = asked.out;
      file = asked.file;
    })

pub returns-clause-none : goal.returns-clause-none
returns-clause-none c = (
  λ e. not_so (c.in_default.ensures.found.1 e),
  (
    λ e. not_so (c.in_default-subcommand_matches.ensures.found.1 e),
    (
      λ e. not_so (c.in_default-subcommand_matches-2.ensures.found.1 e),
      (
          tt),
    ),
  ),
)
