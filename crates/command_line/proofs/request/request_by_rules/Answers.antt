use Rattle.std.proofs.Common.{map, string_bytes}
use Rattle.command_line.proofs.Asked.{passes_on, taken}
use Rattle.command_line.proofs.request.request_by_rules.Goals as goal

pub returns-clause-ok : goal.returns-clause-ok
returns-clause-ok c =
    let words = map string_bytes c.args.words.now in
    let parsed = c.in_ok-matches.ensures in
    let t = taken _ words c.in_ok-matches.matches c.in_ok-commands.ensures parsed.matches parsed.kinds in
    c.request_in.ensures words t.0 t.1

pub returns-clause-kinds : goal.returns-clause-kinds
returns-clause-kinds c =
    let parsed = c.in_ok-matches.ensures in
    (taken _ (map string_bytes c.args.words.now) c.in_ok-matches.matches c.in_ok-commands.ensures
    parsed.matches parsed.kinds).0

pub returns-in_err-matches-clause-kinds : goal.returns-in_err-matches-clause-kinds
returns-in_err-matches-clause-kinds c =
    passes_on _ (map string_bytes c.args.words.now) _ _ c.in_ok-commands.ensures
    c.in_err-matches.ensures.kinds c.from_residual-in_err-matches.ensures.1
