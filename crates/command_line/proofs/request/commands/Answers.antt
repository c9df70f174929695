use Rattle.std.proofs.Common.{◌≡◌, ◌∙◌, ap, ap₂, rules}
use Rattle.std.proofs.lemmas.Result.{IfOk-weaker}
use Rattle.clap.specs.Words.{App, app_of, with_subcommand}
use Rattle.command_line.specs.CommandLine.{nfsacc}
use Rattle.command_line.proofs.request.commands.Goals as goal

-- with one subcommand more on both sides
more : (a b : App) (s t : App) → a ≡ b → s ≡ t → with_subcommand a s.top ≡ with_subcommand b t.top
more a b s t is has = ap₂ with_subcommand is (ap (λ (x : App). x.top) has)

-- row by row these are the commands that the specification has
pub returns : goal.returns
returns c =
    let top_is : app_of c.arg_required_else_help-nfsacc.result ≡ nfsacc = search rules in
    let rpc = ap₂ with_subcommand top_is c.rpc_row.ensures in
    let check = more _ _ _ _ rpc c.check_row.ensures in
    let roster = more _ _ _ _ check c.roster_row.ensures in
    let base = more _ _ _ _ roster c.base_row.ensures in
    let run = more _ _ _ _ base c.run_row.ensures in
    let serve = more _ _ _ _ run c.serve_row.ensures in
    let secret = more _ _ _ _ serve c.secret_row.ensures in
    let member = more _ _ _ _ secret c.member_row.ensures in
    let rosters = more _ _ _ _ member c.rosters_row.ensures in
    let server = more _ _ _ _ rosters c.server_row.ensures in
    let gateway = more _ _ _ _ server c.gateway_row.ensures in
    let witness = more _ _ _ _ gateway c.witness_row.ensures in
    let ask = more _ _ _ _ witness c.ask_row.ensures in
    let stop = more _ _ _ _ ask c.stop_row.ensures in
    let status = more _ _ _ _ stop c.status_row.ensures in
    IfOk-weaker c.with_commands.result _ _ (λ r is. is ∙ status) c.with_commands.ensures
