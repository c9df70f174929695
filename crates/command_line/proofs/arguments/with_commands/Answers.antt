use Rattle.std.proofs.Common.{rules}
use Rattle.clap.specs.Words.{app_of}
use Rattle.command_line.proofs.RulesMore.{command_more}
use Rattle.command_line.proofs.arguments.with_commands.Goals as goal

-- the row's command comes after those of the rows before it
pub loop-row-preserved : goal.loop-row-preserved
loop-row-preserved c =
    command_more _ _ (app_of c.args.command) c.args.rows.now c.loop-row.row-index _ _ c.loop-row.invariant
    c.in_ok-command.ensures.shape c.in_ok-command_of.ensures (search rules)
