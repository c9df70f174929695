use Rattle.std.proofs.Common.{rules}
use Rattle.clap.specs.Words.{new_app}
use Rattle.command_line.proofs.RulesMore.{row_more}
use Rattle.command_line.proofs.arguments.command_of.Goals as goal

-- the row's argument comes after those of the rows before it
pub loop-argument-preserved : goal.loop-argument-preserved
loop-argument-preserved c =
    row_more _ _ (new_app c.args.row.now.name.now) c.args.row.now.arguments.now c.loop-argument.argument-index
    _ _ c.loop-argument.invariant (c.in_ok-command.ensures.shape c.arg_of.ensures.local) c.arg_of.ensures.rule
    (search rules)
