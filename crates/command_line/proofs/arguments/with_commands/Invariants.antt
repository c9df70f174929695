use Rattle.std.proofs.Common.{◌≡◌, take}
use Rattle.clap.specs.Words.{app_of}
use Rattle.command_line.specs.Arguments.{with_commands}
use Rattle.command_line.proofs.arguments.with_commands.Given as goal

abbrev pub invariant-loop-row : goal.invariant-loop-row
invariant-loop-row l = app_of l.command ≡ with_commands (app_of l.initial.command) (take l.row-index l.rows)
