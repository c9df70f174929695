use Rattle.std.proofs.Common.{◌≡◌, map, take}
use Rattle.clap.specs.Words.{app_of, new_app}
use Rattle.command_line.specs.Arguments.{row_rule, with_rules}
use Rattle.command_line.proofs.arguments.command_of.Given as goal

abbrev pub invariant-loop-argument : goal.invariant-loop-argument
invariant-loop-argument l =
    app_of l.command
    ≡ with_rules (new_app l.row.name.now) (map row_rule (take l.argument-index l.row.arguments.now))
