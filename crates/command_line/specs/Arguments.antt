-- Commands and their arguments, as rows of a table.
use Rattle.std.specs.Prelude.{List, [], ◌∷◌, map}
use Rattle.clap.specs.Walk.{Rule, Text}
use Rattle.clap.specs.Simple.{App, new_app, with_rule, with_subcommand}
use Rattle.command_line.specs.CommandLine.{flag}
use Rattle.command_line.specs.Serve.{needed_option, word_argument, word_option}
use Rattle.command_line.specs.declared.arguments.ArgumentRow.{ArgumentRow}
use Rattle.command_line.specs.declared.arguments.CommandRow.{CommandRow}
use Rattle.command_line.specs.declared.arguments.Form.{Form}
use Rattle.command_line.specs.declared.arguments.Form.TheVariants.{Flag, Needed, Place, Word}

-- what is known of an argument by how it is given and by its name
abbrev pub rule_in : Form → Text → Rule
rule_in Flag name = flag name
rule_in Word name = word_option name
rule_in Needed name = needed_option name
rule_in Place name = word_argument name

-- what is known of an argument by its row
abbrev pub row_rule : ArgumentRow → Rule
row_rule row = rule_in row.form row.name.now

-- a command with these arguments more, in their order
abbrev pub with_rules : App → List Rule → App
with_rules app [] = app
with_rules app (rule ∷ rules) = with_rules (with_rule app rule) rules

-- a subcommand by its row
abbrev pub row_app : CommandRow → App
row_app row = with_rules (new_app row.name.now) (map row_rule row.arguments.now)

-- a command with the subcommands of these rows more, in their order
abbrev pub with_commands : App → List CommandRow → App
with_commands app [] = app
with_commands app (row ∷ rows) = with_commands (with_subcommand app (row_app row).top) rows
