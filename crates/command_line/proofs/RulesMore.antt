-- Rows of arguments and of commands, one after the other.
use Rattle.std.proofs.Common.{◌≡◌, ◌∙◌, ◌∷◌, [], ◌++◌, ◌+◌, ◌<◌, ℕ, Bool, List, ap, ap₂, false, get_or, length, map, not, refl}
use Rattle.std.proofs.Common.{sym, take, true}
use Rattle.std.proofs.lemmas.List.{map-append, take_more}
use Rattle.clap.specs.Walk.{Rule}
use Rattle.clap.specs.Words.{App, app_of, new_app, shape_of, with_rule, with_subcommand}
use Rattle.clap.specs.declared.builder.command.Command.{Command}
use Rattle.clap.specs.declared.builder.command.Command.TheViews.{out-Command}
use Rattle.clap.proofs.WalkLemmas.{both}
use Rattle.command_line.specs.Arguments.{row_app, row_rule, with_commands, with_rules}
use Rattle.command_line.specs.declared.arguments.ArgumentRow.{ArgumentRow}
use Rattle.command_line.specs.declared.arguments.CommandRow.{CommandRow}

-- with one more after them
rules_more : (app : App) (rules : List Rule) (rule : Rule)
    → with_rules app (rules ++ rule ∷ []) ≡ with_rule (with_rules app rules) rule
rules_more app [] rule = refl
rules_more app (first ∷ rules) rule = rules_more (with_rule app first) rules rule

-- the argument of the next row comes after those of the rows before it
pub row_more : (command next app : App) (rows : List ArgumentRow) (k : ℕ) (d : ArgumentRow) (rule : Rule)
    → command ≡ with_rules app (map row_rule (take k rows)) → next ≡ with_rule command rule
    → rule ≡ row_rule (get_or rows k d) → k < length rows
    → next ≡ with_rules app (map row_rule (take (k + 1) rows))
row_more command next app rows k d rule before is has lt =
    let all : map row_rule (take (k + 1) rows) ≡ map row_rule (take k rows) ++ row_rule (get_or rows k d) ∷ [] =
    ap (map row_rule) (take_more rows k d lt) ∙ map-append row_rule (take k rows) (get_or rows k d ∷ []) in
    is ∙ ap₂ with_rule before has
    ∙ sym (rules_more app (map row_rule (take k rows)) (row_rule (get_or rows k d)))
    ∙ sym (ap (with_rules app) all)

-- arguments leave a command as plain as it is
plain_rules : (app : App) (rules : List Rule) → (with_rules app rules).top.is_plain ≡ app.top.is_plain
plain_rules app [] = refl
plain_rules app (rule ∷ rules) = plain_rules (with_rule app rule) rules

of_not : (b : Bool) → not b ≡ true → b ≡ false
of_not true e = cc
of_not false e = refl

-- the command of a row has no global argument
is_local : (command : Command) (row : CommandRow) → app_of command ≡ row_app row
    → (out-Command command).has_globals ≡ false
is_local command row is =
    let plain = plain_rules (new_app row.name.now) (map row_rule row.arguments.now) in
    let fields = both _ _ (ap (λ (x : App). x.top.is_plain) is ∙ plain) in
    of_not _ (both _ _ (both _ _ fields.1).1).0

-- with one subcommand more after them
commands_more : (app : App) (rows : List CommandRow) (row : CommandRow)
    → with_commands app (rows ++ row ∷ []) ≡ with_subcommand (with_commands app rows) (row_app row).top
commands_more app [] row = refl
commands_more app (first ∷ rows) row = commands_more (with_subcommand app (row_app first).top) rows row

-- the subcommand of the next row comes after those of the rows before it
pub command_more : (command next app : App) (rows : List CommandRow) (k : ℕ) (d : CommandRow) (sub : Command)
    → command ≡ with_commands app (take k rows)
    → ((out-Command sub).has_globals ≡ false → next ≡ with_subcommand command (shape_of sub))
    → app_of sub ≡ row_app (get_or rows k d) → k < length rows → next ≡ with_commands app (take (k + 1) rows)
command_more command next app rows k d sub before is has lt =
    is (is_local sub (get_or rows k d) has) ∙ ap₂ with_subcommand before (ap (λ (x : App). x.top) has)
    ∙ sym (commands_more app (take k rows) (get_or rows k d))
    ∙ sym (ap (with_commands app) (take_more rows k d lt))
