use Rattle.std.proofs.Common.{◌∙◌, codes}
use Rattle.clap.specs.Words.{found_of}
use Rattle.clap.proofs.WalkLemmas.{first_value-rows}
use Rattle.command_line.proofs.request.check_request.Goals as goal

pub returns-clause-state : goal.returns-clause-state
returns-clause-state c = c.get_str.ensures ∙ first_value-rows (found_of c.args.matches.now) (codes "state")

pub returns-clause-roster : goal.returns-clause-roster
returns-clause-roster c =
    c.get_str-2.ensures ∙ first_value-rows (found_of c.args.matches.now) (codes "roster")
