use Rattle.std.proofs.Common.{◌∙◌, codes}
use Rattle.clap.specs.Words.{found_of}
use Rattle.clap.proofs.WalkLemmas.{first_value-rows}
use Rattle.command_line.proofs.request.run_request.Goals as goal

pub returns-clause-roster_out : goal.returns-clause-roster_out
returns-clause-roster_out c =
    c.get_str.ensures ∙ first_value-rows (found_of c.args.matches.now) (codes "roster-out")

pub returns-clause-base_out : goal.returns-clause-base_out
returns-clause-base_out c =
    c.get_str-2.ensures ∙ first_value-rows (found_of c.args.matches.now) (codes "base-out")

pub returns-clause-base : goal.returns-clause-base
returns-clause-base c =
    c.get_str-3.ensures ∙ first_value-rows (found_of c.args.matches.now) (codes "base")
