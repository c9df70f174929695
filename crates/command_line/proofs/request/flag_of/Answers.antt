use Rattle.std.proofs.Common.{◌∙◌}
use Rattle.clap.specs.Words.{found_of}
use Rattle.clap.proofs.WalkLemmas.{one_text-rows}
use Rattle.command_line.proofs.Asked.{flag_is_answered}
use Rattle.command_line.proofs.request.flag_of.Goals as goal

-- where the matches tell whether the flag is set, that is the answer
pub returns : goal.returns
returns c told =
    let text = one_text-rows (found_of c.args.matches.now) c.args.id.now in
    flag_is_answered _ _ told (λ e. c.get_flag.ensures.none (text ∙ e))
    (λ e. c.get_flag.ensures.value (text ∙ e)) (λ e. c.get_flag.ensures.other (text ∙ e))
