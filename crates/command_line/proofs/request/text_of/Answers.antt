use Rattle.std.proofs.Common.{◌∙◌, Bor, List, ℕ, ap, refl}
use Rattle.clap.specs.Words.{found_of}
use Rattle.clap.proofs.WalkLemmas.{first_value-rows}
use Rattle.command_line.proofs.Asked.{text_is_answered}
use Rattle.command_line.proofs.request.text_of.Goals as goal

-- the text is the first that was found for the argument, or empty
pub returns : goal.returns
returns c =
    ap (λ (t : Bor (List ℕ)). t.now) c.unwrap_or.ensures
    ∙ text_is_answered c.get_str.result _ refl
    (c.get_str.ensures ∙ first_value-rows (found_of c.args.matches.now) c.args.id.now)
