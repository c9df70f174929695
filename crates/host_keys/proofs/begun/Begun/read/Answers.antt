use Rattle.std.proofs.Common.{◌≡◌, List, ℕ, Option, Some, None, IfSome, ap, sym, ◌∙◌, subst, codes, drop}
use Rattle.std.proofs.lemmas.List.Splits.{join_with_byte-slice_split}
use Rattle.host_keys.specs.Lines.{line_of, words_of}
use Rattle.host_keys.specs.Beginnings.{IsBegun, begun_text, begun_words}
use Rattle.host_keys.specs.declared.begun.Begun.{Begun}
use Rattle.host_keys.specs.declared.begun.Begun.TheVariants.{Node, Run}
use Rattle.host_keys.proofs.Lines.{words_of-line}
use Rattle.host_keys.proofs.BegunWords.{begun_is_words}
use Rattle.host_keys.proofs.begun.Begun.read.Goals as goal

-- a line with the words is the text
found : (line : List ℕ) (r : Option Begun) → IfSome r (λ b. words_of line ≡ begun_words b)
    → IfSome r (λ b. line ≡ begun_text b)
found line None h = tt
found line (Some b) h = sym (join_with_byte-slice_split 32 line) ∙ ap line_of h

-- the text has the words
words_in : (b : Begun) → IsBegun b → words_of (begun_text b) ≡ begun_words b
words_in (Node epoch node roster) is =
    words_of-line (codes "epoch") (drop 1 (begun_words (Node epoch node roster))) (begun_is_words
    (Node epoch node roster) is)
words_in (Run run) is = words_of-line (codes "run") (drop 1 (begun_words (Run run))) (begun_is_words
    (Run run) is)

pub returns-clause-found : goal.returns-clause-found
returns-clause-found c =
    found c.args.line.now c.read_words.result
    (subst (λ ws. IfSome c.read_words.result (λ b. ws
    ≡ begun_words b)) c.new-words.ensures c.read_words.ensures.found)

pub returns-clause-only : goal.returns-clause-only
returns-clause-only c b is e =
    c.read_words.ensures.only b is (c.new-words.ensures ∙ ap words_of e ∙ words_in b is)
