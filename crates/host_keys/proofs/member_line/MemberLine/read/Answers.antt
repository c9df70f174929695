use Rattle.std.proofs.Common.{◌≡◌, List, ℕ, Option, Some, None, IfSome, ap, sym, ◌∙◌, subst, codes, drop}
use Rattle.std.proofs.lemmas.List.Splits.{join_with_byte-slice_split}
use Rattle.host_keys.specs.Lines.{line_of, words_of}
use Rattle.host_keys.specs.Members.{member_text, member_words}
use Rattle.host_keys.specs.declared.member_line.MemberLine.{MemberLine}
use Rattle.host_keys.proofs.Lines.{words_of-line}
use Rattle.host_keys.proofs.Members.{member_is_words}
use Rattle.host_keys.proofs.member_line.MemberLine.read.Goals as goal

-- a line with the words is the text
found : (line : List ℕ) (r : Option MemberLine) → IfSome r (λ l. words_of line ≡ member_words l)
    → IfSome r (λ l. line ≡ member_text l)
found line None h = tt
found line (Some l) h = sym (join_with_byte-slice_split 32 line) ∙ ap line_of h

-- its words after the first
abbrev rest_of : MemberLine → List (List ℕ)
rest_of l = drop 1 (member_words l)

pub returns-clause-found : goal.returns-clause-found
returns-clause-found c =
    found c.args.line.now c.read_words.result
    (subst (λ ws. IfSome c.read_words.result (λ l. ws
    ≡ member_words l)) c.new-words.ensures c.read_words.ensures.found)

pub returns-clause-only : goal.returns-clause-only
returns-clause-only c l is e =
    c.read_words.ensures.only l is
    (c.new-words.ensures ∙ ap words_of e ∙ words_of-line (codes "member") (rest_of l) (member_is_words l is))
