use Rattle.std.proofs.Common.{◌≡◌, ◌∙◌, subst, sym, true}
use Rattle.evidence_showings.specs.Bases.{IsShortState}
use Rattle.evidence_showings.proofs.Bases.{base_short, base_words}
use Rattle.evidence_showings.proofs.base_text.BaseText.new.Goals as goal

-- a text's state is short, and its words follow
pub returns-then-not-is_short-clause-none : goal.returns-then-not-is_short-clause-none
returns-then-not-is_short-clause-none c = λ text.
    let yes : c.is_short.result ≡ true =
    c.is_short.ensures.1 (subst IsShortState (sym c.deref.ensures.value) (base_short _ text)) in
    absurd cc

pub returns-then-not-words_follow-clause-none : goal.returns-then-not-words_follow-clause-none
returns-then-not-words_follow-clause-none c = λ text.
    let yes : c.words_follow.result ≡ true = c.words_follow.ensures ∙ base_words _ text in
    absurd cc
