use Rattle.std.proofs.Common.{◌≡◌, ◌∙◌, Some, ap, subst, sym}
use Rattle.challenge.specs.KnownBases as bases
use Rattle.challenge.specs.evidence_showings.Bases.{HasBaseText}
use Rattle.node_book.specs.Looking.{HasWordsOf}
use Rattle.node_book.specs.Rows.{BaseIsOfLog, base_in, known_in}
use Rattle.node_book.proofs.Starts.{base_has_words}
use Rattle.node_book.proofs.forks.base_showing.Goals as goal

-- the base has a text, so the words of its showing follow
pub returns-in_ok-showing-in-Some-clause-words : goal.returns-in_ok-showing-in-Some-clause-words
returns-in_ok-showing-in-Some-clause-words c = λ v of_log.
    let k = c.in-Some.base.value in
    let is : base_in c.args.base.now ≡ Some (known_in k) = ap base_in c.in-Some.is in
    let version : (bases.parts_of k).log_version ≡ v = subst (λ b. BaseIsOfLog b v) is of_log in
    let text : HasBaseText (bases.parts_of k) =
    subst (λ (x : bases.KnownBase). HasBaseText (bases.parts_of x)) c.deref-in-Some.ensures c.has_text.ensures in
    let same : c.in_ok-showing-in-Some.showing ≡ k.showing =
    c.in_ok-showing-in-Some.ensures ∙ c.showing.ensures
    ∙ ap (λ (x : bases.KnownBase). x.showing) c.deref-in-Some-2.ensures in
    subst (HasWordsOf v) (sym same) (base_has_words v (bases.parts_of k) text version)
