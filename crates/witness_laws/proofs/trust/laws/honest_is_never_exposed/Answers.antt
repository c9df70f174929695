use Rattle.std.proofs.Common.{flat_map, ◌∷◌, ◌++◌, sym, ◌∙◌}
use Rattle.std.proofs.lemmas.Bool.{true≢false}
use Rattle.secure_log.proofs.OfLogEntries.FewerTexts.{left, right}
use Rattle.witness_spec.specs.replay_spec.Opening.{opening_of}
use Rattle.witness_spec.specs.evidence_spec.Proving.{IsUnforgedIn, texts_of}
use Rattle.witness_spec.specs.Histories.{own_of}
use Rattle.witness_spec.specs.Premises.{authenticators_in, base_closings, base_texts, texts_in}
use Rattle.witness_laws.proofs.OwnSteps.{own_owed}
use Rattle.witness_laws.proofs.Checked.{own_checked}
use Rattle.witness_laws.proofs.Exposing.{exposed_is}
use Rattle.witness_laws.proofs.OfTrust.Trust.{all_parts, begins_in, not_exposed}
use Rattle.witness_laws.proofs.trust.laws.honest_is_never_exposed.Goals as goal

-- a node that the history tells exposed would be exposed by own steps that expose nobody
pub returns : goal.returns
returns c = λ g w history log s member from h is honest unforged unlike told.
    let past = own_of w history in
    let texts = flat_map (λ p. texts_in p.0) past in
    let own = base_texts w.base (opening_of w.member ∷ honest.states) in
    let all = texts_of log ++ (own ++ texts) in
    let log_in = left (texts_of log) (own ++ texts) in
    let parts = all_parts w member log is all unlike log_in
    (IsUnforgedIn w.member.log_version w.roster w.member.node log) (base_closings w.base)
    (flat_map (λ p. authenticators_in p.0) past) unforged in
    let first = begins_in w member log is all unlike log_in c.a_base_is_of_the_log.ensures w.base member.base s
    honest parts.0 (λ t i. right (texts_of log) (own ++ texts) t (left own texts t i)) in
    true≢false (sym (exposed_is w past told)
    ∙ not_exposed w member log is all unlike log_in past first
    (own_owed g w member from history h) (own_checked g w member from history h) parts.1
    (λ t i. right (texts_of log) (own ++ texts) t (right own texts t i)))
