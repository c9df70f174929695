use Rattle.std.proofs.Common.{◌≡◌, ◌∙◌, Some, ap, refl, subst}
use Rattle.challenge.specs.BasedReplays.{BasedParts}
use Rattle.challenge.specs.KnownBases as bases
use Rattle.challenge.specs.evidence_showings.Bases.{HasBaseText}
use Rattle.evidence_spec.specs.Base.{BaseParts}
use Rattle.evidence_spec.specs.Evidence.{Based, charge_value, is_whole_charge}
use Rattle.node_book.specs.Rows.{BaseIsOfLog, base_in, known_in}
use Rattle.node_book.proofs.Shown.{based_whole, replay_whole}
use Rattle.node_book.proofs.replayed.charge_from.Goals as goal

-- a base that has a text, with a log after it
pub returns-in_ok-base-in-Some-clause-whole : goal.returns-in_ok-base-in-Some-clause-whole
returns-in_ok-base-in-Some-clause-whole c =
    let k = c.in-Some.base.value in
    let is : base_in c.args.base.now ≡ Some (known_in k) = ap base_in c.in-Some.is in
    let version : (bases.parts_of k).log_version ≡ c.args.log.log_version =
    subst (λ b. BaseIsOfLog b c.args.log.log_version) is c.requires in
    let text : HasBaseText (bases.parts_of k) =
    subst (λ (x : bases.KnownBase). HasBaseText (bases.parts_of x)) c.deref.ensures c.has_text.ensures in
    let based = c.in_ok-base-in-Some.ensures ∙ ap bases.parts_of c.deref-in-Some.ensures in
    let same : c.unwrap.result ≡ record { base = c.in_ok-base-in-Some.base; log = c.args.log } =
    rw c.unwrap.ensures at c.new.ensures.some in
    ap (λ (r : BasedParts). is_whole_charge (charge_value (Based r.base r.log))) same
    ∙ ap (λ (b : BaseParts). is_whole_charge (charge_value (Based b c.args.log))) based
    ∙ based_whole c.args.log.log_version (bases.parts_of k) c.args.log text version

-- a log from its start
pub returns-in-None-clause-whole : goal.returns-in-None-clause-whole
returns-in-None-clause-whole c = replay_whole c.args.log.log_version c.args.log refl
