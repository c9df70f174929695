-- Evidence is there exactly where the node is exposed, and it is accepted and has a text.
-- Serves: evidence_where_exposed, evidence_proves.
use Rattle.std.proofs.Common.{◌≡◌, ◌↔◌, Bool, true, false, cond, ◌||◌, [], ◌∷◌, Option, Some}
use Rattle.std.proofs.Common.{None, refl, sym, ap, subst, ◌∙◌}
use Rattle.std.specs.Prelude.{IsSome, option_map}
use Rattle.std.proofs.lemmas.Bool.{or_right, true≢false}
use Rattle.std.proofs.lemmas.Option.{same_Some}
use Rattle.witness_spec.specs.replay_spec.Replay.{Verdict, Sound, Fault}
use Rattle.xdr.specs.Item.{Fits}
use Rattle.witness_spec.specs.evidence_spec.Evidence.{Charge, EvidenceParts, evidence_item, evidence_value}
use Rattle.witness_spec.specs.evidence_spec.Evidence as evidences
use Rattle.witness_spec.specs.evidence_spec.Proving.{Proves}
use Rattle.witness_spec.specs.Events.{JobParts}
use Rattle.witness_spec.specs.Replies.{Reply, Exposed}
use Rattle.witness_spec.specs.Watched.{Watched, IsInRoster}
use Rattle.witness_spec.specs.Steps.{Step, Past}
use Rattle.witness_spec.specs.Pairs.{has_fork}
use Rattle.witness_spec.specs.Done.{filed}
use Rattle.witness_spec.specs.Standing.{end_of, verdict_on, is_fault, finds_fault, has_fault, shown}
use Rattle.witness_spec.specs.Standing.{is_exposed}
use Rattle.witness_spec.specs.Standing.{entries_filed, indication, stage_of, Out}
use Rattle.witness_spec.specs.Exposing.{new_charge, evidence}
use Rattle.witness_spec.specs.Histories.{AreOwed}
use Rattle.witness_spec.specs.Laws.{IsProof}
use Rattle.witness_laws.proofs.Exposing.{exposed_is, is_exposed_told, exposed_further}
use Rattle.witness_laws.proofs.Doing.{Doing, Nothing, Notes, Accepts, Asks, Begins, Files, PutsBack, doing}
use Rattle.witness_laws.proofs.Checked.{AreChecked}
use Rattle.witness_laws.proofs.OfEvidence.Audits.{IsGoodSegment, IsAt, IsNext, Stand, stands, end_stays}
use Rattle.witness_laws.proofs.OfEvidence.Charges.{IsGoodCharge, Charging, Uncharged, Charged, charging}
use Rattle.witness_laws.proofs.OfEvidence.Audited.{IsAudited, none_audited, audited_stays, audited_on}
use Rattle.witness_laws.proofs.OfEvidence.Audited.{replay_charge}
use Rattle.witness_laws.proofs.OfEvidence.Starts.{none_exposed}

-- what own steps tell: no evidence, or a charge
pub data Told (w : Watched) (past : Past) : Type 0 where
  Without : evidence w past ≡ None → is_exposed w past ≡ false → IsAudited w past → Told w past
  With : (g : Charge) → evidence w past ≡ Some (record { node = w.member.node; charge = g })
      → is_exposed w past ≡ true → IsGoodCharge w g → Told w past

module _ (w : Watched) (past : Past) (p : Step × Reply) where
  -- evidence with one step more, by whether the node was exposed and what the step charges
  evidence_by : (b : Bool) (g : Option Charge) → is_exposed w past ≡ b → new_charge w past p.0 p.1 ≡ g
      → evidence w (p ∷ past)
      ≡ cond b (evidence w past) (option_map (λ g. record { node = w.member.node; charge = g }) g)
  evidence_by b g is charge =
      ap (λ x. cond x (evidence w past)
      (option_map (λ g. record { node = w.member.node; charge = g }) (new_charge w past p.0 p.1))) is
      ∙ ap (λ x. cond b (evidence w past)
      (option_map (λ g. record { node = w.member.node; charge = g }) x)) charge

  -- what is filed is the segment that is out
  next_filed : (j : JobParts) → Stand w past → stage_of past ≡ Out j.segment → IsNext w past j.segment
  next_filed j stand is = subst (IsAt w past) is stand.stage

  good_filed : (j : JobParts) → Stand w past → IsNext w past j.segment
      → IsGoodSegment w j.segment.segment
  good_filed j stand next = (stand.segments j.segment.segment next.among).good

  -- a File finds no fault where the node isn't exposed after it
  no_fault : (j : JobParts) (v : Verdict) → IsInRoster w → filed p.0 p.1 ≡ Some j
      → verdict_on w.roster (end_of w past).state j ≡ v
      → is_exposed w (p ∷ past) ≡ false → Stand w past → stage_of past ≡ Out j.segment
      → is_exposed w past ≡ false → IsAudited w past → IsAudited w (p ∷ past)
  no_fault j (Sound t found) member is v e stand out was a =
      let next = next_filed j stand out in
      audited_on w past p j t found member was is v next (good_filed j stand next) a
  no_fault j (Fault fault number) member is v e stand out was a =
      let faulty : has_fault w (p ∷ past) ≡ true =
      ap (λ x. finds_fault w.roster (end_of w past).state x || has_fault w past) is
      ∙ ap (λ x. is_fault x || has_fault w past) v in
      absurd (true≢false (sym (or_right (has_fork (shown w (p ∷ past))) (has_fault w (p ∷ past)) faulty)
      ∙ e))

  unfiled : filed p.0 p.1 ≡ None → IsAudited w past → IsAudited w (p ∷ past)
  unfiled h a =
      audited_stays w past p (ap (entries_filed w.roster (end_of w past).state) h) (end_stays w past p h) a

  audited_further : IsInRoster w → Doing w past p → is_exposed w (p ∷ past) ≡ false → Stand w past
      → is_exposed w past ≡ false → IsAudited w past → IsAudited w (p ∷ past)
  audited_further member (Nothing did) e stand was a = unfiled did.files a
  audited_further member (Notes x is above did) e stand was a = unfiled did.files a
  audited_further member (Accepts c is wanted did) e stand was a = unfiled did.files a
  audited_further member (Asks first last is few did) e stand was a = unfiled did.files a
  audited_further member (Begins c is did) e stand was a = unfiled did.files a
  audited_further member (PutsBack c is did) e stand was a = unfiled did.files a
  audited_further member (Files j is did) e stand was a =
      no_fault j (verdict_on w.roster (end_of w past).state j) member did.files refl e stand is was a

  told_by : IsInRoster w → Doing w past p → Stand w past → is_exposed w past ≡ false → IsAudited w past
      → Charging w past p → Told w (p ∷ past)
  told_by member d stand was a (Uncharged none e) =
      Without (evidence_by false None was none) e (audited_further member d e stand was a)
  told_by member d stand was a (Charged g is e good) = With g (evidence_by false (Some g) was is) e good

  told_on : IsInRoster w → AreOwed w (p ∷ past) → AreChecked w (p ∷ past)
      → Told w past → Told w (p ∷ past)
  told_on member owed checked (With g is e good) =
      With g (evidence_by true (new_charge w past p.0 p.1) e refl ∙ is)
      (exposed_further w (p ∷ []) past e) good
  told_on member owed checked (Without none was a) =
      let stand = stands w past owed.1 checked.1 in
      let d = doing w past p.0 p.1 owed.0 in
      told_by member d stand was a
      (charging w past p member owed.1 checked.1 stand was d checked.0
      (λ j fault number out v.
      let next = next_filed j stand out in
      replay_charge w past j fault number member was a next (good_filed j stand next) v))

-- after own steps that were checked and owed there is good evidence, or the node isn't exposed and its
-- audited entries are an honest log
pub told : (w : Watched) (past : Past) → IsInRoster w → AreOwed w past
    → AreChecked w past → Told w past
told w [] member owed checked = Without refl (none_exposed w member) (none_audited w member)
told w (p ∷ past) member owed checked =
    told_on w past p member owed checked (told w past member owed.1 checked.1)

-- ---- what evidence is

some_of : (w : Watched) (past : Past) → Told w past → IsSome (evidence w past)
    → indication w past ≡ Exposed
some_of w past (Without none e a) h = absurd (true≢false (sym (subst IsSome none h)))
some_of w past (With g is e good) h = is_exposed_told w past e

of_exposed : (w : Watched) (past : Past) → Told w past → indication w past ≡ Exposed
    → IsSome (evidence w past)
of_exposed w past (Without none e a) h = absurd (true≢false (sym (exposed_is w past h) ∙ e))
of_exposed w past (With g is e good) h = subst IsSome (sym is) refl

-- evidence is there exactly where the indication is Exposed
pub there_where_exposed : (w : Watched) (past : Past) → Told w past
    → IsSome (evidence w past) ↔ (indication w past ≡ Exposed)
there_where_exposed w past t = (some_of w past t, of_exposed w past t)

-- it is a charge that is accepted against the node
pub record IsCharged (w : Watched) (e : EvidenceParts) : Type 0 where
  -- the charge
  pub charge : Charge
  -- the evidence is that charge, of the node
  pub is : e ≡ record { node = w.member.node; charge = charge }
  -- it is accepted, and has a text
  pub good : IsGoodCharge w charge

-- the evidence that is told is a charge that is accepted against the node
pub charged : (w : Watched) (past : Past) (e : EvidenceParts) → Told w past
    → evidence w past ≡ Some e → IsCharged w e
charged w past e (Without none was a) h =
    let no : ◌≡◌ {A = Option EvidenceParts} None (Some e) = sym none ∙ h in absurd (cc)
charged w past e (With g is exposed good) h =
    record { charge = g; is = same_Some _ _ (sym h ∙ is); good = good }

-- What is accepted and has a text proves.
pub proof_of : (w : Watched) (e : EvidenceParts)
    → ((f : EvidenceParts) → Fits evidence_item (evidence_value f) → evidences.Accepts w.roster f
    → Proves w.roster f)
    → IsCharged w e → IsProof w e
proof_of w e law c =
    let f : EvidenceParts = record { node = w.member.node; charge = c.charge } in
    let fits : Fits evidence_item (evidence_value f) = (c.good.small, c.good.text) in
    subst (IsProof w) (sym c.is)
    (record {
      node = refl;
      text = fits;
      accepted = (c.good.version, c.good.accepted);
      proves = law f fits (c.good.version, c.good.accepted);
    })
