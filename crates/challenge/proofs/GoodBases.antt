-- The text of a good base is taken, as that base and no other.
-- Serves: check_base.
use Rattle.std.proofs.Common.{◌≡◌, ℕ, zero, suc, List, Result, Ok, Err, Some, None, inl, inr, refl, sym, ap, subst}
use Rattle.std.proofs.Common.{◌∙◌, arith}
use Rattle.std.specs.Prelude.{◌==◌, if◌then◌else◌}
use Rattle.xdr.specs.Item.{Value}
use Rattle.authenticator.specs.declared.member.LogVersion.{LogVersion}
use Rattle.authenticator.specs.declared.member.LogVersion.TheVariants.{One, Two}
use Rattle.authenticator.specs.declared.member.Member.{Member}
use Rattle.authenticator.specs.declared.refusal.Refusal.{Refusal}
use Rattle.authenticator.specs.declared.refusal.Refusal.TheVariants as refusals
use Rattle.authenticator.specs.Roster.{member_of}
use Rattle.authenticator.specs.Signed.{IsSignedBy}
use Rattle.replay.specs.replay_spec.state_spec.State.{State}
use Rattle.replay.specs.replay_spec.state_spec.StateText.{IsStateText}
use Rattle.evidence_showings.specs.Showings.{Ends}
use Rattle.evidence_showings.specs.evidence_spec.Base.{BaseParts, IsGoodBase, base_by, base_item, base_value}
use Rattle.evidence_showings.specs.evidence_spec.Base.{begun_item, begun_value}
use Rattle.challenge.specs.KnownBases.{ChecksBase, IsGoodText, IsKnown, IsSound, IsTextOf, KnownBase, TakesGood, parts_of}
use Rattle.challenge.proofs.OneText.{one_base}

-- what stands after the version, or another value
after_one : Value (begun_item One) → (n : ℕ) → Value (if n == 1 then begun_item One else begun_item Two)
    → Value (begun_item One)
after_one d zero x = d
after_one d (suc zero) x = x
after_one d (suc (suc n)) x = d

after_two : Value (begun_item Two) → (n : ℕ) → Value (if n == 1 then begun_item One else begun_item Two)
    → Value (begun_item Two)
after_two d zero x = d
after_two d (suc zero) x = d
after_two d (suc (suc zero)) x = x
after_two d (suc (suc (suc n))) x = d

begun_says : (v : LogVersion) (b c : BaseParts) → base_by v b ≡ base_by v c → begun_value v b ≡ begun_value v c
unfolding after_one after_two
begun_says One b c e = ap (λ (x : Value base_item). after_one (begun_value One b) x.0 x.1) e
begun_says Two b c e = ap (λ (x : Value base_item). after_two (begun_value Two b) x.0 x.1) e

base_version : (v w : LogVersion) (b c : BaseParts) → base_by v b ≡ base_by w c → v ≡ w
base_version One One b c e = refl
base_version One Two b c e = absurd (omega (arith, ap (λ (x : Value base_item). x.0) e))
base_version Two One b c e = absurd (omega (arith, ap (λ (x : Value base_item). x.0) e))
base_version Two Two b c e = refl

-- bytes are the text of one base
one_text : (bytes : List ℕ) (b c : BaseParts) → IsTextOf bytes b → IsTextOf bytes c → b ≡ c
one_text bytes b c x y =
    let same : Some (base_value b) ≡ Some (base_value c) = sym x.text ∙ y.text in
    let value : base_value b ≡ base_value c = cc in
    let version : b.log_version ≡ c.log_version = base_version b.log_version c.log_version b c value in
    one_base b c x.written y.written version
    (begun_says b.log_version b c (value ∙ sym (ap (λ (v : LogVersion). base_by v c) version)))

-- a good base is sound
is_sound : (ms : List Member) (b : BaseParts) (m : Member) (s : State) → IsGoodBase ms b m s → IsSound b s
is_sound ms b m s good =
    let c = good.closed in
    record {
      ends = record { first = c.first; skips = c.skips; node = c.node; last = c.last; hash = c.hash };
      state = good.state;
    }

one_member : (ms : List Member) (node : ℕ) (m other : Member) → member_of ms node ≡ Some m
    → member_of ms node ≡ Some other → m ≡ other
one_member ms node m other a b = let same : Some m ≡ Some other = sym a ∙ b in cc

-- The text of a good base is taken, unless memory ran out.
pub good_is_taken : {C : Type 0} (ms : List Member) (bytes : List ℕ) (value : C → KnownBase) (member : C → Member)
    (result : Result C Refusal)
    → ((s t : State) (text : List ℕ) → IsStateText s text → IsStateText t text → s ≡ t)
    → ChecksBase ms bytes value member result → TakesGood ms bytes value member result
good_is_taken ms bytes value member (Ok c) one h b m s good =
    let same = one_text bytes (parts_of (value c)) b h.is good.is in
    let other = subst (λ x. IsGoodBase ms x (member c) (value c).state) same h.good in
    record {
      parts = same;
      state = one (value c).state s b.state other.state.text good.good.state.text;
      is_member = one_member ms b.showing.node (member c) m other.is_member good.good.is_member;
    }
good_is_taken ms bytes value member (Err refusals.Garbage) one (inl none) b m s good =
    let same : None ≡ Some (base_value b) = sym none ∙ good.is.text in absurd cc
good_is_taken ms bytes value member (Err refusals.Garbage) one (inr (inl h)) b m s good =
    let same = one_text bytes h.base b h.is good.is in
    absurd (h.none s (subst (λ x. IsSound x s) (sym same) (is_sound ms b m s good.good)))
good_is_taken ms bytes value member (Err refusals.Garbage) one (inr (inr h)) b m s good =
    let same = one_text bytes h.base b h.is good.is in
    let sound = subst (λ x. IsSound x h.state) same h.sound in
    let state = one h.state s b.state sound.state.text good.good.state.text in
    let is = one_member ms b.showing.node h.member m
    (subst (λ (x : BaseParts). member_of ms x.showing.node ≡ Some h.member) same h.is_member) good.good.is_member in
    absurd (h.differs (rw (same, state, is) good.good.of_member))
good_is_taken ms bytes value member (Err refusals.UnknownNode) one h b m s good =
    let same = one_text bytes h.base b h.is good.is in
    let none = subst (λ (x : BaseParts). member_of ms x.showing.node ≡ None) same h.stranger in
    let both : None ≡ Some m = sym none ∙ good.good.is_member in
    absurd cc
good_is_taken ms bytes value member (Err refusals.BadSignature) one h b m s good =
    let same = one_text bytes h.base b h.is good.is in
    let is = one_member ms b.showing.node h.member m
    (subst (λ (x : BaseParts). member_of ms x.showing.node ≡ Some h.member) same h.is_member) good.good.is_member in
    let closed = good.good.closed in
    let signed : IsSignedBy m b.showing.closing =
    rw (ap (member_of ms) closed.node ∙ good.good.is_member) at closed.signed in
    absurd (h.unsigned (rw (same, is) signed))
good_is_taken ms bytes value member (Err refusals.NoMemory) one h b m s good = refl
