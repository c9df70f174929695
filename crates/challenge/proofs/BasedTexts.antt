-- The texts of replays from a base, by the version of the log. Serves: BasedReplay::is_whole,
-- BasedReplay::fits, BasedReplay::add_to, PlainBased::into_replay, worded_replay.
use Rattle.std.proofs.Common.{◌≡◌, ℕ, ◌++◌, List, Err, Ok, Result, refl, sym, ap, subst}
use Rattle.std.proofs.Common.{◌∙◌, append_assoc, arith}
use Rattle.std.specs.Prelude.{◌&&◌}
use Rattle.xdr.specs.Item.{Fits, Value, choice, number_spelling, spelling}
use Rattle.xdr.specs.Writing.{Adds, Writes}
use Rattle.authenticator.specs.declared.member.LogVersion.{LogVersion}
use Rattle.authenticator.specs.declared.member.LogVersion.TheVariants.{One, Two}
use Rattle.secure_log.specs.Versioned.{VersionedParts, is_whole_in, versioned_value}
use Rattle.evidence_showings.specs.Bases.{HasBaseText}
use Rattle.evidence_showings.specs.evidence_spec.Base.{BaseParts, base_by, base_item, base_value, begun_item}
use Rattle.evidence_showings.specs.evidence_spec.Base.{begun_value}
use Rattle.evidence_showings.specs.evidence_spec.Evidence.{based_item, based_value, charge_item}
use Rattle.evidence_showings.specs.evidence_spec.Evidence.{is_charge, is_whole_charge, replay_item}

-- a base, and a log of its version
abbrev Parts : LogVersion → BaseParts → BaseParts
Parts v b = record { log_version = v; showing = b.showing; at = b.at; state = b.state }

whole_by : (v : LogVersion) (b : BaseParts) (s : VersionedParts) → HasBaseText (Parts v b)
    → is_whole_charge (5, based_value v b s) ≡ is_whole_in v (versioned_value v s)
whole_by One b s text = refl
whole_by Two b s text = ap (λ t. t && is_whole_in Two (versioned_value Two s)) text.follow

-- it is whole where its log is
pub whole_based : (b : BaseParts) (s : VersionedParts) → HasBaseText b → s.log_version ≡ b.log_version
    → is_whole_charge (5, based_value b.log_version b s) ≡ is_whole_in s.log_version (versioned_value s.log_version s)
whole_based b s text is =
    whole_by b.log_version b s text ∙ ap (λ v. is_whole_in v (versioned_value v s)) (sym is)

fits_by : (v : LogVersion) (b : BaseParts) (s : VersionedParts) → HasBaseText (Parts v b)
    → Fits (replay_item v) (versioned_value v s) → Fits (choice is_charge charge_item) (5, based_value v b s)
fits_by One b s text fits = (omega arith, refl, (omega arith, refl, (text.fits.2, fits)))
fits_by Two b s text fits = (omega arith, refl, (omega arith, refl, (text.fits.2, fits)))

-- each part of it has a spelling
pub fits_based : (b : BaseParts) (s : VersionedParts) → HasBaseText b → s.log_version ≡ b.log_version
    → Fits (replay_item s.log_version) (versioned_value s.log_version s)
    → Fits (choice is_charge charge_item) (5, based_value b.log_version b s)
fits_based b s text is fits =
    fits_by b.log_version b s text (subst (λ v. Fits (replay_item v) (versioned_value v s)) is fits)

spelled_by : (v : LogVersion) (b : BaseParts) (s : VersionedParts)
    → spelling base_item (base_by v b) ++ spelling (replay_item v) (versioned_value v s)
    ≡ spelling based_item (based_value v b s)
spelled_by One b s =
    append_assoc (number_spelling 4 1) (spelling (begun_item One) (begun_value One b))
    (spelling (replay_item One) (versioned_value One s))
spelled_by Two b s =
    append_assoc (number_spelling 4 2) (spelling (begun_item Two) (begun_value Two b))
    (spelling (replay_item Two) (versioned_value Two s))

-- it is spelled as its base and then its log
pub spelled_based : (b : BaseParts) (s : VersionedParts) → s.log_version ≡ b.log_version
    → spelling base_item (base_value b) ++ spelling (replay_item s.log_version) (versioned_value s.log_version s)
    ≡ spelling based_item (based_value b.log_version b s)
spelled_based b s is =
    ap (λ v. spelling base_item (base_value b) ++ spelling (replay_item v) (versioned_value v s)) is
    ∙ spelled_by b.log_version b s

-- ---- reading

-- of parts of a log of version 1
pub one_based : (b : BaseParts) (s : VersionedParts) (x : Value (begun_item One)) → b.log_version ≡ One
    → begun_value One b ≡ x
    → ◌≡◌ {A = Value based_item} (based_value b.log_version b s) (1, (x, versioned_value One s))
one_based b s x is same =
    ap (λ v. based_value v b s) is
    ∙ ap (λ (y : Value (begun_item One)). (1, (y, versioned_value One s))) same

-- of parts of one of version 2
pub two_based : (b : BaseParts) (s : VersionedParts) (x : Value (begun_item Two)) (y : Value (replay_item Two))
    → b.log_version ≡ Two → begun_value Two b ≡ x → versioned_value Two s ≡ y
    → ◌≡◌ {A = Value based_item} (based_value b.log_version b s) (2, (x, y))
two_based b s x y is same log =
    ap (λ v. based_value v b s) is
    ∙ ap (λ (z : Value (begun_item Two)). (2, (z, versioned_value Two s))) same
    ∙ ap (λ (z : Value (replay_item Two)). (2, (x, z))) log

-- ---- writing

-- it is written as its base and then its log
pub based_adds : {E : Type 0} (b : BaseParts) (s : VersionedParts) (old mid new : List ℕ)
    (r : Result (Unit {0}) E) → s.log_version ≡ b.log_version → mid ≡ old ++ spelling base_item (base_value b)
    → Writes (replay_item s.log_version) (versioned_value s.log_version s) mid r new
    → Adds (spelling based_item (based_value b.log_version b s)) old r new
based_adds {E} b s old mid new (Ok x) is start h =
    h ∙ ap (λ (a : List ℕ). a ++ spelling (replay_item s.log_version) (versioned_value s.log_version s)) start
    ∙ append_assoc old (spelling base_item (base_value b))
    (spelling (replay_item s.log_version) (versioned_value s.log_version s))
    ∙ ap (λ (a : List ℕ). old ++ a) (spelled_based b s is)
based_adds {E} b s old mid new (Err x) is start h = (spelling base_item (base_value b), h ∙ start)
