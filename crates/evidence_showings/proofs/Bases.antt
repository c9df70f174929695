-- Bases whose parts have texts have texts, and the other way round.
-- Serves: BaseText::new, BaseText::of_parts, BaseText::state, BaseText::write, add_base.
use Rattle.std.proofs.Common.{◌≡◌, ℕ, ◌-◌, true, List, refl, arith}
use Rattle.xdr.specs.Item.{Fits}
use Rattle.authenticator.specs.declared.member.LogVersion.{LogVersion}
use Rattle.authenticator.specs.declared.member.LogVersion.TheVariants.{One, Two}
use Rattle.authenticator.specs.Numbers.{number_item}
use Rattle.evidence_spec.specs.Base.{BaseParts}
use Rattle.evidence_spec.specs.Showing.{ShowingParts, links_follow, showing_item, showing_value}
use Rattle.evidence_showings.specs.Bases.{HasBaseText, IsShortState}
use Rattle.evidence_showings.specs.Showings.{HasText}
use Rattle.evidence_showings.proofs.Words.{follow_skips, words_fit}

showing_fits : (v : LogVersion) (s : ShowingParts) → HasText s → links_follow v (showing_value v s) ≡ true
    → Fits (showing_item v) (showing_value v s)
showing_fits One s text follow = text
showing_fits Two s text follow = words_fit s text (follow_skips (s.first - 1) s.links follow)

-- of parts with texts
pub has_base : (v : LogVersion) (s : ShowingParts) (at : ℕ) (state : List ℕ) → HasText s
    → links_follow v (showing_value v s) ≡ true → Fits number_item at → IsShortState state
    → HasBaseText (record { log_version = v; showing = s; at = at; state = state })
has_base One s at state text follow number short =
    record { fits = (omega arith, refl, (text, (number, short))); follow = refl }
has_base Two s at state text follow number short =
    record { fits = (omega arith, refl, (showing_fits Two s text follow, (number, short))); follow = follow }

-- its words follow
pub base_words : (b : BaseParts) → HasBaseText b
    → links_follow b.log_version (showing_value b.log_version b.showing) ≡ true
base_words b text = by b.log_version b.showing b.at b.state text
  where
    by : (v : LogVersion) (s : ShowingParts) (at : ℕ) (state : List ℕ)
        → HasBaseText (record { log_version = v; showing = s; at = at; state = state })
        → links_follow v (showing_value v s) ≡ true
    by One s at state h = refl
    by Two s at state h = h.follow

-- its state is short
pub base_short : (b : BaseParts) → HasBaseText b → IsShortState b.state
base_short b text = by b.log_version b.showing b.at b.state text
  where
    by : (v : LogVersion) (s : ShowingParts) (at : ℕ) (state : List ℕ)
        → HasBaseText (record { log_version = v; showing = s; at = at; state = state })
        → IsShortState state
    by One s at state h = h.fits.2.1.1
    by Two s at state h = h.fits.2.1.1
