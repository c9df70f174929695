-- The texts of forks, by the version of the log.
-- Serves: Fork::is_whole, Fork::fits, add_fork, into_charge.
use Rattle.std.proofs.Common.{◌≡◌, Bool, true, false, ◌&&◌, refl, sym, ◌∙◌, arith, option_map}
use Rattle.std.specs.Prelude.{IsTrue}
use Rattle.xdr.specs.Item.{Fits, choice}
use Rattle.authenticator.specs.declared.member.LogVersion.{LogVersion}
use Rattle.authenticator.specs.declared.member.LogVersion.TheVariants.{One, Two}
use Rattle.evidence_showings.specs.evidence_spec.Showing.{links_follow, showing_value}
use Rattle.evidence_showings.specs.evidence_spec.Evidence.{ForkParts, charge_item, fork_charge, fork_item}
use Rattle.evidence_showings.specs.evidence_spec.Evidence.{fork_value, is_charge, is_whole_charge}
use Rattle.evidence_showings.specs.evidence_spec.Evidence.{second_follows}

-- a fork of a log of version 1 has the text of its kind
pub fits_one : (v : LogVersion) (f : ForkParts) → v ≡ One → Fits (fork_item One) (fork_value One f)
    → Fits (choice is_charge charge_item) (fork_charge v f)
fits_one v f is fits = rw is (omega arith, refl, fits)

-- so has one of a log of version 2
pub fits_two : (v : LogVersion) (f : ForkParts) → v ≡ Two → Fits (fork_item Two) (fork_value Two f)
    → Fits (choice is_charge charge_item) (fork_charge v f)
fits_two v f is fits = rw is (omega arith, refl, fits)

-- every fork of a log of version 1 is whole
pub whole_one : (v : LogVersion) (f : ForkParts) → v ≡ One → true ≡ is_whole_charge (fork_charge v f)
whole_one v f is = rw is refl

-- the words of both its showings follow
abbrev pub both_follow : ForkParts → Bool
both_follow f = links_follow Two (showing_value Two f.a) && second_follows (option_map (showing_value Two) f.b)

-- one of a log of version 2 is where its words follow
pub whole_two : (v : LogVersion) (f : ForkParts) → v ≡ Two → is_whole_charge (fork_charge v f) ≡ both_follow f
whole_two v f is = rw is refl

-- two tests pass where both together do
pub both : (a b : Bool) → IsTrue (a && b) → IsTrue a × IsTrue b
both true b h = (refl, h)
both false b h = absurd cc

-- the words of a whole fork's showings follow
pub words_of_whole : (v : LogVersion) (f : ForkParts) → v ≡ Two → IsTrue (is_whole_charge (fork_charge v f))
    → IsTrue (links_follow Two (showing_value Two f.a))
    × IsTrue (second_follows (option_map (showing_value Two) f.b))
words_of_whole v f is whole =
    both (links_follow Two (showing_value Two f.a)) (second_follows (option_map (showing_value Two) f.b))
    (sym (whole_two v f is) ∙ whole)
