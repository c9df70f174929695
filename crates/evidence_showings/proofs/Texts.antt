-- What was read has a text, and what it says is that text's value.
-- Serves: of_front, into_showing, PlainBase::into_base.
use Rattle.std.proofs.Common.{◌≡◌, ℕ, ◌+◌, ◌-◌, List, [], ◌∷◌, Ok, ap, map, refl}
use Rattle.std.specs.List.{AllByRecursion}
use Rattle.xdr.specs.Item.{Fits, IsBytes}
use Rattle.xdr.specs.Reading.{read_at}
use Rattle.xdr.proofs.Exact.{takes}
use Rattle.authenticator.specs.declared.member.LogVersion.TheVariants.{One, Two}
use Rattle.authenticator.specs.Signed.{authenticator_value}
use Rattle.evidence_spec.specs.Base.{begun_value}
use Rattle.evidence_spec.specs.Showing.{link_value, numbered, showing_item, showing_value}
use Rattle.evidence_showings.specs.Bases.{PlainBaseParts, plain_base_value}
use Rattle.evidence_showings.specs.Plain.{PlainLinkParts, PlainParts, plain_link, plain_link_value}
use Rattle.evidence_showings.specs.Plain.{plain_showing}
use Rattle.evidence_showings.specs.Plain.{plain_value}
use Rattle.evidence_showings.specs.Worded.{WordedParts, worded_value}

-- what was read has a text
pub read_fits : (bytes rest : List ℕ) (s : PlainParts) → IsBytes bytes
    → read_at (showing_item One) bytes ≡ Ok (plain_value s, rest) → Fits (showing_item One) (plain_value s)
read_fits bytes rest s bound e = (takes (showing_item One) bytes (plain_value s, rest) bound e).1

-- so it has with words
pub read_words_fit : (bytes rest : List ℕ) (s : WordedParts) → IsBytes bytes
    → read_at (showing_item Two) bytes ≡ Ok (worded_value s, rest) → Fits (showing_item Two) (worded_value s)
read_words_fit bytes rest s bound e = (takes (showing_item Two) bytes (worded_value s, rest) bound e).1

-- links that skip nothing say what stood in the text
links_back : (before : ℕ) (ls : List PlainLinkParts)
    → map (link_value One) (numbered before (map plain_link ls)) ≡ map plain_link_value ls
links_back before [] = refl
links_back before (l ∷ ls) = ap (λ vs. plain_link_value l ∷ vs) (links_back (before + 1 + 0) ls)

-- and so does the showing
pub value_back : (s : PlainParts) → showing_value One (plain_showing s) ≡ plain_value s
value_back s = ap (λ vs. (s.node, (s.first, (s.opening, (vs, authenticator_value s.closing)))))
    (links_back (s.first - 1) s.links)

-- and its links skip nothing
pub plain_no_more : (ls : List PlainLinkParts) → AllByRecursion (λ l. l.skipped ≡ 0) (map plain_link ls)
plain_no_more [] = tt
plain_no_more (l ∷ ls) = (refl, plain_no_more ls)

-- so does a base of a log of version 1
pub plain_base_back : (b : PlainBaseParts)
    → begun_value One (record { log_version = One; showing = plain_showing b.showing; at = b.at; state = b.state })
    ≡ plain_base_value b
plain_base_back b = ap (λ x. (x, (b.at, b.state))) (value_back b.showing)
