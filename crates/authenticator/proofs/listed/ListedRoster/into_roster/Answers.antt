use Rattle.std.proofs.Common.{◌≡◌, sym, ◌∙◌, subst}
use Rattle.std.specs.Prelude.{IsTrue}
use Rattle.std.proofs.lemmas.Bool.{true≢false}
use Rattle.xdr.specs.Item.{Fits}
use Rattle.authenticator.specs.Roster.{ListedParts, is_roster_value, listed_value, roster_item, some_gaps}
use Rattle.authenticator.proofs.Forms.{listed_roster, no_gaps_no_text}
use Rattle.authenticator.proofs.listed.ListedRoster.into_roster.Goals as goal

pub returns-then-not-has_gaps-clause-none : goal.returns-then-not-has_gaps-clause-none
returns-then-not-has_gaps-clause-none c =
    let l = c.self.inside in
    let gaps : c.has_gaps.result ≡ some_gaps l.members.items = rw c.deref.ensures.value at c.has_gaps.ensures in
    subst (λ (x : ListedParts). ¬ (Fits roster_item (listed_value x) × IsTrue (is_roster_value (listed_value x))))
    c.self.view_is
    (λ h. no_gaps_no_text l.second l.members.items c.self.invariant.0 c.if-self.true
    (sym gaps ∙ c.if-not-has_gaps.true) h.1)

pub returns-in-Err-clause-none : goal.returns-in-Err-clause-none
returns-in-Err-clause-none c =
    let l = c.self.inside in
    subst (λ (x : ListedParts). ¬ (Fits roster_item (listed_value x) × IsTrue (is_roster_value (listed_value x))))
    c.self.view_is
    (λ h. true≢false (sym (c.in-Err.ensures.exact.1
    (listed_roster l.second l.members.items c.self.invariant.0 h.0 h.1))))
