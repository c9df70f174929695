use Rattle.std.proofs.Common.{◌≡◌, Bool, true, false, refl, sym, subst, ◌∙◌}
use Rattle.std.specs.Prelude.{◌&&◌, ◌||◌, not}
use Rattle.authenticator.specs.Roster.{ListedParts, is_roster_value, listed_value, member_values, rises_above}
use Rattle.authenticator.specs.Roster.{some_gaps}
use Rattle.authenticator.proofs.Forms.{passes}
use Rattle.authenticator.proofs.listed.ListedRosterFromText.has_text.Goals as goal

first : (r s g v : Bool) → (r && (not s || g)) ≡ v → r ≡ true → s ≡ false → not s ≡ v
first true false g v e a b = e
first true true g v e a b = absurd cc
first false s g v e a b = absurd cc

second : (r s g v : Bool) → (r && (not s || g)) ≡ v → r ≡ true → s ≡ true → g ≡ v
second true true g v e a b = e
second true false g v e a b = absurd cc
second false s g v e a b = absurd cc

order : (r s g v : Bool) → (r && (not s || g)) ≡ v → r ≡ false → r ≡ v
order true s g v e a = absurd cc
order false s g v e a = e

pub returns-then-not-self : goal.returns-then-not-self
returns-then-not-self c =
    let l = c.self.inside in
    let ms = l.members.items in
    let rises : c.are_rising.result ≡ rises_above 0 (member_values ms) =
    rw c.deref.ensures.value at c.are_rising.ensures in
    let whole = subst (λ (x : ListedParts). (rises_above 0 (member_values ms) && (not l.second || some_gaps ms))
    ≡ is_roster_value (listed_value x)) c.self.view_is (passes l.second ms c.self.invariant.0) in
    first _ l.second (some_gaps ms) _ whole (sym rises ∙ c.if-are_rising.true) c.if-not-self.true

pub returns-else-not-self : goal.returns-else-not-self
returns-else-not-self c =
    let l = c.self.inside in
    let ms = l.members.items in
    let rises : c.are_rising.result ≡ rises_above 0 (member_values ms) =
    rw c.deref.ensures.value at c.are_rising.ensures in
    let gaps : c.has_gaps.result ≡ some_gaps ms =
    rw c.deref-else-not-self.ensures.value at c.has_gaps.ensures in
    let whole = subst (λ (x : ListedParts). (rises_above 0 (member_values ms) && (not l.second || some_gaps ms))
    ≡ is_roster_value (listed_value x)) c.self.view_is (passes l.second ms c.self.invariant.0) in
    gaps ∙ second _ l.second (some_gaps ms) _ whole (sym rises ∙ c.if-are_rising.true) c.if-not-self.false

pub returns-else-are_rising : goal.returns-else-are_rising
returns-else-are_rising c =
    let l = c.self.inside in
    let ms = l.members.items in
    let rises : c.are_rising.result ≡ rises_above 0 (member_values ms) =
    rw c.deref.ensures.value at c.are_rising.ensures in
    let whole = subst (λ (x : ListedParts). (rises_above 0 (member_values ms) && (not l.second || some_gaps ms))
    ≡ is_roster_value (listed_value x)) c.self.view_is (passes l.second ms c.self.invariant.0) in
    rises ∙ order _ l.second (some_gaps ms) _ whole (sym rises ∙ c.if-are_rising.false)
