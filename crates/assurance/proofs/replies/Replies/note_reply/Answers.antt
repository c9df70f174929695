use Rattle.std.proofs.Common.{rules, ◌≡◌, ℕ, ◌-◌, ◌==◌, Bool, List, ◌∷◌, sym, ap, subst, ◌∙◌}
use Rattle.std.specs.Prelude.{not, if◌then◌else◌}
use Rattle.std.specs.List.{list_any}
use Rattle.std.proofs.lemmas.Fn.{filter_same}
use Rattle.assurance.specs.Events.{Taken}
use Rattle.assurance.specs.Keeping.{StandsFor}
use Rattle.assurance.proofs.replies.Replies.note_reply.Goals as goal

-- whether the call's receipt was taken, by the list's own words
same_any : (call n : ℕ) (xs ys : List ℕ) (b : Bool) → b ≡ list_any (λ y. y == call) xs → xs ≡ ys → call ≡ n
    → list_any (λ y. y == n) ys ≡ b
same_any call n xs ys b is same_list same =
    sym (is ∙ ap (λ (zs : List ℕ). list_any (λ y. y == call) zs) same_list
    ∙ ap (λ (k : ℕ). list_any (λ y. y == k) ys) same)

pub returns-then-not-is_acknowledged-clause-taken : goal.returns-then-not-is_acknowledged-clause-taken
returns-then-not-is_acknowledged-clause-taken c = λ h s.
    subst (λ (b : Bool). StandsFor (if b then Taken c.args.number ∷ h else h) c.args.self.now.assurance)
    (sym (same_any c.saturating_sub-call.result (c.args.number - 2) c.deref.result.now c.args.self.now.acknowledged.items
    c.contains-is_acknowledged.result c.contains-is_acknowledged.ensures.value c.deref.ensures.value
    c.saturating_sub-call.ensures
    ∙ c.if-not-is_acknowledged.true)) s

pub returns-then-not-is_acknowledged-clause-rest : goal.returns-then-not-is_acknowledged-clause-rest
returns-then-not-is_acknowledged-clause-rest c =
    filter_same _ (λ (m : ℕ). not (m == c.args.number - 2)) _ (λ x b f' k. search rules) _ _ c.retain.ensures.filtered

pub returns-clause-taken : goal.returns-clause-taken
returns-clause-taken c = λ h s.
    subst (λ (b : Bool). StandsFor (if b then Taken c.args.number ∷ h else h) c.take.new.self)
    (sym (same_any c.saturating_sub-call.result (c.args.number - 2) c.deref.result.now c.args.self.now.acknowledged.items
    c.contains-is_acknowledged.result c.contains-is_acknowledged.ensures.value c.deref.ensures.value
    c.saturating_sub-call.ensures
    ∙ c.if-not-is_acknowledged.false)) (c.take.ensures h s)

pub returns-clause-rest : goal.returns-clause-rest
returns-clause-rest c =
    filter_same _ (λ (m : ℕ). not (m == c.args.number - 2)) _ (λ x b f' k. search rules) _ _ c.retain.ensures.filtered
