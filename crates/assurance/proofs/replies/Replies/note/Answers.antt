use Rattle.std.proofs.Common.{ℕ, ◌-◌, ◌==◌, sym, ap, subst, ◌∙◌, List, [], ◌∷◌, ◌++◌}
use Rattle.std.specs.Prelude.{filter, not, if◌then◌else◌}
use Rattle.std.specs.List.{list_any}
use Rattle.assurance.specs.Events.{Taken}
use Rattle.assurance.specs.Keeping.{StandsFor}
use Rattle.assurance.specs.Passing.{Showed, StandsBy, acknowledged, history}
use Rattle.assurance.specs.declared.shown.ShownOf.{ShownOf}
use Rattle.assurance.specs.declared.shown.ShownOf.TheVariants.{Receipt, Reply}
use Rattle.assurance.proofs.Passing.{noted}
use Rattle.assurance.proofs.replies.Replies.note.Goals as goal

pub returns-in-Receipt : goal.returns-in-Receipt
returns-in-Receipt c = λ p s.
    subst (λ (of : ShownOf). StandsBy c.args.server (Showed of c.args.signed.now c.args.answer ∷ p)
    (record { assurance = c.args.self.now.assurance; acknowledged = c.push_reserved.new.self }))
    (sym c.in-Receipt.is)
    (noted c.args.server p (Receipt c.in-Receipt.number) c.args.signed.now c.args.answer
    (record { assurance = c.args.self.now.assurance; acknowledged = c.push_reserved.new.self })
    (sym c.is_taken.ensures ∙ c.if-not-is_taken.false) s.assurance
    (c.push_reserved.ensures.items ∙ ap (λ xs. xs ++ c.in-Receipt.number ∷ []) s.acknowledged))

pub returns-in-Reply : goal.returns-in-Reply
returns-in-Reply c = λ p s.
    subst (λ (of : ShownOf). StandsBy c.args.server (Showed of c.args.signed.now c.args.answer ∷ p) c.note_reply.new.self)
    (sym c.in-Reply.is)
    (noted c.args.server p (Reply c.in-Reply.number) c.args.signed.now c.args.answer c.note_reply.new.self
    (sym c.is_taken.ensures ∙ c.if-not-is_taken.false)
    (subst
    (λ (calls : List ℕ). StandsFor
    (if list_any (λ n. n == c.in-Reply.number - 2) calls then Taken c.in-Reply.number ∷ history c.args.server p
    else history c.args.server p) c.note_reply.new.self.assurance)
    s.acknowledged (c.note_reply.ensures.taken (history c.args.server p) s.assurance))
    (c.note_reply.ensures.rest ∙ ap (filter (λ n. not (n == c.in-Reply.number - 2))) s.acknowledged))
