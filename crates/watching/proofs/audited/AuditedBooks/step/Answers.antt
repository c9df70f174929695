use Rattle.std.proofs.Common.{◌∙◌, rules}
use Rattle.watching.proofs.OfEnding.{all_of, as_many, ends_follow, none_follows, put_follows}
use Rattle.watching.proofs.OfFiled.{filed_follows}
use Rattle.watching.proofs.audited.AuditedBooks.step.Goals as goal

pub put_end-requires : goal.put_end-requires
put_end-requires c =
    as_many c.self.inside.books c.step-reply.new.self _ _ _ c.self.invariant.0 c.stand.ensures.stand
    c.deref_mut.ensures.value (c.members.ensures ∙ c.roster.ensures) c.step-reply.ensures.beginning

pub invariant_of-self : goal.invariant_of-self
invariant_of-self c =
    let follows = ends_follow c.self.inside.books c.step-reply.new.self _ _ c.sound_end-sound.result
    c.filed_end.result c.self.inside.ends.items c.steps_move_ends.ensures c.stand.ensures.roster
    c.stand.ensures.begins c.stand.ensures.stand c.step-reply.ensures.steps c.sound_end-sound.ensures
    c.filed_end.ensures c.self.invariant.0 in (
      all_of _ _ _ (search rules)
          ∙ put_follows c.self.inside.books c.step-reply.new.self c.filed_end.result c.in-Some.end
          c.self.inside.ends.items _ _ _ follows c.in-Some.is (c.members.ensures ∙ c.roster.ensures)
          c.step-reply.ensures.beginning c.deref_mut.ensures.value c.put_end.ensures,
      filed_follows c.self.inside.books c.step-reply.new.self _ c.step-reply.ensures.beginning _ _ _ _
          c.step-reply.ensures.steps c.stand.ensures.stand c.sound_segment-segment.ensures c.keep_filed.ensures
          c.self.invariant.1,
    )

pub invariant_of-self-in_default : goal.invariant_of-self-in_default
invariant_of-self-in_default c = (
  none_follows c.self.inside.books c.step-reply.new.self c.filed_end.result c.self.inside.ends.items
      (ends_follow c.self.inside.books c.step-reply.new.self _ _ c.sound_end-sound.result c.filed_end.result
      c.self.inside.ends.items c.steps_move_ends.ensures c.stand.ensures.roster c.stand.ensures.begins
      c.stand.ensures.stand c.step-reply.ensures.steps c.sound_end-sound.ensures c.filed_end.ensures
      c.self.invariant.0) c.in_default.is,
  filed_follows c.self.inside.books c.step-reply.new.self _ c.step-reply.ensures.beginning _ _ _ _
      c.step-reply.ensures.steps c.stand.ensures.stand c.sound_segment-segment.ensures c.keep_filed.ensures
      c.self.invariant.1,
)
