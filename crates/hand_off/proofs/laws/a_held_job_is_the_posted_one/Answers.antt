use Rattle.std.proofs.Common.{◌≡◌, Option, sym, ◌∙◌, subst}
use Rattle.witness_spec.specs.Events.{JobParts}
use Rattle.hand_off.specs.Slots.{Sees, poster}
use Rattle.hand_off.proofs.Keeping.{same_job}
use Rattle.hand_off.proofs.laws.a_held_job_is_the_posted_one.Goals as goal

-- where a worker's seat names a job, the poster's seat names it too, and no other
pub returns : goal.returns
returns c = λ s k i w t at.
    let mine = (k.named i w t at).1 in (
      (k.seat, k.home, k.who, subst (λ (x : Option JobParts). Sees s k.seat (poster x k.home k.who)) mine k.posts),
      λ j job home c' there.
          let same = same_job s k j job home c' there in
          let named : k.job ≡ job = cc in
          sym named ∙ mine,
    )
