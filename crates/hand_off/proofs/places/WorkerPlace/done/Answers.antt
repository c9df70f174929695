use Rattle.std.proofs.Common.{Bool, None, subst}
use Rattle.hand_off.specs.Places.{IsWorkerPlace}
use Rattle.hand_off.proofs.Naming.{held_is, worker_names, job_of}
use Rattle.hand_off.proofs.places.WorkerPlace.done.Goals as goal

pub done-requires-clause-holds : goal.done-requires-clause-holds
done-requires-clause-holds c =
    let own = subst (λ (b : Bool). IsWorkerPlace c.self.inside.worker b c.self.inside.seat.me) c.if-not-self.false
    c.self.invariant.1 in (
      c.self.inside.worker,
      own.0,
      own.1,
      c.requires.own own.0 (held_is _ _ c.self.inside.seat.me _ _ c.self.view_is own.1),
    )

pub invariant_of-self : goal.invariant_of-self
invariant_of-self c =
    let own = subst (λ (b : Bool). IsWorkerPlace c.self.inside.worker b c.self.inside.seat.me) c.if-not-self.false
    c.self.invariant.1 in
    (c.self.invariant.0, c.done.ensures.idle c.self.inside.worker own.0 own.1)

pub returns-clause-given : goal.returns-clause-given
returns-clause-given c =
    let own = subst (λ (b : Bool). IsWorkerPlace c.self.inside.worker b c.self.inside.seat.me) c.if-not-self.false
    c.self.invariant.1 in
    worker_names _ _ _ c.self.inside.seat.me c.done.new.seat.me None c.self.view_is c.done.ensures.same.0
    (job_of _ _ (c.done.ensures.idle c.self.inside.worker own.0 own.1))
