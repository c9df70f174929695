use Rattle.std.proofs.Common.{◌≡◌, ◌+◌, All, vec_len, ap, sym, ◌∙◌, subst, arith}
use Rattle.std.proofs.lemmas.List.Elements.{All-pop}
use Rattle.hand_off.specs.Seats.{Count, Posting, Working, count, idle_at}
use Rattle.replay_pool.proofs.Posted.{retired_more}
use Rattle.replay_pool.proofs.slots.retire_all.Goals as goal

pub loop-seat-preserved : goal.loop-seat-preserved
loop-seat-preserved c =
    let own = c.loop-seat.invariant.workers in
    record {
      slots = ap (λ (p : Posting). p.slots) c.retire.ensures ∙ c.loop-seat.invariant.slots;
      jobs = ap (λ (p : Posting). p.jobs) c.retire.ensures ∙ c.loop-seat.invariant.jobs;
      idle = (All-pop (λ (w : Working). w ≡ idle_at c.args.hand_off.now) c.loop-seat.seats.items c.pop.new.self.items
          c.pop.result c.pop.ensures.items c.loop-seat.invariant.idle).0;
      workers = (
        own.0 + 1,
        omega (arith, c.in-Some.ensures.len, own.1),
        subst (All (λ (w : Count). w ≡ count (vec_len c.args.seats) (own.0 + 1)))
            (ap (λ (p : Posting). p.workers) (sym c.retire.ensures))
            (retired_more (vec_len c.args.seats) own.0 c.loop-seat.poster.workers own.2),
      );
    }
