use Rattle.std.proofs.Common.{arith}
use Rattle.std.specs.Vec.Iter.{into_iter_items}
use Rattle.witness_books.proofs.Running.{has_run_more, has_run_none}
use Rattle.witness_books.proofs.runs.run_all.Goals as goal

pub steps-init : goal.steps-init
steps-init c =
    let room = c.requires.room in
    let len = c.into_iter-rest.ensures.len in
    record {
      run = has_run_none c.runs_are_histories.ensures.none c.args.books.now c.args.events.items
          (into_iter_items c.into_iter-rest.result) c.args.replies.items c.into_iter-rest.ensures.rest
          c.requires.none;
      room = omega (arith, room, len);
    }

pub steps-preserved : goal.steps-preserved
steps-preserved c =
    let room = c.steps.invariant.room in
    let rest = c.in-Some.ensures.len in
    let len = c.push_reserved.ensures.len in
    let capacity = c.push_reserved.ensures.capacity in
    record {
      run = has_run_more c.runs_are_histories.ensures.more c.args.books.now c.steps.books
          c.step-reply.new.self c.args.events.items (into_iter_items c.steps.rest)
          (into_iter_items c.next.new.self) c.steps.replies.items c.push_reserved.new.self.items
          c.in-Some.event c.step-reply.result c.steps.invariant.run c.in-Some.ensures.items
          c.push_reserved.ensures.items c.step-reply.ensures.beginning c.step-reply.ensures.steps
          c.step-reply.ensures.memory c.step-reply.ensures.more;
      room = omega (arith, room, rest, len, capacity);
    }
