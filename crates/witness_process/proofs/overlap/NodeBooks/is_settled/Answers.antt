-- The books trusted the node, and an audit found nothing.
use Rattle.std.proofs.Common.{rules, subst}
use Rattle.watching.specs.Telling.{Steps}
use Rattle.witness_books.specs.node_book.witness_spec.Events.{Audit}
use Rattle.witness_books.specs.node_book.witness_spec.Replies.{Reply}
use Rattle.witness_process.proofs.OfOverlaps.{looked_into}
use Rattle.witness_process.proofs.overlap.NodeBooks.is_settled.Goals as goal

pub returns-clause-settled : goal.returns-clause-settled
returns-clause-settled c nothing =
    let new = c.step-reply.new.self.books in record {
      between = c.is_trusted.new.standing.books;
      trusted = c.in_ok-is_trusted.ensures.trusted (search rules);
      audited = subst (λ (r : Reply). Steps c.is_trusted.new.standing.books (Audit c.args.self.now.node) r new)
          (c.has_nothing-has_nothing.ensures nothing) c.step-reply.ensures.steps;
    }

-- the node was asked for, and then it was opened for an audit
pub returns-then-is_no_memory-clause-looked : goal.returns-then-is_no_memory-clause-looked
returns-then-is_no_memory-clause-looked c =
    looked_into c.args.self.now.node c.args.self.now.current c.is_trusted.new.standing c.step-reply.new.self _
    c.is_trusted.ensures.asked c.step-reply.ensures.steps c.step-reply.ensures.beginning c.step-reply.ensures.shown

pub returns-clause-looked : goal.returns-clause-looked
returns-clause-looked c =
    looked_into c.args.self.now.node c.args.self.now.current c.is_trusted.new.standing c.step-reply.new.self _
    c.is_trusted.ensures.asked c.step-reply.ensures.steps c.step-reply.ensures.beginning c.step-reply.ensures.shown
