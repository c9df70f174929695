-- Where the job isn't the one that is out, that one is another.
use Rattle.std.proofs.Common.{true≢false, ap, sym, ◌∙◌}
use Rattle.witness_book_laws.specs.Books.{job_of, job_out_at}
use Rattle.node_book.specs.Rows.{book_in, stage_in}
use Rattle.node_book.proofs.rows.Rows.decide_coming.Goals as goal

-- the job that is out has another word
pub returns-else-is_job : goal.returns-else-is_job
returns-else-is_job c =
    let b = book_in c.args.self.now in (
      job_of b b.begun c.in-Out.segment,
      (
        ap (λ s. job_out_at b (stage_in s)) c.in-Out.is,
        λ same. true≢false (sym (c.is_job.ensures.1 same) ∙ c.if-is_job.false),
      ),
    )
