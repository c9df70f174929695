use Rattle.std.proofs.Common.{◌≡◌, ◌∙◌, ap, ap₂, sym}
use Rattle.std.specs.Arc.{arc_value}
use Rattle.authenticator.specs.Numbers.{number_in}
use Rattle.witness_spec.specs.Pairs.{last_of}
use Rattle.witness_book_laws.specs.Going.{having_filed}
use Rattle.replay_jobs.specs.Jobs.{verdict_told}
use Rattle.node_book.specs.Rows.{book_in}
use Rattle.node_book.proofs.Faulted.{sound_filed}
use Rattle.node_book.proofs.rows.Rows.file.Goals as goal

-- the end moves to the segment's last number
pub returns-in-Sound-clause-after : goal.returns-in-Sound-clause-after
returns-in-Sound-clause-after c =
    let b = book_in c.args.self.now in
    let s = c.args.segment.segment in
    let same : c.segment-given.result.now ≡ s =
    c.segment-given.ensures.segment ∙ ap (λ x. x.segment) c.closed.ensures.segment in
    let end : c.get-end.result ≡ last_of s =
    c.get-end.ensures.value ∙ c.number.ensures
    ∙ ap₂ number_in c.log_version.ensures (ap (λ a. a.word) c.closing.ensures) ∙ ap last_of same in
    c.move_end.ensures.after
    ∙ sound_filed b s c.in-Sound.state (arc_value c.in-Sound.found).items c.get-end.result end
    ∙ ap (λ v. having_filed b s (verdict_told v)) (sym c.in-Sound.is)
