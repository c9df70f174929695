-- The log that is shown has the audited entries, and those of the segment that is out.
use Rattle.std.proofs.Common.{◌≡◌, ◌-◌, None, length, ap, sym, subst, ◌∙◌}
use Rattle.node_book.proofs.Faulted.{exposed_by, faulted_shows}
use Rattle.node_book.specs.Rows.{ShowsLog, book_in, evidence_in, segments_in}
use Rattle.node_book.proofs.rows.Rows.expose_by_replay.Goals as goal

-- the evidence is made of as many segments as stand before the last
pub returns-in-Nothing-clause-after : goal.returns-in-Nothing-clause-after
returns-in-Nothing-clause-after c =
    let b = book_in c.args.self.now in
    let none : b.evidence ≡ None = ap (λ e. evidence_in b.base b.log_version b.node b.segments e) c.in-Nothing.is in
    let is : c.all_but_one-before.result ≡ length b.segments - 1 =
    c.all_but_one-before.ensures ∙ ap (λ l. length (segments_in l) - 1) c.deref.ensures.value in
    ap (λ e. record b { evidence = e })
    (sym (exposed_by b c.args.segment c.all_but_one-before.result c.requires.ready.fits c.requires.out none is))

-- they are a log that may be shown
pub returns-in-Nothing-clause-keeps : goal.returns-in-Nothing-clause-keeps
returns-in-Nothing-clause-keeps c =
    let b = book_in c.args.self.now in
    let is : c.all_but_one-before.result ≡ length b.segments - 1 =
    c.all_but_one-before.ensures ∙ ap (λ l. length (segments_in l) - 1) c.deref.ensures.value in (
      c.requires.keeps.0,
      subst (λ n. ShowsLog b.base b.log_version b.segments n c.args.segment.segment) (sym is)
          (faulted_shows b c.args.segment c.requires.ready.fits c.requires.ready.limits c.requires.out),
    )
