use Rattle.std.proofs.Common.{◌≡◌, ◌∙◌, Some, ap, sym, subst}
use Rattle.authenticator.specs.declared.member.LogVersion.{LogVersion}
use Rattle.witness_spec.specs.Exposing.{segment_holding}
use Rattle.node_book.specs.Rows.{book_in, segments_in}
use Rattle.node_book.specs.Looking.{FollowOn, HasWordsOf}
use Rattle.node_book.proofs.ForkTexts.{alone_has_words}
use Rattle.node_book.proofs.LookUps.{follow_on, of_the_log}
use Rattle.node_book.proofs.rows.Rows.showing_kept.Goals as goal

pub segment_holding-requires : goal.segment_holding-requires
segment_holding-requires c =
    subst (λ cs. FollowOn (segments_in cs)) (sym c.deref-2.ensures.value)
    (follow_on (book_in c.args.self.now) c.requires.fits)

-- an authenticator alone has no words that would have to follow
pub returns-in-Some-clause-words : goal.returns-in-Some-clause-words
returns-in-Some-clause-words c =
    subst (HasWordsOf c.args.self.now.log_version) (sym c.in_ok-showing.ensures.parts)
    (alone_has_words c.args.self.now.log_version c.in-Some.authenticator.now)

-- those of a segment follow, which is of the book's version
pub returns-clause-words : goal.returns-clause-words
returns-clause-words c =
    let b = book_in c.args.self.now in
    let s = c.in-Some-segment_holding.segment.now.segment in
    let held : segment_holding c.args.number b.segments ≡ Some s =
    ap (λ cs. segment_holding c.args.number (segments_in cs)) (sym c.deref-2.ensures.value)
    ∙ sym c.in-Some-segment_holding.ensures in
    let version : c.closed.result.now.segment.log_version ≡ c.args.self.now.log_version =
    ap (λ x. x.segment.log_version) c.closed.ensures.segment ∙ of_the_log b c.args.number s c.requires.fits held in
    subst (λ (v : LogVersion). HasWordsOf v c.in_ok-showing-2.showing) version c.in_ok-showing-2.ensures.words
