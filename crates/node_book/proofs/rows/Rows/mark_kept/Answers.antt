use Rattle.std.proofs.Common.{◌≡◌, ◌==◌, false, Some, None, sym, ap, subst, ◌∙◌, arith}
use Rattle.std.proofs.lemmas.Bool.Decides.{nat_tests}
use Rattle.std.specs.Prelude.{option_map}
use Rattle.secure_log.specs.Marks.{mark_in, segment_mark_at}
use Rattle.witness_spec.specs.Exposing.{segment_holding}
use Rattle.node_book.specs.Rows.{book_in, segments_in}
use Rattle.node_book.specs.Looking.{FollowOn}
use Rattle.node_book.proofs.LookUps.{follow_on, held_in, held_out}
use Rattle.node_book.proofs.rows.Rows.mark_kept.Goals as goal

pub segment_holding-requires : goal.segment_holding-requires
segment_holding-requires c =
    subst (λ cs. FollowOn (segments_in cs)) (sym c.deref.ensures.value)
    (follow_on (book_in c.args.self.now) c.requires)

-- a segment holds the number
pub returns-in-Some : goal.returns-in-Some
returns-in-Some c =
    let b = book_in c.args.self.now in
    let n = c.args.number in
    let s = c.in-Some.segment.now.segment in
    let some : (n == 0) ≡ false = grind (arith, nat_tests) in
    let held : segment_holding n b.segments ≡ Some s =
    ap (λ cs. segment_holding n (segments_in cs)) (sym c.deref.ensures.value) ∙ sym c.in-Some.ensures in
    let there : option_map mark_in c.mark_at.result ≡ segment_mark_at s n =
    c.mark_at.ensures ∙ ap (λ x. segment_mark_at x.segment n) c.closed.ensures.segment in
    there ∙ held_in b n s c.requires some held

-- none holds it
pub returns-in-None : goal.returns-in-None
returns-in-None c =
    let b = book_in c.args.self.now in
    let n = c.args.number in
    let some : (n == 0) ≡ false = grind (arith, nat_tests) in
    let held : segment_holding n b.segments ≡ None =
    ap (λ cs. segment_holding n (segments_in cs)) (sym c.deref.ensures.value) ∙ sym c.in-None.ensures in
    let rest = held_out b n some held in
    cc (c.learned_hash.ensures, c.deref-in-None.ensures.value, rest)
