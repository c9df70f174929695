use Rattle.std.proofs.Common.{◌≡◌, ◌<◌, ◌≤◌, length, get_or, Some, sym, ap, ◌∙◌, arith}
use Rattle.secure_log.specs.Versioned.{ClosedParts, VersionedParts}
use Rattle.witness_spec.specs.Pairs.{first_of}
use Rattle.node_book.specs.Rows.{segments_in}
use Rattle.node_book.specs.Looking.{count_ended}
use Rattle.node_book.proofs.Searches.{holds_at, holds_later, holds_none}
use Rattle.node_book.proofs.looking.segment_holding.Goals as goal

-- none is left of those that don't end before the number
pub returns-then-segments-count : goal.returns-then-segments-count
returns-then-segments-count c =
    let cs = c.args.segments.now in
    let all : length cs ≤ count_ended c.args.number (segments_in cs) =
    omega (arith, c.count_ended-count.ensures.count) in
    sym (holds_none c.args.number cs all)

-- the first of them holds the number
pub returns-then-get-number : goal.returns-then-get-number
returns-then-get-number c =
    let cs = c.args.segments.now in
    let d = c.index-segments-count.result in
    let count = c.count_ended-count.ensures.count in
    let within : count_ended c.args.number (segments_in cs) < length cs = omega (arith, count) in
    let is : d ≡ get_or cs (count_ended c.args.number (segments_in cs)) d =
    c.index-segments-count.is ∙ ap (λ k. get_or cs k d) count in
    let first : c.get.result ≡ first_of d.segment =
    c.get.ensures.value ∙ c.first.ensures
    ∙ ap (λ (s : VersionedParts). s.first) (c.segment.ensures.segment ∙ ap (λ (x : ClosedParts). x.segment) c.closed.ensures.segment) in
    let low : first_of (get_or cs (count_ended c.args.number (segments_in cs)) d).segment ≤ c.args.number =
    omega (arith, first, ap (λ (x : ClosedParts). first_of x.segment) is) in
    sym (holds_at c.args.number cs d within low ∙ ap (λ (e : ClosedParts). Some e.segment) (sym is))

-- or it begins after it
pub returns-else-get-number : goal.returns-else-get-number
returns-else-get-number c =
    let cs = c.args.segments.now in
    let d = c.index-segments-count.result in
    let count = c.count_ended-count.ensures.count in
    let within : count_ended c.args.number (segments_in cs) < length cs = omega (arith, count) in
    let is : d ≡ get_or cs (count_ended c.args.number (segments_in cs)) d =
    c.index-segments-count.is ∙ ap (λ k. get_or cs k d) count in
    let first : c.get.result ≡ first_of d.segment =
    c.get.ensures.value ∙ c.first.ensures
    ∙ ap (λ (s : VersionedParts). s.first) (c.segment.ensures.segment ∙ ap (λ (x : ClosedParts). x.segment) c.closed.ensures.segment) in
    let high : c.args.number < first_of (get_or cs (count_ended c.args.number (segments_in cs)) d).segment =
    omega (arith, first, ap (λ (x : ClosedParts). first_of x.segment) is) in
    sym (holds_later c.requires.first c.args.number cs c.requires.next d c.requires.tile within high)
