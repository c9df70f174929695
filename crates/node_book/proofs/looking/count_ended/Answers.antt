use Rattle.std.proofs.Common.{rules, of_calls, nat_lt}
use Rattle.std.proofs.lemmas.Fn.{always_returns_same}
use Rattle.secure_log.specs.Versioned.{ClosedParts}
use Rattle.secure_log.proofs.PartitionPoints.{is_partitioned, point_is_count}
use Rattle.witness_spec.specs.Pairs.{last_of}
use Rattle.node_book.specs.Looking.{count_ended}
use Rattle.node_book.specs.Rows.{segments_in}
use Rattle.node_book.proofs.Searches.{pass_in_front}
use Rattle.node_book.proofs.looking.count_ended.Goals as goal

pub returns-clause-count : goal.returns-clause-count
returns-clause-count c =
    let n = c.args.number in
    let cs = c.args.segments.now in
    let passes = pass_in_front c.requires.first n cs c.requires.next c.requires.tile in
    let parts = c.partition_point.ensures.partitioned (λ (s : ClosedParts). nat_lt (last_of s.segment) n)
    (always_returns_same _ _ _ (λ a r f k. search (rules, of_calls)))
    (is_partitioned (λ (s : ClosedParts). nat_lt (last_of s.segment) n) cs (count_ended n (segments_in cs)) passes) in
    point_is_count (λ (s : ClosedParts). nat_lt (last_of s.segment) n) cs (count_ended n (segments_in cs))
    c.partition_point.result passes c.partition_point.ensures.bound parts
