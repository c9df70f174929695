use Rattle.std.proofs.Common.{◌≡◌, ◌+◌, ◌++◌, ◌∷◌, [], length, refl, rules}
use Rattle.rpc_streams.specs.RunRpc.{time_of}
use Rattle.rpc_streams.proofs.Filled.{nothing, one_more, behind}
use Rattle.rpc_streams.proofs.batch.Batch.fill.Goals as goal

pub loop-self-init : goal.loop-self-init
loop-self-init c =
    (nothing _ _ _ _ _ c.clear.ensures.items, search rules, search rules)

pub loop-self-preserved : goal.loop-self-preserved
loop-self-preserved c =
    let time : c.time_of_record-time.result ≡ time_of (c.args.k + length c.loop-self.self.ends.items) =
    search rules in
    let record_now = c.in-Some.record.now in
    let owed : c.len-owed.result ≡ length c.answer_record.new.replies.items = search rules in
    let pushed : c.push.new.self.items
    ≡ c.loop-self.self.ends.items
    ++ record { taken = c.loop-self.taken + (4 + length record_now); owed = c.len-owed.result } ∷ [] =
    search rules in
    let filled = one_more record_now (c.loop-self.taken +
    (4 + length record_now)) c.len-owed.result c.loop-self.invariant.0
    (rw (behind c.loop-self.taken c.args.bytes.now) at c.in-Some.ensures.found)
    (rw time at c.in_ok-answer_record.ensures.world)
    (rw time at c.in_ok-answer_record.ensures.text) refl owed in
    (rw pushed filled, search (rules, pushed), search rules)
