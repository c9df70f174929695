use Rattle.std.proofs.Common.{◌≡◌, inl, inr, length, refl, rules}
use Rattle.rpc_streams.proofs.Written.{within, whole_batch, part_of_batch, part_of_held, refused_after}
use Rattle.rpc_streams.proofs.stream.serve_at_hand.Goals as goal

pub pass-requires : goal.pass-requires
pass-requires g c =
    rw (c.taken.ensures, ← c.at_hand.ensures.bytes)
    (within c.write_front-written.result c.fill-filled.ensures.batch)

pub returns-then-written-held-clause-stops : goal.returns-then-written-held-clause-stops
returns-then-written-held-clause-stops g c =
    let written = rw c.deref.ensures.value at c.write_front-written.ensures.text in
    let part = part_of_held _ _ c.write_front-written.result c.fill-filled.ensures.batch
    (search rules) written in
    inl (refl, (refl, part))

pub returns-then-written-len-clause-stops : goal.returns-then-written-len-clause-stops
returns-then-written-len-clause-stops g c =
    let taken = rw (c.taken.ensures, ← c.at_hand.ensures.bytes) at c.pass.ensures.taken in
    let written = rw c.deref.ensures.value at c.write_front-written.ensures.text in
    inr (part_of_batch _ _ _ _ c.write_front-written.result c.fill-filled.ensures.batch
    (search rules) (search rules) taken written)

pub returns-then-is_err-clause-stops : goal.returns-then-is_err-clause-stops
returns-then-is_err-clause-stops g c =
    let taken = rw (c.taken.ensures, ← c.at_hand.ensures.bytes) at c.pass.ensures.taken in
    let written = rw c.deref.ensures.value at c.write_front-written.ensures.text in
    inr (refused_after _ _ (whole_batch _ _ _ _ c.write_front-written.result c.fill-filled.ensures.batch
    (search rules) taken written))

pub returns-clause-answers : goal.returns-clause-answers
returns-clause-answers g c =
    let taken = rw (c.taken.ensures, ← c.at_hand.ensures.bytes) at c.pass.ensures.taken in
    let written = rw c.deref.ensures.value at c.write_front-written.ensures.text in
    let count : c.len-2.result ≡ length c.fill-filled.new.self.ends.items = search rules in
    rw count (whole_batch _ _ _ _ c.write_front-written.result c.fill-filled.ensures.batch
    (search rules) taken written)
