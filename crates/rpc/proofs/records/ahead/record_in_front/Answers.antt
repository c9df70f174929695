use Rattle.std.proofs.Common.{◌≡◌, ◌++◌, ◌<◌, ◌⊎◌, true, false, inl, inr, length, rules, arith, sym}
use Rattle.std.proofs.Common.{take-append-drop}
use Rattle.rpc.specs.declared.records.record.TheConstants.{MAX_RECORD}
use Rattle.rpc.proofs.OfRecords.InFront.{in_front, too_few, not_whole}
use Rattle.rpc.proofs.records.ahead.record_in_front.Goals as goal
use Rattle.rpc.proofs.records.ahead.record_in_front.Goals.{then-not-mark-via-then-not-mark}
use Rattle.rpc.proofs.records.ahead.record_in_front.Goals.{then-not-mark-via-else-not-mark+then-len-gt-MAX_RECORD}
use Rattle.rpc.proofs.records.ahead.record_in_front.Goals.{then-not-mark-via-else-not-mark+else-len-gt-MAX_RECORD+then-len-rest}

pub returns-then-bytes-lt4-clause-none : goal.returns-then-bytes-lt4-clause-none
returns-then-bytes-lt4-clause-none c = λ _. too_few _ c.if-bytes-lt4.true

pub returns-then-not-mark-clause-none : goal.returns-then-not-mark-clause-none
returns-then-not-mark-clause-none c =
    let cut : c.args.bytes.now ≡ c.split_at.result.0.now ++ c.split_at.result.1.now =
    rw (c.split_at.ensures.front, c.split_at.ensures.back) (sym (take-append-drop 4 c.args.bytes.now)) in
    let other : (c.mark_of-mark.result.is_last ≡ false)
    ⊎ ((MAX_RECORD < c.mark_of-mark.result.len)
    ⊎ (length c.split_at.result.1.now < c.mark_of-mark.result.len)) =
    elim c.then-not-mark.branch [
      | then-not-mark-via-then-not-mark w ↦ inl (search (rules, w.if-not-mark.true))
      | then-not-mark-via-else-not-mark+then-len-gt-MAX_RECORD w ↦ inr (inl w.if-len-gt-MAX_RECORD.true)
      | then-not-mark-via-else-not-mark+else-len-gt-MAX_RECORD+then-len-rest w ↦ inr (inr w.if-len-rest.true)
    ] in
    λ _. not_whole _ _ _ _ _ cut c.mark_of-mark.ensures.text c.mark_of-mark.ensures.len other

pub returns-clause-found : goal.returns-clause-found
returns-clause-found c =
    let cut : c.args.bytes.now ≡ c.split_at.result.0.now ++ c.split_at.result.1.now =
    rw (c.split_at.ensures.front, c.split_at.ensures.back) (sym (take-append-drop 4 c.args.bytes.now)) in
    let last : c.mark_of-mark.result.is_last ≡ true = search (rules, c.if-not-mark.false) in
    in_front _ _ _ _ _ cut c.mark_of-mark.ensures.text last c.if-len-gt-MAX_RECORD.false c.if-len-rest.false
