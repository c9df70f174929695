use Rattle.std.proofs.Common.{◌≡◌, ◌∙◌, ◌++◌, ap, length, map, sym}
use Rattle.secure_log.specs.LogEntries.Chain.{Logged}
use Rattle.secure_log.specs.LogEntries.Words.{logged}
use Rattle.node_book.specs.Shown.{counts_of}
use Rattle.node_book.proofs.Shown.{ok_then, one_more}
use Rattle.node_book.proofs.replayed.add_segment.Goals as goal

-- its entries, with what is skipped before each
pub returns : goal.returns
returns c = λ log is.
    let t = c.args.segment.now.segment in
    let same : c.segment-segment.result.now ≡ t =
    c.segment-segment.ensures.segment ∙ ap (λ x. x.segment) c.closed.ensures.segment in
    let given : c.entries-2.result.now ≡ map (λ (l : Logged). l.entry) t.entries =
    c.entries-2.ensures.entries ∙ ap (λ x. map (λ (l : Logged). l.entry) x.entries) same in
    let again : c.entries.result.now ≡ c.entries-2.result.now =
    c.entries.ensures.entries ∙ sym c.entries-2.ensures.entries in
    let back : logged c.skips.result.now c.entries-2.result.now ≡ t.entries =
    ap (logged c.skips.result.now) c.entries-2.ensures.entries ∙ c.skips.ensures ∙ ap (λ x. x.entries) same in
    let grown : c.add_skips.new.out.items
    ≡ c.args.shown.now.skips.items ++ counts_of c.skips.result.now (length c.entries-2.result.now) =
    c.in_ok-add_skips.ensures
    ∙ ap (λ n. c.args.shown.now.skips.items ++ counts_of c.skips.result.now n) (ap length again) in
    ok_then _ _ c.add_copies.result
    (λ _ added. one_more (record { skips = c.add_skips.new.out; entries = c.add_copies.new.out }) log t.entries
    c.args.shown.now.skips.items c.args.shown.now.entries.items c.entries-2.result.now c.skips.result.now
    is.skips is.entries given back grown added) c.add_copies.ensures
