use Rattle.std.proofs.Common.{◌≡◌, ◌∙◌, ◌+◌, ◌-◌, ap, arith, subst, sym}
use Rattle.std.specs.List.{AllByRecursion}
use Rattle.evidence_spec.specs.Evidence.{charge_value, is_whole_charge}
use Rattle.challenge.specs.Charges.{charge_in}
use Rattle.secure_log.specs.LogEntries.Chain.{logged_links}
use Rattle.secure_log.specs.LogEntries.Words.{MaySkip, logged}
use Rattle.secure_log.specs.Versioned.{VersionedParts, is_whole_in, versioned_value}
use Rattle.witness_spec.specs.Exposing.{replay_from}
use Rattle.witness_spec.specs.Starting.{start_number}
use Rattle.node_book.specs.Rows.{base_in, first_shown}
use Rattle.node_book.proofs.Shown.{first_are, log_is, shown_few, shown_skips, shown_whole, there}
use Rattle.node_book.proofs.replayed.replayed_evidence.Goals as goal

-- no more entries than evidence may have
pub shown_of-requires : goal.shown_of-requires
shown_of-requires c =
    rw (first_are c.args.before c.args.segments.now) c.requires.shows.most

-- the entries that are shown are so many, begin where the audit did, and skip as they may
pub log_from-requires : goal.log_from-requires
log_from-requires c =
    let base = base_in c.args.base.now in
    let s = c.args.faulty.now.segment in
    let shown = c.in_ok-shown.shown in
    let number : c.first_shown.result ≡ start_number base + 1 =
    c.first_shown.ensures ∙ ap (λ ss. first_shown ss s) (first_are c.args.before c.args.segments.now)
    ∙ c.requires.shows.first in
    let back : c.first_shown.result - 1 ≡ start_number base = omega (arith, number) in (
      omega arith,
      (
        shown_few base c.args.version c.args.segments.now c.args.before s shown c.requires.shows c.in_ok-shown.ensures,
        (
          omega (arith, number),
          subst (λ n. AllByRecursion (MaySkip c.args.version)
              (logged_links n (logged shown.skips.items shown.entries.items))) (sym back)
              (shown_skips base c.args.version c.args.segments.now c.args.before s shown c.requires.shows
              c.in_ok-shown.ensures),
        ),
      ),
    )

-- the log has an entry, and begins at 1 or later
pub unwrap-requires : goal.unwrap-requires
unwrap-requires c =
    let base = base_in c.args.base.now in
    let s = c.args.faulty.now.segment in
    let number : c.first_shown.result ≡ start_number base + 1 =
    c.first_shown.ensures ∙ ap (λ ss. first_shown ss s) (first_are c.args.before c.args.segments.now)
    ∙ c.requires.shows.first in
    let closing : c.closing-closing.result.now ≡ s.closing =
    c.closing-closing.ensures
    ∙ ap (λ (x : VersionedParts). x.closing) (c.segment.ensures.segment ∙ ap (λ x. x.segment) c.closed.ensures.segment) in
    there c.new.result (is_whole_charge (charge_value (charge_in c.in_ok-charge.charge))) c.new.ensures.none
    (c.in_ok-charge.ensures.whole
    ∙ ap (λ (l : VersionedParts). is_whole_in l.log_version (versioned_value l.log_version l))
    (c.in_ok-log.ensures
    ∙ log_is base c.args.version c.args.node c.args.segments.now c.args.before s c.in_ok-shown.shown
    c.first_shown.result c.start_hash.result c.closing-closing.result.now c.in_ok-shown.ensures number
    c.start_hash.ensures closing)
    ∙ shown_whole base c.args.version c.args.segments.now c.args.before c.args.node s c.requires.shows)

-- the evidence has the log
pub returns : goal.returns
returns c =
    let base = base_in c.args.base.now in
    let s = c.args.faulty.now.segment in
    let number : c.first_shown.result ≡ start_number base + 1 =
    c.first_shown.ensures ∙ ap (λ ss. first_shown ss s) (first_are c.args.before c.args.segments.now)
    ∙ c.requires.shows.first in
    let closing : c.closing-closing.result.now ≡ s.closing =
    c.closing-closing.ensures
    ∙ ap (λ (x : VersionedParts). x.closing) (c.segment.ensures.segment ∙ ap (λ x. x.segment) c.closed.ensures.segment) in
    (rw c.unwrap.ensures at c.new.ensures.some)
    ∙ ap (λ x. record { node = c.args.node; charge = x })
    (c.in_ok-charge.ensures.charge
    ∙ ap (replay_from base)
    (c.in_ok-log.ensures
    ∙ log_is base c.args.version c.args.node c.args.segments.now c.args.before s c.in_ok-shown.shown
    c.first_shown.result c.start_hash.result c.closing-closing.result.now c.in_ok-shown.ensures number
    c.start_hash.ensures closing))
