use Rattle.std.proofs.Common.{ℕ, ◌<◌, List, [], length, get_or, arith, sym, subst, ◌∙◌}
use Rattle.std.specs.List.{All}
use Rattle.std.proofs.lemmas.List.{take_all}
use Rattle.std.proofs.lemmas.List.Elements.{All-more}
use Rattle.std.proofs.lemmas.List.Sums.{sum_by-take-le}
use Rattle.nfs_laws.specs.fs_spec.Files.{one_if}
use Rattle.tree_rules.specs.Counting.{IsAmong, AddsNames}
use Rattle.tree_rules.proofs.Naming.{adds_more, few_names}
use Rattle.tree_rules.proofs.names.add_names.Goals as goal

pub returns-in_default-clause-known : goal.returns-in_default-clause-known
returns-in_default-clause-known c = λ all.
    let w = all c.loop-at.at ([], (0, 0)) (omega arith) in
    c.in_default.ensures w.0 w.1 (w.2 ∙ c.number_in.ensures ([], (0, 0)))

pub overflow_add-names : goal.overflow_add-names
overflow_add-names c =
    let n = get_or c.args.numbers.now c.in-Some.named 0 in
    omega (
      arith,
      c.loop-at.invariant.adds.counted c.in-Some.named c.in-Some.ensures.0,
      c.requires.few c.in-Some.named c.in-Some.ensures.0,
      few_names n c.args.listing.now.entries,
      sum_by-take-le (one_if n) c.args.listing.now.entries c.loop-at.at,
    )

pub loop-at-preserved : goal.loop-at-preserved
loop-at-preserved c =
    let inside : c.loop-at.at < length c.args.listing.now.entries = omega arith in
    record {
      adds =
          adds_more c.args.place c.args.numbers.now c.args.listing.now.entries c.args.names.now
          c.args.above.now c.loop-at.names c.loop-at.above c.loop-at.at c.in-Some.named
          c.requires.rising (omega arith) (omega arith) inside c.in-Some.ensures.0
          (c.number_in.ensures ([], (0, 0)) ∙ sym c.in-Some.ensures.1) c.loop-at.invariant.adds;
      known =
          All-more (λ (e : List ℕ × (ℕ × ℕ)). IsAmong c.args.numbers.now e.1.0) c.args.listing.now.entries
          c.loop-at.at ([], (0, 0)) inside c.loop-at.invariant.known (
            c.in-Some.named,
            c.in-Some.ensures.0,
            c.in-Some.ensures.1
                ∙ sym (c.number_in.ensures ([], (0, 0))),
          );
    }

pub returns-clause-known : goal.returns-clause-known
returns-clause-known c =
    subst (All (λ (e : List ℕ × (ℕ × ℕ)). IsAmong c.args.numbers.now e.1.0))
    (take_all c.loop-at.at c.args.listing.now.entries (omega arith)) c.loop-at.invariant.known

pub returns-clause-adds : goal.returns-clause-adds
returns-clause-adds c = λ _.
    subst (λ entries. AddsNames c.args.place c.args.numbers.now entries c.args.names.now c.args.above.now
    c.loop-at.names c.loop-at.above) (take_all c.loop-at.at c.args.listing.now.entries (omega arith))
    c.loop-at.invariant.adds
