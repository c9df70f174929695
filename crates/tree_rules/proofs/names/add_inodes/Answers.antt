use Rattle.std.proofs.Common.{ℕ, ◌<◌, List, length, get_or, arith, refl, sym, ap, subst, ◌∙◌}
use Rattle.std.specs.List.{All}
use Rattle.std.proofs.lemmas.List.{length-replicate}
use Rattle.inodes.specs.Inodes.{file_in}
use Rattle.inodes.specs.declared.inode.Inode.{Inode}
use Rattle.nfs_laws.specs.fs_spec.Files.{listing_in}
use Rattle.tree_rules.specs.Listed.{files_in}
use Rattle.tree_rules.specs.Counting.{IsAmong}
use Rattle.tree_rules.proofs.Counted.{AreKnownTo, counted_none, counted_more, counted_all, known_more}
use Rattle.tree_rules.proofs.Counted.{known_all, known_at, few_more}
use Rattle.tree_rules.proofs.Seen.{at_inode, length_files, same_numbers}
use Rattle.tree_rules.proofs.names.add_inodes.Goals as goal

pub loop-place-init : goal.loop-place-init
loop-place-init c = record {
  counted =
      rw (c.requires.names, c.requires.above) (counted_none (files_in c.args.inodes.now) c.args.numbers.now
      (length c.args.inodes.now));
  known = λ k d h. absurd (omega arith);
}

pub add_inode-requires-clause-few : goal.add_inode-requires-clause-few
add_inode-requires-clause-few c = λ k h.
    let inside : c.loop-place.place < length c.args.inodes.now = omega arith in
    let e : ℕ × Inode = get_or c.args.inodes.now c.loop-place.place c.index-inodes-place.result in
    let few =
    few_more c.loop-place.place (files_in c.args.inodes.now) e.0 (file_in e.1)
    (at_inode c.args.inodes.now c.loop-place.place c.index-inodes-place.result inside)
    (get_or c.args.numbers.now k 0) in
    omega (arith, few, c.loop-place.invariant.counted.counted k h)

pub returns-then-not-add_inode : goal.returns-then-not-add_inode
returns-then-not-add_inode c = λ all.
    let inside : c.loop-place.place < length c.args.inodes.now = omega arith in
    let e : ℕ × Inode = get_or c.args.inodes.now c.loop-place.place c.index-inodes-place.result in
    c.if-not-add_inode.ensures.known (subst (λ numbers. All (λ (x : List ℕ × (ℕ × ℕ)). IsAmong numbers x.1.0)
    (listing_in (file_in e.1).body).entries)
    (sym (c.requires.numbers ∙ same_numbers c.args.inodes.now))
    (known_at (files_in c.args.inodes.now) all c.loop-place.place e.0 (file_in e.1)
    (at_inode c.args.inodes.now c.loop-place.place c.index-inodes-place.result inside)))

pub loop-place-preserved : goal.loop-place-preserved
loop-place-preserved c =
    let inside : c.loop-place.place < length c.args.inodes.now = omega arith in
    let e : ℕ × Inode = get_or c.args.inodes.now c.loop-place.place c.index-inodes-place.result in
    let at = at_inode c.args.inodes.now c.loop-place.place c.index-inodes-place.result inside in
    record {
      counted = counted_more c.loop-place.place (files_in c.args.inodes.now) e.0 (file_in e.1) at
          c.args.numbers.now c.loop-place.names c.loop-place.above c.add_inode.new.names c.add_inode.new.above
          (c.if-not-add_inode.ensures.adds refl) c.loop-place.invariant.counted;
      known =
          known_more c.loop-place.place (files_in c.args.inodes.now) e.0
          (file_in e.1) at c.args.numbers.now c.loop-place.invariant.known c.if-not-add_inode.ensures.known;
    }

-- after the last file all names were counted
pub returns : goal.returns
returns c =
    let es = files_in c.args.inodes.now in
    let long = length_files c.args.inodes.now in
    let numbers = c.requires.numbers ∙ same_numbers c.args.inodes.now in
    record {
      long_names =
          omega (
            arith,
            ap length c.requires.names,
            length-replicate {A = ℕ} (length c.args.inodes.now) 0,
            long,
          );
      long_above =
          omega (
            arith,
            ap length c.requires.above,
            length-replicate {A = ℕ} (length c.args.inodes.now) 0,
            long,
          );
      known =
          known_all es c.loop-place.place (omega (arith, long))
          (subst (AreKnownTo c.loop-place.place es) numbers c.loop-place.invariant.known);
      counted =
          counted_all es c.args.numbers.now c.loop-place.names c.loop-place.above c.loop-place.place
          (omega (arith, long)) numbers c.loop-place.invariant.counted;
    }
