use Rattle.std.proofs.Common.{arith, rules}
use Rattle.std.specs.FinMap as finite
use Rattle.inode_table.specs.inodes.Inodes.{file_in}
use Rattle.file_tree.proofs.RenewedDigests.{all_left, as_many_missing, none_left, none_missing}
use Rattle.file_tree.proofs.RenewedDigests.{one_less, one_more}
use Rattle.file_tree.proofs.WritableFiles.{as_many, few_files, writable_at}
use Rattle.file_tree.proofs.digests.FileDigests.renew.Goals as goal

pub count_missing-count-requires : goal.count_missing-count-requires
count_missing-count-requires c =
    let few = few_files c.args.table.now c.files_are_a_tree.ensures.tree c.files_are_a_tree.ensures.room in
    let many = as_many c.inodes.result (finite.entries c.args.table.now.files) c.inodes.ensures in
    omega (arith, few, many)

pub loop-number-init : goal.loop-number-init
loop-number-init c =
    rw c.into_iter-number-iterator.ensures.into_iter_gives
    (record {
      kept = c.requires;
      covered = all_left c.args.self.now c.args.table.now c.inodes-number-items.result
          c.inodes-number-items.ensures;
      stay = λ n is. is;
      left = writable_at c.args.table.now c.files_are_a_tree.ensures.tree c.files_are_a_tree.ensures.room
          c.inodes-number-items.result c.inodes-number-items.ensures;
    })

pub loop-number-preserved : goal.loop-number-preserved
loop-number-preserved c =
    let left = rw c.in-Some.ensures.steps at c.loop-number.invariant.left in
    record {
      kept = one_more c.loop-number.self c.keep.new.self c.args.table.now c.in-Some.number.now
          (file_in c.in-Some.inode.now) left.0.0 c.in_ok-keep.ensures.new c.loop-number.invariant.kept;
      covered = one_less c.loop-number.self c.keep.new.self c.args.table.now c.loop-number.number-iterator
          c.next.new.self (c.in-Some.number.now, c.in-Some.inode.now) c.in-Some.ensures.steps
          c.in_ok-keep.ensures.here c.in_ok-keep.ensures.stay c.loop-number.invariant.covered;
      stay = λ n is. c.in_ok-keep.ensures.stay n (c.loop-number.invariant.stay n is);
      left = left.1;
    }

pub returns-clause-count : goal.returns-clause-count
returns-clause-count c =
    as_many_missing c.args.self.now c.args.table.now c.count_missing-count.result
    (rw c.inodes.ensures at c.count_missing-count.ensures.count)

pub returns-clause-whole : goal.returns-clause-whole
returns-clause-whole c =
    none_missing c.loop-number.self c.args.table.now
    (none_left c.loop-number.self c.args.table.now c.loop-number.number-iterator (search rules)
    c.loop-number.invariant.covered)

pub returns-in_err-keep-clause-kept : goal.returns-in_err-keep-clause-kept
returns-in_err-keep-clause-kept c =
    let left = rw c.in-Some.ensures.steps at c.loop-number.invariant.left in
    one_more c.loop-number.self c.keep.new.self c.args.table.now c.in-Some.number.now
    (file_in c.in-Some.inode.now) left.0.0 c.in_err-keep.ensures.new c.loop-number.invariant.kept
