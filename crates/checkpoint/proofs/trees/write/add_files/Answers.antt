use Rattle.std.proofs.Common.{ℕ}
use Rattle.std.proofs.lemmas.Result.{err_from_is_err_and}
use Rattle.xdr.specs.Item.{Value}
use Rattle.inodes.specs.Inodes.{file_in}
use Rattle.inodes.specs.declared.inode.Inode.{Inode}
use Rattle.state_spec.specs.server_spec.FileItems.{file_item, file_value}
use Rattle.state_machine.proofs.file_texts.Arrays.{nothing_added, one_added, all_added, all_fit, part_added}
use Rattle.checkpoint.proofs.trees.write.add_files.Goals as goal

-- what is said of an inode with its number
abbrev said : ℕ × Inode → Value file_item
said e = file_value (e.0, file_in e.1)

pub loop-number-init : goal.loop-number-init
loop-number-init c =
    rw c.into_iter-number-iterator.ensures.into_iter_gives record {
      added = nothing_added file_item said c.args.inodes c.args.out.now.items;
      writable = c.requires;
    }

pub loop-number-preserved : goal.loop-number-preserved
loop-number-preserved c =
    let left = rw c.in-Some.ensures.steps at c.loop-number.invariant.writable in
    record {
      added =
          one_added file_item said _ _ _ (c.in-Some.number.now, c.in-Some.inode.now) _ _ _
          c.in-Some.ensures.steps
          c.in_ok-add_file.ensures.text c.in_ok-add_file.ensures.fits c.loop-number.invariant.added;
      writable = left.1;
    }

pub add_file-requires : goal.add_file-requires
add_file-requires c =
    let left = rw c.in-Some.ensures.steps at c.loop-number.invariant.writable in
    left.0

pub returns-clause-fits : goal.returns-clause-fits
returns-clause-fits c =
    all_fit file_item said _ _ _ _ c.in-None.ensures.steps.0 c.loop-number.invariant.added

pub returns-clause-text : goal.returns-clause-text
returns-clause-text c =
    all_added file_item said _ _ _ _ c.in-None.ensures.steps.0 c.loop-number.invariant.added

pub returns-in_err-add_file-clause-text : goal.returns-in_err-add_file-clause-text
returns-in_err-add_file-clause-text c =
    let p = err_from_is_err_and c.from_residual.result c.from_residual.ensures.1 in
    rw p.1 (part_added file_item said _ _ _ _ _ p.0 c.in_err-add_file.ensures.text
    c.loop-number.invariant.added)
