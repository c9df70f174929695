use Rattle.std.proofs.Common.{ℕ, Vec, Global}
use Rattle.std.proofs.lemmas.Result.{err_from_is_err_and}
use Rattle.xdr.specs.Item.{Value}
use Rattle.server_spec.specs.FileItems.{entry_item}
use Rattle.tree_rules.specs.inodes.declared.directories.directory.Entry.{Entry}
use Rattle.file_texts.specs.Stored.{entry_in}
use Rattle.file_texts.proofs.Arrays.{one_added, all_added, all_fit, part_added}
use Rattle.file_texts.proofs.write.add_each.Goals as goal

-- what is said of a name with its entry
abbrev said : Vec ℕ Global × Entry → Value entry_item
said e = entry_in e

pub loop-name-preserved : goal.loop-name-preserved
loop-name-preserved c =
    let names = rw c.in-Some.ensures.steps at c.loop-name.invariant.names in
    record {
      added =
          one_added entry_item said _ _ _ (c.in-Some.name.now, c.in-Some.entry.now) _ _ _
          c.in-Some.ensures.steps (rw c.deref.ensures.value at c.in_ok-add_entry.ensures.text)
          (rw c.deref.ensures.value at c.in_ok-add_entry.ensures.fits) c.loop-name.invariant.added;
      names = names.1;
    }

pub add_entry-requires : goal.add_entry-requires
add_entry-requires c =
    let names = rw c.in-Some.ensures.steps at c.loop-name.invariant.names in
    rw c.deref.ensures.value names.0

pub returns-clause-fits : goal.returns-clause-fits
returns-clause-fits c = all_fit entry_item said _ _ _ _ c.in-None.ensures.steps.0 c.loop-name.invariant.added

pub returns-clause-text : goal.returns-clause-text
returns-clause-text c =
    all_added entry_item said _ _ _ _ c.in-None.ensures.steps.0 c.loop-name.invariant.added

pub returns-in_err-add_entry-clause-text : goal.returns-in_err-add_entry-clause-text
returns-in_err-add_entry-clause-text c =
    let p = err_from_is_err_and c.from_residual.result c.from_residual.ensures.1 in
    rw p.1 (part_added entry_item said _ _ _ _ _ p.0 c.in_err-add_entry.ensures.text
    c.loop-name.invariant.added)
