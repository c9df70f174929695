use Rattle.std.proofs.Common.{◌≡◌, ◌++◌, ◌∷◌, []}
use Rattle.std.proofs.lemmas.List.{map_push}
use Rattle.std.proofs.lemmas.Result.{err_from_is_err_and}
use Rattle.xdr.specs.Reading.{read_at}
use Rattle.xdr.specs.ArraysAndUnions.{begins, goes_on, fails_unless, ends, array_at}
use Rattle.tree_rules.specs.GivenListing.{said_entry, said_entries}
use Rattle.server_spec.specs.FileItems.{entry_item}
use Rattle.tree_rules.specs.declared.limits.TheConstants.{MAX_DIRECTORY_ENTRIES}
use Rattle.file_texts.proofs.read.read_entries.Goals as goal

pub returns-in_err-read_entry : goal.returns-in_err-read_entry
returns-in_err-read_entry c =
    let p =
    err_from_is_err_and c.from_residual-in_err-read_entry.result
    c.from_residual-in_err-read_entry.ensures.1 in
    rw (
      p.1,
      p.2,
      array_at entry_item MAX_DIRECTORY_ENTRIES c.in_ok-count.count _ _ c.in_ok-count.ensures
          c.if-count-gt-MAX_DIRECTORY_ENTRIES.false,
    ) (fails_unless _ _ _ _ _ _ _ c.loop-test.true
    c.in_err-read_entry.ensures c.loop.invariant)

pub loop-preserved : goal.loop-preserved
loop-preserved c =
    let e : said_entries c.push.new.self.items
    ≡ said_entries c.loop.entries.items ++ said_entry c.in_ok-read_entry.field-0 ∷ [] =
    rw c.in_ok-push.ensures.items (map_push said_entry c.loop.entries.items
    c.in_ok-read_entry.field-0) in
    rw e (goes_on _ _ _ _ _ _ _ _ c.loop-test.true c.in_ok-read_entry.ensures c.loop.invariant)

pub loop-init : goal.loop-init
loop-init c = rw c.new-entries.ensures.items (begins (read_at entry_item) c.in_ok-count.count c.u32.new.self)

-- after the last entry the array was read whole
pub returns : goal.returns
returns c =
    let whole =
    array_at entry_item MAX_DIRECTORY_ENTRIES c.in_ok-count.count c.args.reader.now c.u32.new.self
    c.in_ok-count.ensures c.if-count-gt-MAX_DIRECTORY_ENTRIES.false in
    rw whole (ends _ _ _ _ _ _ c.loop-test.false c.loop.invariant)
