use Rattle.std.proofs.Common.{◌≡◌, true, false, length, sym, ◌∙◌, ap}
use Rattle.std.specs.Prelude.{◌==◌}
use Rattle.nfs_spec.specs.nfs_items.CallerOf.{caller_of}
use Rattle.file_tree.proofs.OfFileChecks.Granted.{may_write_at, write_does, write_does_nothing, write_file}
use Rattle.file_tree.proofs.FilesSeen.{told_there}
use Rattle.nfs_spec.specs.fs_spec.Files.{Files, file_at}
use Rattle.nfs_spec.proofs.fs_spec.OfChanges.Finite.{changed_other}
use Rattle.nfs_spec.specs.Procedures.{with_bytes_written, write}
use Rattle.file_tree.proofs.KeptDigests.{one_kept}
use Rattle.file_tree.proofs.KeptDigests.{files_seen}
use Rattle.file_tree.proofs.MissingDigests.{all_kept, one_dropped}
use Rattle.file_tree.proofs.tree.Tree.write.Goals as goal

pub returns-then-is_empty-clause-effect : goal.returns-then-is_empty-clause-effect
returns-then-is_empty-clause-effect c =
    let granted = c.in_default.ensures c.args.now in
    let file = write_file c.self.inside.table
    (caller_of c.args.who.now) c.args.now c.args.number c.args.offset c.args.bytes.now granted.0 granted.1 in
    told_there (write c.args.self.now.files (caller_of c.args.who.now) c.args.now c.args.number c.args.offset
    c.args.bytes.now) c.args.self.now.files c.args.number file.0
    (ap (λ w. file_at w c.args.number) (sym (files_seen c.self.view_is)) ∙ file.1) c.attributes.result
    (rw (← files_seen c.self.view_is) (write_does_nothing c.self.inside.table
    (caller_of c.args.who.now) c.args.now c.args.number c.args.offset c.args.bytes.now granted.0 granted.1
    (sym c.if-is_empty.ensures))) c.attributes.ensures

pub write-requires : goal.write-requires
write-requires c =
    let granted = c.in_default.ensures c.args.now in
    may_write_at c.self.inside.table
    (caller_of c.args.who.now) c.args.now c.args.number c.args.offset c.args.bytes.now granted.0 granted.1
    (sym c.if-is_empty.ensures)

-- the table takes the bytes that the check granted
pub returns-clause-effect : goal.returns-clause-effect
returns-clause-effect c =
    let granted = c.in_default.ensures c.args.now in (
      rw (← files_seen c.self.view_is) (write_does c.self.inside.table
          (caller_of c.args.who.now) c.args.now c.args.number c.args.offset c.args.bytes.now granted.0
          granted.1
          (sym c.if-is_empty.ensures) c.write.new.self c.in_ok-attributes.ensures.ok),
      c.in_ok-attributes.ensures.attributes,
    )

pub invariant_of-self-2 : goal.invariant_of-self-2
invariant_of-self-2 c =
    let granted = c.in_default.ensures c.args.now in
    let may = may_write_at c.self.inside.table
    (caller_of c.args.who.now) c.args.now c.args.number c.args.offset c.args.bytes.now granted.0 granted.1
    (sym c.if-is_empty.ensures) in
    one_kept c.self.inside.table c.write.new.self c.self.inside.digests c.self.invariant c.args.number
    c.forget.new.self c.forget.ensures
    (λ n ne. ap (λ (w : Files). file_at w n) (c.in_ok-attributes.ensures.ok may.0 may.1)
    ∙ changed_other c.self.inside.table c.args.number
    (with_bytes_written c.args.now c.args.offset c.args.bytes.now may.0) n ne)

pub returns-clause-digests : goal.returns-clause-digests
returns-clause-digests c =
    let granted = c.in_default.ensures c.args.now in
    let may = may_write_at c.self.inside.table
    (caller_of c.args.who.now) c.args.now c.args.number c.args.offset c.args.bytes.now granted.0 granted.1
    (sym c.if-is_empty.ensures) in
    let some : (length c.args.bytes.now == 0) ≡ false = sym c.if-is_empty.ensures in
    rw (some, ← c.self.view_is) (one_dropped c.self.inside.table c.write.new.self c.self.inside.digests
    c.args.number
    c.forget.new.self c.forget.ensures
    (λ n ne. ap (λ (w : Files). file_at w n) (c.in_ok-attributes.ensures.ok may.0 may.1)
    ∙ changed_other c.self.inside.table c.args.number
    (with_bytes_written c.args.now c.args.offset c.args.bytes.now may.0) n ne))

-- no bytes, and all stays
pub returns-then-is_empty-clause-digests : goal.returns-then-is_empty-clause-digests
returns-then-is_empty-clause-digests c =
    let none : (length c.args.bytes.now == 0) ≡ true = sym c.if-is_empty.ensures in
    rw (none, ← c.self.view_is) (all_kept c.self.inside.table c.self.inside.digests
    c.attributes.result)
