use Rattle.nfs_spec.specs.nfs_items.CallerOf.{caller_of}
use Rattle.inode_table.specs.inodes.Given.{given_in}
use Rattle.file_tree.proofs.OfFileChecks.Granted.{may_set, set_does}
use Rattle.std.proofs.Common.{◌≡◌, ◌∙◌, true, false, ap, sym}
use Rattle.nfs_spec.specs.fs_spec.Files.{Files, file_at}
use Rattle.nfs_spec.proofs.fs_spec.OfChanges.Finite.{changed_other}
use Rattle.nfs_spec.specs.Changes.{apply_fields}
use Rattle.nfs_spec.specs.Sattr.{gives_any}
use Rattle.file_tree.proofs.KeptDigests.{one_kept, same_kept, nothing_set}
use Rattle.file_tree.proofs.KeptDigests.{files_seen}
use Rattle.file_tree.proofs.MissingDigests.{none_dropped, one_dropped}
use Rattle.file_tree.proofs.tree.Tree.set.Goals as goal

pub set-requires-clause-sized : goal.set-requires-clause-sized
set-requires-clause-sized c =
    let granted = c.in_default.ensures c.args.now in
    may_set c.self.inside.table (caller_of c.args.who.now) c.args.now c.args.number
    (given_in c.args.given.now) granted.0 granted.1

-- the table takes what the check granted
pub returns-clause-effect : goal.returns-clause-effect
returns-clause-effect c =
    let granted = c.in_default.ensures c.args.now in (
      rw (← files_seen c.self.view_is) (set_does c.self.inside.table
          (caller_of c.args.who.now) c.args.now c.args.number
          (given_in c.args.given.now) granted.0 granted.1 c.set.new.self c.in_ok-attributes.ensures.ok),
      c.in_ok-attributes.ensures.attributes,
    )

pub invariant_of-self : goal.invariant_of-self
invariant_of-self c = same_kept c.self.inside.table c.set.new.self c.self.inside.digests c.self.invariant
    (λ n. ap (λ (w : Files). file_at w n) c.in_err-attributes.ensures.err)

-- nothing was given, and nothing changed
pub invariant_of-self-then-not-is_any : goal.invariant_of-self-then-not-is_any
invariant_of-self-then-not-is_any c =
    same_kept c.self.inside.table c.set.new.self c.self.inside.digests c.self.invariant
    (λ n. ap (λ (w : Files). file_at w n) c.in_ok-attributes.ensures.ok
    ∙ nothing_set c.self.inside.table c.args.number c.args.now (given_in c.args.given.now)
    (sym c.if-not-is_any.ensures) n)

pub returns-then-not-is_any-clause-effect : goal.returns-then-not-is_any-clause-effect
returns-then-not-is_any-clause-effect c =
    let granted = c.in_default.ensures c.args.now in (
      rw (← files_seen c.self.view_is) (set_does c.self.inside.table
          (caller_of c.args.who.now) c.args.now c.args.number
          (given_in c.args.given.now) granted.0 granted.1 c.set.new.self c.in_ok-attributes.ensures.ok),
      c.in_ok-attributes.ensures.attributes,
    )

pub invariant_of-self-2 : goal.invariant_of-self-2
invariant_of-self-2 c =
    let change = apply_fields c.args.now (given_in c.args.given.now) in
    one_kept c.self.inside.table c.set.new.self c.self.inside.digests c.self.invariant c.args.number
    c.forget.new.self c.forget.ensures
    (λ n ne. ap (λ (w : Files). file_at w n) c.in_ok-attributes.ensures.ok
    ∙ changed_other c.self.inside.table c.args.number change n ne)

pub returns-clause-digests : goal.returns-clause-digests
returns-clause-digests c =
    let change = apply_fields c.args.now (given_in c.args.given.now) in
    let any : gives_any (given_in c.args.given.now) ≡ true = sym c.if-not-is_any.ensures in
    rw (any, ← c.self.view_is) (one_dropped c.self.inside.table c.set.new.self c.self.inside.digests
    c.args.number c.forget.new.self c.forget.ensures
    (λ n ne. ap (λ (w : Files). file_at w n) c.in_ok-attributes.ensures.ok
    ∙ changed_other c.self.inside.table c.args.number change n ne))

-- nothing was given, and all stays
pub returns-then-not-is_any-clause-digests : goal.returns-then-not-is_any-clause-digests
returns-then-not-is_any-clause-digests c =
    let none : gives_any (given_in c.args.given.now) ≡ false = sym c.if-not-is_any.ensures in
    rw (none, ← c.self.view_is) (none_dropped c.self.inside.table c.set.new.self c.self.inside.digests
    (λ n. ap (λ (w : Files). file_at w n) c.in_ok-attributes.ensures.ok
    ∙ nothing_set c.self.inside.table c.args.number c.args.now (given_in c.args.given.now) none n))
