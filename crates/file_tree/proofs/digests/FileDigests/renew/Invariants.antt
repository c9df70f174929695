use Rattle.std.proofs.Common.{ℕ, IsSome}
use Rattle.std.specs.List.{AllByRecursion}
use Rattle.file_tree.specs.KeptDigests.{AreKept, IsWritableAt, kept_at}
use Rattle.file_tree.proofs.RenewedDigests.{AreKeptBut}
use Rattle.file_tree.proofs.digests.FileDigests.renew.Given as goal

-- all have one but those that are left
abbrev pub invariant-loop-number : goal.invariant-loop-number
invariant-loop-number l = record {
  kept : AreKept l.self l.table;
  covered : AreKeptBut l.self l.table l.number-iterator;
  stay : (n : ℕ) → IsSome (kept_at l.initial.self n) → IsSome (kept_at l.self n);
  left : AllByRecursion (IsWritableAt l.table) l.number-iterator;
}
