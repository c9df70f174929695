use Rattle.std.proofs.Common.{◌≡◌, ℕ, ◌+◌}
use Rattle.nfs_spec.specs.fs_spec.Files.{IsDirectory}
use Rattle.nfs_spec.specs.fs_spec.Changes.Limits.{file_count}
use Rattle.nfs_spec.specs.Procedures.{climbs_to, is_above}
use Rattle.file_tree.proofs.name_checks.above.is_above.Given as goal

abbrev pub invariant-loop-step : goal.invariant-loop-step
invariant-loop-step l = record {
  directory : IsDirectory l.table l.number;
  above : (k : ℕ) → k + l._step ≡ file_count l.table
      → climbs_to k l.table l.upper l.number ≡ is_above l.table l.upper l.fn.dir;
}
