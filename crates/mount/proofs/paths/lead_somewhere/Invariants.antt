use Rattle.std.proofs.Common.{◌≡◌, ◌==◌, length, drop}
use Rattle.std.specs.List.{slice_split}
use Rattle.file_tree.specs.fs_spec.Files.{directory_entries}
use Rattle.server_spec.specs.Paths.{slash}
use Rattle.mount.proofs.Walked.{lead_on}
use Rattle.mount.proofs.paths.lead_somewhere.Given as goal

abbrev pub invariant-loop-name : goal.invariant-loop-name
invariant-loop-name l = record {
  can : (goal.iterator-loop-name).can_next l.name-iterator;
  finite : (goal.iterator-loop-name).is_finite l.name-iterator;
  leads : lead_on (directory_entries l.tree.files) l.dir (drop (length l.yielded)
      (slice_split (λ byte. byte == slash) l.names))
      ≡ lead_on (directory_entries l.tree.files) 1 (slice_split (λ byte. byte == slash) l.names);
}
