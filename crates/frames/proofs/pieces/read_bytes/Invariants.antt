use Rattle.std.proofs.Common.{◌≡◌, ◌+◌, ◌-◌, ◌*◌, ◌≤◌, length}
use Rattle.std.specs.Prelude.{vec_capacity}
use Rattle.rpc.specs.Records.Reading.{Grows}
use Rattle.frames.proofs.pieces.read_bytes.Given as goal

abbrev pub invariant-loop-left : goal.invariant-loop-left
invariant-loop-left g l =
    record {
      left_fits : l.left ≤ l.len;
      kept : l.reader.count ≡ l.initial.reader.count;
      bytes : Grows l.initial.joined.items l.joined.items (l.len - l.left)
          (g.R.Read.remaining l.initial.reader.inner) (g.R.Read.remaining l.reader.inner);
      within : vec_capacity l.joined ≤ 2 * length l.joined.items + 65536;
    }

abbrev pub decreases-loop-left : goal.decreases-loop-left
decreases-loop-left g l = l.left
