use Rattle.std.proofs.Common.{◌≡◌, ◌+◌, ◌*◌, ◌≤◌, ◌<◌, length}
use Rattle.std.specs.Prelude.{vec_capacity}
use Rattle.frames.proofs.OfFragments.{Progress}
use Rattle.frames.proofs.reader.read_record.Given as goal

abbrev pub invariant-loop-count : goal.invariant-loop-count
invariant-loop-count g l =
    record {
      progress : Progress (g.B.Bound.most l.bound) l.joined.items l.count
          (g.R.Read.remaining l.initial.reader.inner) (g.R.Read.remaining l.reader.inner);
      kept : l.reader.count ≡ l.initial.reader.count;
      small : length l.joined.items < 4294967296;
      within : vec_capacity l.joined ≤ 2 * length l.joined.items + 65536;
    }
