use Rattle.std.proofs.Common.{◌≡◌, false}
use Rattle.std.specs.Io.KnownBytes.{IsAtEnd}
use Rattle.scripts.specs.Turns.{Runs}
use Rattle.scripts.proofs.watch.run_lines.Given as goal

-- the lines so far were run, and where none is there the script is at its end
abbrev pub invariant-loop : goal.invariant-loop
invariant-loop g l = record {
  run : Runs (g.O.Write.contents l.fn.writer) (g.O.Write.contents l.writer) l.fn.run.caller l.run.caller;
  end : l.more ≡ false → IsAtEnd (g.I.Read.remaining l.reader);
}
