use Rattle.std.proofs.Common.{◌≡◌, false, []}
use Rattle.std.specs.Io.KnownBytes.{IsAtEnd}
use Rattle.scripts.proofs.Running.{Joins}
use Rattle.scripts.proofs.script.run_witnesses.Given as goal

-- what the witnesses so far printed was written, the next one did nothing yet, and where no line is there the
-- script is at its end
abbrev pub invariant-loop : goal.invariant-loop
invariant-loop g l = record {
  joins : Joins l.fn.first.service.beginning.bases (g.O.Write.contents l.fn.writer) (g.O.Write.contents l.writer)
      l.fault l.witness.service.beginning.bases;
  claims : l.witness.pass.claims ≡ [];
  end : l.more ≡ false → IsAtEnd (g.I.Read.remaining l.reader);
}
