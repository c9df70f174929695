use Rattle.std.proofs.Common.{◌≡◌, ◌++◌, ◌∷◌, [], List, length}
use Rattle.host_keys.specs.Spent.{AreSpent, lines_of}
use Rattle.host_keys.specs.declared.begun.Begun.{Begun}
use Rattle.host_keys.proofs.SpentReading.{Later}
use Rattle.host_keys.proofs.SpentText.{texts_begun}
use Rattle.host_keys.proofs.spent.Spent.read.Given as goal

-- the lines so far are those of what was begun; and all that the text can say begins so
abbrev pub invariant-loop-line : goal.invariant-loop-line
invariant-loop-line l = record {
  found : lines_of l.fn.text ≡ texts_begun l.spent ++ lines_of l.lines.rest.now;
  only : (bs : List Begun) → AreSpent bs → lines_of l.fn.text ≡ texts_begun bs ++ ([] ∷ [])
      → Later l.spent l.lines.rest.now bs;
}

abbrev pub decreases-loop-line : goal.decreases-loop-line
decreases-loop-line l = length l.lines.rest.now
