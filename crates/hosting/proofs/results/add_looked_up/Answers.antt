use Rattle.std.proofs.Common.{List, refl, ℕ}
use Rattle.node_logs.specs.Nodes.{NodeParts}
use Rattle.hosting.specs.Hosting.{IsAudited}
use Rattle.hosting.proofs.Answered.{told_of}
use Rattle.hosting.proofs.results.add_looked_up.Goals as goal

pub returns-in-Segment : goal.returns-in-Segment
returns-in-Segment c = λ time.
    let numbers = c.in-Segment.numbers in
    rw (c.in-Segment.is) (told_of (λ (n : NodeParts) (x : List ℕ). IsAudited n numbers.first numbers.last x)
    c.args.server.now c.args.server.now c.args.out.now.items c.add_segment.new.out.items
    c.add_segment.result refl c.add_segment.ensures)
