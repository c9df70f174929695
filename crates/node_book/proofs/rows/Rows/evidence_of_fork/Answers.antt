use Rattle.node_book.proofs.ForkTexts.{fork_is_whole, some_is}
use Rattle.node_book.proofs.rows.Rows.evidence_of_fork.Goals as goal

-- a fork whose showings' words follow has a text
pub returns : goal.returns
returns c =
    let v = c.args.self.now.log_version in
    some_is c.new.result _ _ c.new.ensures.some c.new.ensures.none
    (fork_is_whole v c.args.at c.args.a c.args.b c.requires.first c.requires.second)
