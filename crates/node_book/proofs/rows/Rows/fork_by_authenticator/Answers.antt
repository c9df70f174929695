use Rattle.std.proofs.Common.{subst, sym}
use Rattle.node_book.specs.Looking.{HasWordsOf}
use Rattle.node_book.proofs.ForkTexts.{alone_has_words}
use Rattle.node_book.proofs.rows.Rows.fork_by_authenticator.Goals as goal

-- an authenticator alone has no words that would have to follow
pub fork_at-requires-clause-words : goal.fork_at-requires-clause-words
fork_at-requires-clause-words c =
    subst (HasWordsOf c.args.self.now.log_version) (sym c.in_ok-new-in-Another.ensures.parts)
    (alone_has_words c.args.self.now.log_version c.args.authenticator.now)
