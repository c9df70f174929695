use Rattle.witness_books.specs.Books.{beginning_in}
use Rattle.witness_books.proofs.Starts.{logs_of}
use Rattle.witness_books.proofs.start.books_at_first.Goals as goal

-- the members are those of a roster, whose bases are good under it
pub starting_each-requires : goal.starting_each-requires
starting_each-requires c =
    logs_of (beginning_in c.args.roster.now c.args.bases.now) c.members.result.now c.is_roster.ensures
    c.requires c.members.ensures
