use Rattle.witness_books.proofs.Rosters.{test_of_rosters}
use Rattle.witness_books.proofs.route.is_same_roster.Goals as goal

-- what is true exactly where the rosters are equal tells whether they are one in every word
pub returns : goal.returns
returns c = test_of_rosters _ _ _ c.is_same.ensures
