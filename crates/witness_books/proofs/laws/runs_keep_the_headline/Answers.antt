-- A run leads to a history for which the books stand; the laws on histories say the rest.
use Rattle.std.proofs.Common.{inr}
use Rattle.node_book.specs.witness_spec.Watched.{watched}
use Rattle.node_book.proofs.witness_book_laws.AllBooks.{its_beginning}
use Rattle.witness_books.proofs.laws.runs_keep_the_headline.Goals as goal

-- each part of the headline follows from a law, at the history that the run leads to
pub returns : goal.returns
returns c g old new events replies run history is stands =
    let kept = run.keeps history is stands in
    record {
      history = kept.0;
      stands = kept.1;
      alone = λ h m first last more others earlier member from was stood other same.
          c.runs_are_histories.ensures.agree g h (watched g m) old first new last history earlier events more
          replies others member (its_beginning g m) from is stands was stood run other same;
      says = λ m member. record {
        honest = λ log s texts honest unforged differ.
            c.honest_is_never_exposed.ensures g (watched g m) _ log s member (its_beginning g m) kept.0 texts
            honest unforged differ;
        differs = λ f. (c.exposed_exactly_if.ensures.exposed (watched g m) _).1 (inr f);
        shown = c.evidence_where_exposed.ensures g (watched g m) _ member (its_beginning g m) kept.0;
        proves = λ e has.
            c.evidence_proves.ensures g (watched g m) _ e member (its_beginning g m) kept.0 has;
      };
    }
