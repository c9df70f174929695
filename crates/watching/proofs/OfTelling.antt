-- What is told of a member.
-- Serves: told.
use Rattle.std.proofs.Common.{◌≡◌, ℕ, List, length, refl, sym, ap, subst, ◌∙◌}
use Rattle.std.specs.Prelude.{Option, Some}
use Rattle.witness_spec.specs.Events.{Ask, ItsIndication}
use Rattle.witness_spec.specs.Replies.{Challenge}
use Rattle.witness_spec.specs.Replies as replies
use Rattle.witness_spec.specs.Starting.{Beginning}
use Rattle.witness_spec.specs.Contract.{StepsTo}
use Rattle.witness_spec.specs.Events.{ItsChallenges}
use Rattle.witness_books.specs.node_book.Replies.{indication_in}
use Rattle.witness_books.specs.Books.{BooksParts, beginning_of, parts_in}
use Rattle.watching.specs.BaseGiving.{began_from}
use Rattle.watching.specs.Ends.{end_in, ends_of}
use Rattle.watching.specs.Telling.{Lists, Steps, Tells}
use Rattle.watching.specs.declared.told.NodeTold.{NodeTold}

-- its indication, its challenges and its number
pub tells_is : (old mid new : BooksParts) (told : NodeTold) (challenges : List Challenge) (n : Option ℕ)
    → Steps old (Ask told.node ItsIndication) (replies.Told (indication_in told.indication)) mid
    → beginning_of mid ≡ beginning_of old → Lists mid told.node challenges new
    → beginning_of new ≡ beginning_of mid → length challenges ≡ told.open
    → told.from ≡ began_from old told.node → n ≡ end_in new.roster told.node (ends_of (parts_in new))
    → n ≡ Some told.end
    → Tells old told.node told new
tells_is old mid new told challenges n first began second began' count from_is end_is some = record {
  is_of = refl;
  between = parts_in mid;
  indicates = first;
  challenges = challenges;
  lists = subst (λ (g : Beginning). StepsTo g (parts_in mid) (Ask told.node ItsChallenges)
      (replies.OpenList challenges) (parts_in new)) began second;
  count = count;
  from_is = from_is;
  end_is = ap (λ (g : Beginning). end_in g.roster told.node (ends_of (parts_in new))) (sym (began' ∙ began))
      ∙ (sym end_is ∙ some);
}
