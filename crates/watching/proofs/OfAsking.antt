-- Questions that led books on.
-- Serves: challenges, indication, wanted, told, add_answer.
use Rattle.std.proofs.Common.{◌≡◌, ℕ, List, sym, subst}
use Rattle.witness_spec.specs.Events.{Question, Ask}
use Rattle.witness_spec.specs.Replies.{Reply}
use Rattle.witness_spec.specs.Starting.{Beginning}
use Rattle.witness_spec.specs.Histories.{BookParts}
use Rattle.witness_books.specs.Books.{BooksParts, beginning_of, parts_in}
use Rattle.watching.specs.Telling.{IsAsked, Nothing, OneMore, WereAsked, Steps}

-- none was asked
pub asked_nothing : (old new : BooksParts) (node : ℕ) → new ≡ old → WereAsked old node new
asked_nothing old new node same =
    subst (λ (b : BooksParts). IsAsked (beginning_of old) node (parts_in old) (parts_in b)) (sym same) Nothing

-- one was asked
pub asked_one : (old new : BooksParts) (node : ℕ) (question : Question) (reply : Reply)
    → Steps old (Ask node question) reply new → WereAsked old node new
asked_one old new node question reply steps = OneMore (parts_in old)
    (parts_in new) question reply Nothing steps

-- some and then others
joined : (g : Beginning) (node : ℕ) (old between new : List BookParts) → IsAsked g node old between
    → IsAsked g node between new → IsAsked g node old new
joined g node old between new first Nothing = first
joined g node old between new first (OneMore mid last question reply more steps) =
    OneMore mid last question reply (joined g node old between mid first more) steps

pub asked_more : (old between new : BooksParts) (node : ℕ) → beginning_of between ≡ beginning_of old
    → WereAsked old node between → WereAsked between node new → WereAsked old node new
asked_more old between new node same first more =
    joined (beginning_of old) node (parts_in old) (parts_in between) (parts_in new) first
    (subst (λ (g : Beginning). IsAsked g node (parts_in between) (parts_in new)) same more)
