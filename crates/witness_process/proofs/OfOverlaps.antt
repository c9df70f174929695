-- Where nothing became of books.
-- Serves: NodeBooks::ask, evidence, deliver, let_go, go_on, is_settled.
use Rattle.std.proofs.Common.{◌≡◌, ℕ, Option, Some, None, inl, inr, refl}
use Rattle.watching.specs.Shown.{StandingParts}
use Rattle.watching.specs.Telling.{IsAsked, Nothing, Steps}
use Rattle.witness_books.specs.Books.{beginning_of}
use Rattle.witness_books.specs.node_book.witness_spec.Events.{Audit}
use Rattle.witness_books.specs.node_book.witness_spec.Replies.{Reply}
use Rattle.witness_process.specs.Overlaps.{AreAsked, AreAskedBeside, StandBeside, StayBeside, WereLookedAt}
use Rattle.witness_process.specs.declared.overlap.Before.{Before}

-- books weren't asked
pub not_asked : (node : ℕ) (s : StandingParts) → AreAsked node s s
not_asked node s = record { same = refl; asked = Nothing; shown = refl }

-- books beside others are as they were
pub still_beside : (b : Before) → StandBeside b b
still_beside b = record { at = refl; since = refl; unshown = refl }

-- those beside them weren't, if some are there
pub none_asked : (node : ℕ) (o : Option Before) → AreAskedBeside node o o
none_asked node None = tt
none_asked node (Some b) = (not_asked node b.standing, still_beside b)

-- the same stand beside them, if some do
pub stay_beside : (o : Option Before) → StayBeside o o
stay_beside None = tt
stay_beside (Some b) = still_beside b

-- who was only asked was looked at
pub looked_at : (node : ℕ) (old new : StandingParts) → AreAsked node old new → WereLookedAt node old new
looked_at node old new asked = record { between = new; asked = asked; audited = inl refl }

-- so was who was asked and then opened for an audit
pub looked_into : (node : ℕ) (old between new : StandingParts) (reply : Reply) → AreAsked node old between
    → Steps between.books (Audit node) reply new.books → beginning_of new.books ≡ beginning_of between.books
    → new.shown ≡ between.shown → WereLookedAt node old new
looked_into node old between new reply asked steps same shown =
    record { between = between; asked = asked; audited = inr (reply, steps, same, shown) }
