-- The books of all members stand for a history, and each tells the indication.
-- Serves: books_reply_what_is_owed, books_stand.
use Rattle.std.proofs.Common.{◌≡◌, inl, inr, cond, List, [], ◌∷◌, map, refl, ap, ◌∙◌}
use Rattle.authenticator.specs.Roster.{IsRoster}
use Rattle.authenticator.specs.declared.member.Member.{Member}
use Rattle.secure_log.specs.LogEntries.Chain.{IsAmong}
use Rattle.witness_laws.specs.witness_spec.Replies.{Exposed}
use Rattle.witness_laws.specs.witness_spec.Starting.{Beginning, IsBeginning}
use Rattle.witness_laws.specs.witness_spec.Watched.{Watched, watched, IsInRoster}
use Rattle.witness_laws.specs.witness_spec.Steps.{Past}
use Rattle.witness_laws.specs.witness_spec.Standing.{is_exposed, without_evidence, indication}
use Rattle.witness_laws.specs.witness_spec.Histories.{History, IsHistory, StandEach, Stands, own_of}
use Rattle.witness_book_laws.specs.Books.{Book, book_indication, parts_of}
use Rattle.witness_book_laws.specs.Going.{book_after_steps}
use Rattle.witness_book_laws.proofs.Known.{Known, exposed_same}
use Rattle.witness_book_laws.proofs.Histories.{own_known, in_roster, its_member}

-- the books of some members of a beginning stand
stand_each : (g : Beginning) (history : History) (members : List Member) → IsHistory g history
    → ((m : Member) → IsAmong m members → IsInRoster (watched g m))
    → StandEach g history members
    (map (λ m. parts_of (book_after_steps (watched g m) (own_of (watched g m) history))) members)
stand_each g history [] h is = tt
stand_each g history (m ∷ members) h is = (
  (own_known g (watched g m) history (is m (inl refl)) (record { roster = refl; base = refl }) h).of.stands,
  stand_each g history members h (λ n i. is n (inr i)),
)

-- and of all
pub stand : (g : Beginning) (history : History) → IsRoster g.roster → IsBeginning g → IsHistory g history
    → Stands g
    (map (λ m. parts_of (book_after_steps (watched g m) (own_of (watched g m) history))) g.roster) history
stand g history roster begins h =
    stand_each g history g.roster h (λ m i. in_roster g m begins (its_member 0 g.roster m roster.1 i))

-- what is known of a book tells its indication
pub same_indication : (w : Watched) (past : Past) (b : Book) → Known w past b
    → book_indication b ≡ indication w past
same_indication w past b k =
    ap (λ x. cond x Exposed (without_evidence b.challenges)) (exposed_same w past b k.of k.exposure)
    ∙ ap (λ xs. cond (is_exposed w past) Exposed (without_evidence xs)) k.of.stands.challenges
