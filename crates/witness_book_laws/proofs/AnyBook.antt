-- Any book that fits together and stands for a member's own steps goes on as they do.
-- Serves: books_go_on.
use Rattle.std.proofs.Common.{◌≡◌, ◌↔◌, inl, ◌+◌, List, ◌∷◌, ◌++◌, filter, flat_map, Ok}
use Rattle.std.proofs.Common.{refl, sym, ap, ap₂, subst, ◌∙◌, eq-eqb}
use Rattle.secure_log.specs.Versioned.{VersionedParts}
use Rattle.witness_laws.specs.witness_spec.Events.{Event, IsEvent}
use Rattle.witness_laws.specs.witness_spec.Replies.{Reply}
use Rattle.witness_laws.specs.witness_spec.Starting.{Beginning, start_number}
use Rattle.witness_laws.specs.witness_spec.Watched.{Watched, IsInRoster, IsWatchedFrom}
use Rattle.witness_laws.specs.witness_spec.Steps.{Step, Past}
use Rattle.witness_laws.specs.witness_spec.Whose.{whose}
use Rattle.witness_laws.specs.witness_spec.Standing.{End}
use Rattle.witness_laws.specs.witness_spec.Owing.{Owes}
use Rattle.witness_laws.specs.witness_spec.Histories.{History, IsHistory, HoldSame, StandsFor, own_of}
use Rattle.witness_laws.proofs.Checked.{IsCheckedStep, checked_event}
use Rattle.witness_laws.proofs.OwnSteps.{its_own, owed_own, same_watched}
use Rattle.witness_laws.proofs.Replied.{good_want, owed_good}
use Rattle.witness_book_laws.specs.Books.{Book, is_audited, book_audited, parts_of}
use Rattle.witness_book_laws.specs.Replying.{BookOwes}
use Rattle.witness_book_laws.specs.Going.{book_after, book_after_steps}
use Rattle.witness_book_laws.specs.Fitting.{Tile, FitsTogether, IsBookOf}
use Rattle.witness_book_laws.specs.Laws.{GoesOn}
use Rattle.witness_book_laws.proofs.Segments.{tiled, tiles_same}
use Rattle.witness_book_laws.proofs.Quiet.{Exposure}
use Rattle.witness_book_laws.proofs.Known.{Known, owes_known}
use Rattle.witness_book_laws.proofs.Steps.{known_on}
use Rattle.witness_book_laws.proofs.Histories.{done_event, own_known, exposed_or_not}

-- two books that hold the same segments, as tiles, and have one end have the same audited entries
same_audited : (b c : Book) → FitsTogether b → FitsTogether c → HoldSame b.segments c.segments
    → b.base ≡ c.base → b.end ≡ c.end → book_audited b ≡ book_audited c
same_audited b c f g same base end =
    let t = tiled b f.tiles in
    let u = tiled c g.tiles in
    ap₂ (λ (e : End) (ss : List VersionedParts). flat_map (λ (s : VersionedParts). s.entries)
    (filter (λ s. is_audited e.number s) ss)) end
    (tiles_same (start_number b.base + 1) b.segments c.segments t.next u.next t.tile
    (subst (λ o. Tile (start_number o + 1) c.segments u.next) (sym base) u.tile) same)

-- what is known of one book of a member's steps is known of any other
pub known_of : (w : Watched) (past : Past) (b c : Book) → Known w past c → FitsTogether b
    → IsBookOf w past b → Known w past b
known_of w past b c k fits of = record {
  of = of;
  fits = fits;
  kept_differ = k.kept_differ;
  exposure = k.exposure;
  audited = same_audited b c fits k.fits
      (λ s. (
        λ i. (k.of.stands.segments s).1 ((of.stands.segments s).0 i),
        λ i. (of.stands.segments s).1 ((k.of.stands.segments s).0 i),
      ))
      (of.of_member.base ∙ sym k.of.of_member.base) (of.stands.end ∙ sym k.of.stands.end) ∙ k.audited;
  sent = k.sent;
  roster = k.roster;
}

module _ (g : Beginning) (w : Watched) (history : History) (b : Book) (is : IsInRoster w)
    (from : IsWatchedFrom g w) (h : IsHistory g history) (fits : FitsTogether b)
    (of : IsBookOf w (own_of w history) b) where
  any_known : Known w (own_of w history) b
  any_known =
      known_of w (own_of w history) b (book_after_steps w (own_of w history))
      (own_known g w history is from h) fits of

  -- it owes what is owed after the history
  pub any_owes : (step : Step) (reply : Reply)
      → Owes w (own_of w history) step reply ↔ BookOwes b step reply
  any_owes step reply = owes_known w (own_of w history) b any_known step reply

  -- its own step makes the own steps longer
  longer_own : (event : Event) (step : Step) (reply : Reply)
      → whose w.roster event ≡ Ok (record { member = w.member; step = step })
      → Owes w (own_of w history) step reply
      → own_of w ((event, reply) ∷ history) ≡ (step, reply) ∷ own_of w history
  longer_own event step reply told owed =
      ap (λ x. x ++ own_of w history)
      (its_own w.roster w.member.node event reply (record { member = w.member; step = step }) told
      (eq-eqb w.member.node w.member.node refl)
      (good_want reply (owed_good w (own_of w history) step reply owed)))

  -- it goes on with each event that is the member's step
  pub any_goes_on : (event : Event) (step : Step) (reply : Reply) → IsEvent event
      → whose w.roster event ≡ Ok (record { member = w.member; step = step }) → BookOwes b step reply
      → GoesOn g w history event step reply b
  any_goes_on event step reply e told owes =
      record {
        is = longer;
        fits = next.fits;
        of = subst (λ past. IsBookOf w past (book_after b step reply)) (sym steps) next.of;
      }
    where
      owed : Owes w (own_of w history) step reply
      owed = (any_owes step reply).1 owes

      longer : IsHistory g ((event, reply) ∷ history)
      longer = (e, inl ((owed_own g w history event step reply from told).1 owed), h)

      steps : own_of w ((event, reply) ∷ history) ≡ (step, reply) ∷ own_of w history
      steps = longer_own event step reply told owed

      checked : IsCheckedStep w step
      checked =
          subst (λ x. IsCheckedStep x step) (same_watched g w from)
          (checked_event g (record { member = w.member; step = step }) event
          (ap (λ ms. whose ms event) from.roster ∙ told) e)

      next : Known w ((step, reply) ∷ own_of w history) (book_after b step reply)
      next =
          known_on w (own_of w history) b any_known step reply is owed checked
          (done_event (record { member = w.member; step = step }) w.roster event told e)
          (subst (Exposure w) steps (exposed_or_not g w ((event, reply) ∷ history) is from longer))

  -- and it stands for them
  pub any_stands : (event : Event) (step : Step) (reply : Reply) → IsEvent event
      → whose w.roster event ≡ Ok (record { member = w.member; step = step }) → BookOwes b step reply
      → Owes w (own_of w history) step reply
      × StandsFor w ((step, reply) ∷ own_of w history) (parts_of (book_after b step reply))
  any_stands event step reply e told owes =
      let owed : Owes w (own_of w history) step reply = (any_owes step reply).1 owes in (
        owed,
        subst (λ past. StandsFor w past (parts_of (book_after b step reply)))
            (longer_own event step reply told owed)
            (any_goes_on event step reply e told owes).of.stands,
      )
