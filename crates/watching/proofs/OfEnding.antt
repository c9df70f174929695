-- The numbers that are kept, after a step.
-- Serves: step.
use Rattle.std.proofs.Common.{◌≡◌, ℕ, suc, List, [], ◌∷◌, ◌++◌, length, take, take_at, refl, sym, ap, ap₂}
use Rattle.std.proofs.Common.{◌∙◌}
use Rattle.authenticator.specs.declared.member.Member.{Member}
use Rattle.std.specs.Prelude.{Option, Some, None, option_map}
use Rattle.authenticator.specs.Roster.{IsRoster}
use Rattle.witness_spec.specs.Events.{Event}
use Rattle.witness_spec.specs.Replies.{Reply}
use Rattle.witness_spec.specs.Starting.{Beginning, IsBeginning}
use Rattle.witness_spec.specs.Histories.{BookParts, History, StandEach}
use Rattle.witness_spec.specs.Contract.{AreBooks}
use Rattle.witness_books.specs.Books.{BooksParts, beginning_of, parts_in}
use Rattle.watching.specs.Ends.{end_filed, end_parts, ends_of, filed_by, moved_ends, with_end, StepsMoveEnds}
use Rattle.watching.specs.Telling.{Steps}
use Rattle.watching.specs.declared.ends.SoundEnd.{SoundEnd}

-- the numbers in the books after a step are those before it, moved by what was filed
pub ends_follow : (old new : BooksParts) (event : Event) (reply : Reply) (sound filed : Option SoundEnd)
    (ends : List ℕ) → StepsMoveEnds → IsRoster old.roster → IsBeginning (beginning_of old)
    → AreBooks (beginning_of old) (parts_in old) → Steps old event reply new
    → option_map end_parts sound ≡ end_filed event
    → option_map end_parts filed ≡ filed_by (option_map end_parts sound) reply → ends ≡ ends_of (parts_in old)
    → moved_ends old.roster (option_map end_parts filed) ends ≡ ends_of (parts_in new)
ends_follow old new event reply sound filed ends law roster begins are steps told by kept =
    ap (λ (x : Option (ℕ × ℕ)). moved_ends old.roster x ends)
    (by ∙ ap (λ (x : Option (ℕ × ℕ)). filed_by x reply) told)
    ∙ (ap (moved_ends old.roster (filed_by (end_filed event) reply)) kept
    ∙ sym (law (beginning_of old) (parts_in old) (parts_in new) event reply roster begins are steps))

-- what books began with is their roster too
roster_is : (old new : BooksParts) → beginning_of new ≡ beginning_of old → new.roster ≡ old.roster
roster_is old new same = ap (λ (g : Beginning). g.roster) same

-- one of them is moved
pub put_follows : (old new : BooksParts) (filed : Option SoundEnd) (end : SoundEnd) (ends xs ends' : List ℕ)
    (ms : List Member) → moved_ends old.roster (option_map end_parts filed) ends ≡ ends_of (parts_in new)
    → filed ≡ Some end → ms ≡ new.roster → beginning_of new ≡ beginning_of old → xs ≡ ends
    → ends' ≡ with_end ms end.node end.number xs → ends' ≡ ends_of (parts_in new)
put_follows old new filed end ends xs ends' ms follows is members same kept put =
    put
    ∙ (ap₂ (λ (ns : List Member) (ys : List ℕ). with_end ns end.node end.number ys)
    (members ∙ roster_is old new same) kept
    ∙ (sym (ap (λ (f : Option SoundEnd). moved_ends old.roster (option_map end_parts f) ends) is) ∙ follows))

-- none is
pub none_follows : (old new : BooksParts) (filed : Option SoundEnd) (ends : List ℕ)
    → moved_ends old.roster (option_map end_parts filed) ends ≡ ends_of (parts_in new) → filed ≡ None
    → ends ≡ ends_of (parts_in new)
none_follows old new filed ends follows is =
    sym (ap (λ (f : Option SoundEnd). moved_ends old.roster (option_map end_parts f) ends) is) ∙ follows

-- there is one for each member
stand_length : (g : Beginning) (history : History) (ms : List Member) (books : List BookParts)
    → StandEach g history ms books → length (ends_of books) ≡ length ms
stand_length g history [] [] stands = refl
stand_length g history [] (b ∷ books) stands = absurd stands
stand_length g history (m ∷ ms) [] stands = absurd stands
stand_length g history (m ∷ ms) (b ∷ books) stands = ap suc (stand_length g history ms books stands.1)

pub as_many : (old new : BooksParts) (ends xs : List ℕ) (ms : List Member) → ends ≡ ends_of (parts_in old)
    → AreBooks (beginning_of old) (parts_in old) → xs ≡ ends → ms ≡ new.roster
    → beginning_of new ≡ beginning_of old → length xs ≡ length ms
as_many old new ends xs ms kept are same members began =
    ap length (same ∙ kept)
    ∙ (stand_length (beginning_of old) are.history old.roster (parts_in old) are.stands
    ∙ sym (ap length (members ∙ roster_is old new began)))

-- all of them, and nothing behind
pub all_of : (xs ys : List ℕ) (n : ℕ) → length xs ≡ n → take n (xs ++ ys) ≡ xs
all_of xs ys n size = take_at xs ys n size
