-- Who holds a place among the connections of a process.
use Rattle.std.specs.Prelude.{ℕ, ◌+◌, ◌≤◌, ◌==◌, Bool, true, false, not, ◌&&◌, nat_le, List, [], ◌∷◌, ◌++◌}
use Rattle.std.specs.Prelude.{◌||◌, filter, Option, Some, None, if◌then◌else◌}
use Rattle.places.specs.declared.holder.Holder.{Holder}
use Rattle.places.specs.declared.holder.Standing.{Standing}
use Rattle.places.specs.declared.holder.Standing.TheVariants.{Stranger, Member, Auditor}
use Rattle.places.specs.declared.holder.TheConstants as limits

-- two connections stand alike: both are strangers', both of one member, or both are auditors'
abbrev pub alike : Standing → Standing → Bool
alike Stranger Stranger = true
alike (Member n) (Member m) = n == m
alike Auditor Auditor = true
alike _ _ = false

-- how many of those that stand alike hold a place at most
abbrev pub most : Standing → ℕ
most Stranger = limits.MAX_STRANGERS
most (Member n) = limits.MAX_OF_A_MEMBER
most Auditor = limits.MAX_AUDITORS

-- those that are others than the one with a number
abbrev pub others : (id : ℕ) → List Holder → List Holder
others id hs = filter (λ h. not (h.id == id)) hs

-- how many of them stand so
abbrev pub standing_so : Standing → List Holder → ℕ
standing_so s [] = 0
standing_so s (h ∷ hs) = if alike s h.standing then 1 + standing_so s hs else standing_so s hs

-- the number of the first that stands so, if one does
abbrev pub first_so : Standing → List Holder → Option ℕ
first_so s [] = None
first_so s (h ∷ hs) = if alike s h.standing then Some h.id else first_so s hs

-- without a connection, if one is named
abbrev pub without : Option ℕ → List Holder → List Holder
without None hs = hs
without (Some id) hs = others id hs

-- room for one more that stands so: where they are as many as may be, the one that has waited longest goes
abbrev pub with_room : Standing → List Holder → List Holder
with_room s hs = if nat_le (most s) (standing_so s hs) then without (first_so s hs) hs else hs

-- A connection takes a place, or another one than it had: it is the last then.
abbrev pub placed : Holder → List Holder → List Holder
placed h hs = with_room h.standing (others h.id hs) ++ h ∷ []

-- a connection's time isn't over: a stranger has so many seconds
abbrev pub is_in_time : (now : ℕ) → Holder → Bool
is_in_time now h = not (alike h.standing Stranger && nat_le (h.seen + limits.PATIENCE) now)

-- A connection holds a place: it has one, and its time isn't over.
abbrev pub holds : List Holder → (id now : ℕ) → Bool
holds [] id now = false
holds (h ∷ hs) id now = ((h.id == id) && is_in_time now h) || holds hs id now

-- Of those that stand alike there are no more than may be.
abbrev pub KeepLimits : List Holder → Type 0
KeepLimits hs = (s : Standing) → standing_so s hs ≤ most s
