-- Where entries of a log stand, and their words.
-- Serves: Log::skipped, Log::number, Log::count_below, Log::place_of, state_after.
use Rattle.std.proofs.Common.{◌≡◌, ◌∙◌, ℕ, zero, suc, ◌+◌, ◌-◌, ◌<◌, ◌≤◌, ◌^◌, Bool, true, false, eqb, leb}
use Rattle.std.proofs.Common.{List, [], ◌∷◌, length, take, refl, sym, subst, leb-true, arith}
use Rattle.std.specs.Prelude.{Option, Some, None, slice_index_or}
use Rattle.std.specs.List.{AllByRecursion}
use Rattle.std.specs.Option.{option_eq}
use Rattle.std.proofs.lemmas.Bool.{eq-eqb, leb-false}
use Rattle.authenticator.specs.declared.member.LogVersion.{LogVersion}
use Rattle.authenticator.specs.declared.member.LogVersion.TheVariants.{One, Two}
use Rattle.authenticator.proofs.Words.{word_is}
use Rattle.secure_log.specs.declared.log_entries.entry.Entry.{Entry}
use Rattle.secure_log.specs.LogEntries.Chain.{Logged, hash_after, logged_link, logged_links}
use Rattle.secure_log.specs.LogEntries.Words.{MaySkip, logged}
use Rattle.challenge.specs.replay.replay_spec.Placed.{HasWord, logged_place, places_from}
use Rattle.explain.specs.Numbers.{AreBelow, AreLow, IsNumber, StandsAt, number_at, skipped_in}

-- ---- how many numbers are skipped

none_there : (at : ℕ) → ◌≡◌ {A = ℕ} (slice_index_or [] at 0) 0
none_there zero = refl
none_there (suc at) = refl

-- what stands at a place of the counts is skipped just before the entry there
pub skipped_there : (skips : List ℕ) (es : List Entry) (at : ℕ) → at < length es
    → ◌≡◌ {A = ℕ} (slice_index_or skips at 0) (skipped_in (logged skips es) at)
skipped_there skips [] at inside = absurd (omega (arith, inside))
skipped_there [] (e ∷ es) zero inside = refl
skipped_there [] (e ∷ es) (suc at) inside =
    none_there (suc at) ∙ sym (none_there at) ∙ skipped_there [] es at (omega (arith, inside))
skipped_there (n ∷ skips) (e ∷ es) zero inside = refl
skipped_there (n ∷ skips) (e ∷ es) (suc at) inside = skipped_there skips es at (omega (arith, inside))

-- ---- numbers rise

-- no entry has a lower number than one before it
pub rising : (first : ℕ) (log : List Logged) (at other : ℕ) → at ≤ other
    → number_at first log at ≤ number_at first log other
rising first log at zero le =
    let same : at ≡ 0 = omega (arith, le) in
    subst (λ k. number_at first log k ≤ number_at first log 0) (sym same) (omega arith)
rising first log at (suc other) le = up (rising first log at other) (leb at other) refl
  where
    up : (at ≤ other → number_at first log at ≤ number_at first log other) → (b : Bool) → leb at other ≡ b
        → number_at first log at ≤ number_at first log (suc other)
    up before true e = omega (arith, before (leb-true _ _ e))
    up before false e =
        let same : at ≡ suc other = omega (arith, le, leb-false _ _ e) in
        subst (λ k. number_at first log k ≤ number_at first log (suc other)) (sym same) (omega arith)

-- so all entries up to one have numbers below one that its number is below
pub below_more : (first : ℕ) (log : List Logged) (number at : ℕ) → number_at first log at < number
    → (other : ℕ) → other < at + 1 → number_at first log other < number
below_more first log number at low other le = omega (arith, low, rising first log other at (omega (arith, le)))

-- what isn't below a number is that one or above it
pub at_least : (a b : ℕ) → (a < b → ⊥) → b ≤ a
at_least a b never = up (leb b a) refl
  where
    up : (t : Bool) → leb b a ≡ t → b ≤ a
    up true e = leb-true _ _ e
    up false e = absurd (never (leb-false _ _ e))

-- ---- the entry with a number

-- where the first entry that isn't below a number hasn't that number, none has
pub none_else : (first : ℕ) (log : List Logged) (number count : ℕ) → AreBelow first log number count
    → (StandsAt first log number count → ⊥) → (at : ℕ) → StandsAt first log number at → ⊥
none_else first log number count are another at stands =
    let behind : count ≤ at = at_least at count (λ before. omega (arith, are.below at before, stands.its)) in
    let inside : count < length log = omega (arith, behind, stands.inside) in
    another (record {
      inside = inside;
      its = omega (arith, are.rest inside, rising first log count at behind, stands.its);
    })

-- a number of 64 bits is another one than one that it doesn't equal
pub is_another : (found : Option ℕ) (number its : ℕ) → number < 2 ^ 64 → IsNumber found its
    → option_eq eqb found (Some number) ≡ false → its ≡ number → ⊥
is_another (Some n) number its low is differs same =
    let equal : eqb n number ≡ true = eq-eqb n number (is ∙ same) in absurd (cc)
is_another None number its low is differs same = omega (arith, low, is, same)

-- ---- words

-- an entry that may be skipped to has a word: in a log of version 1 where its number is low
word_of_one : (first number n : ℕ) (opening : List ℕ) (e : Entry) → first < 2 ^ 64 - 1
    → MaySkip One (logged_link number (record { skipped = n; entry = e }))
    → HasWord (logged_place (first + n) opening (record { skipped = n; entry = e }))
word_of_one first number n opening e low may = omega (arith, word_is n (first + n), may, low)

-- in one of version 2 also where it is counted from a lower number
word_of_two : (before first n : ℕ) (opening : List ℕ) (e : Entry) → first ≤ before + 1
    → MaySkip Two (logged_link (before + 1 + n) (record { skipped = n; entry = e }))
    → HasWord (logged_place (first + n) opening (record { skipped = n; entry = e }))
word_of_two before first n opening e le may = omega (arith, word_is n (first + n), may.0, may.1, le)

-- so has each of the first entries of a log of version 1, where their numbers are low
words_of_one : (before first : ℕ) (opening : List ℕ) (skips : List ℕ) (es : List Entry) (count : ℕ)
    → first + count < 2 ^ 64 → AllByRecursion (MaySkip One) (logged_links before (logged skips es))
    → AllByRecursion HasWord (places_from first opening (logged skips (take count es)))
words_of_one before first opening skips es zero low may = tt
words_of_one before first opening skips [] (suc count) low may = tt
words_of_one before first opening [] (e ∷ es) (suc count) low may = (
  word_of_one first (before + 1 + 0) 0 opening e (omega (arith, low)) may.0,
  words_of_one (before + 1 + 0) (first + 0 + 1)
      (hash_after opening (logged_link (first + 0) (record { skipped = 0; entry = e }))) [] es count
      (omega (arith, low)) may.1,
)
words_of_one before first opening (n ∷ skips) (e ∷ es) (suc count) low may = (
  word_of_one first (before + 1 + n) n opening e (omega (arith, low)) may.0,
  words_of_one (before + 1 + n) (first + n + 1)
      (hash_after opening (logged_link (first + n) (record { skipped = n; entry = e }))) skips es count
      (omega (arith, low, may.0)) may.1,
)

-- and of each of version 2
words_of_two : (before first : ℕ) (opening : List ℕ) (skips : List ℕ) (es : List Entry) (count : ℕ)
    → first ≤ before + 1 → AllByRecursion (MaySkip Two) (logged_links before (logged skips es))
    → AllByRecursion HasWord (places_from first opening (logged skips (take count es)))
words_of_two before first opening skips es zero le may = tt
words_of_two before first opening skips [] (suc count) le may = tt
words_of_two before first opening [] (e ∷ es) (suc count) le may = (
  word_of_two before first 0 opening e le may.0,
  words_of_two (before + 1 + 0) (first + 0 + 1)
      (hash_after opening (logged_link (first + 0) (record { skipped = 0; entry = e }))) [] es count
      (omega (arith, le)) may.1,
)
words_of_two before first opening (n ∷ skips) (e ∷ es) (suc count) le may = (
  word_of_two before first n opening e le may.0,
  words_of_two (before + 1 + n) (first + n + 1)
      (hash_after opening (logged_link (first + n) (record { skipped = n; entry = e }))) skips es count
      (omega (arith, le)) may.1,
)

-- the first entries of a log have words where their numbers are low
pub words_from : (v : LogVersion) (before first : ℕ) (opening : List ℕ) (skips : List ℕ) (es : List Entry) (count : ℕ)
    → first ≤ before + 1 → AreLow v first count → AllByRecursion (MaySkip v) (logged_links before (logged skips es))
    → AllByRecursion HasWord (places_from first opening (logged skips (take count es)))
words_from One before first opening skips es count le low may = words_of_one before first opening skips es count low may
words_from Two before first opening skips es count le low may = words_of_two before first opening skips es count le may
