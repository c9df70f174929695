-- Places of entries with how many numbers are skipped before each.
-- Serves: run, replay_entries, replay; replay_finding (challenge), replayed (replay_jobs).
use Rattle.std.proofs.Common.{◌≡◌, ℕ, ◌+◌, ◌-◌, ◌<◌, ◌^◌, Bool, true, false, List, [], ◌∷◌, length, drop, get_or}
use Rattle.std.proofs.Common.{refl, sym, ap, ap₂, ◌∙◌, arith}
use Rattle.std.specs.Prelude.{nat_lt}
use Rattle.std.specs.List.{AllByRecursion}
use Rattle.std.proofs.lemmas.Bool.{ltb-true, ltb-false}
use Rattle.std.proofs.lemmas.List.{drop_all, drop_more, get_or_past}
use Rattle.authenticator.specs.declared.member.LogVersion.{LogVersion}
use Rattle.authenticator.specs.Numbers.{word_of}
use Rattle.secure_log.specs.LogEntries.Chain.{Logged, chain_text, hash_after, last_number, logged_link}
use Rattle.secure_log.specs.LogEntries.Chain.{logged_links}
use Rattle.secure_log.specs.LogEntries.Words.{MaySkip, logged}
use Rattle.secure_log.specs.Versioned.{EndsIn, FitsVersion, VersionedParts}
use Rattle.secure_log.proofs.Gaps.{low_here, word_low}
use Rattle.secure_log.proofs.VersionedTexts.{last_low}
use Rattle.secure_log.specs.declared.log_entries.entry.Entry.{Entry}
use Rattle.replay_spec.specs.Placed.{HasWord, places_from, places_in}

-- ---- entries from a place on

-- the entry at a place has the count that stands there, or none
skips_from : (skips : List ℕ) (i : ℕ) (e : Entry) (es : List Entry)
    → logged (drop i skips) (e ∷ es)
    ≡ record { skipped = get_or skips i 0; entry = e } ∷ logged (drop (i + 1) skips) es
skips_from skips i e es = by (nat_lt i (length skips)) refl
  where
    by : (b : Bool) → nat_lt i (length skips) ≡ b
        → logged (drop i skips) (e ∷ es)
        ≡ record { skipped = get_or skips i 0; entry = e } ∷ logged (drop (i + 1) skips) es
    by true h = ap (λ ks. logged ks (e ∷ es)) (drop_more skips i 0 (ltb-true i (length skips) h))
    by false h =
        let past = ltb-false i (length skips) h in
        let none : drop (i + 1) skips ≡ [] = drop_all (i + 1) skips (omega (arith, past)) in
        ap (λ ks. logged ks (e ∷ es)) (drop_all i skips past)
        ∙ ap₂ (λ n ks. record { skipped = n; entry = e } ∷ logged ks es)
        (sym (get_or_past skips i 0 past)) (sym none)

-- the entries from one on are it, with what is skipped before it, and those after it
pub logged_rest : (skips : List ℕ) (entries : List Entry) (i : ℕ) (skipped : ℕ) (e : Entry)
    → drop i entries ≡ e ∷ drop (i + 1) entries → skipped ≡ get_or skips i 0
    → logged (drop i skips) (drop i entries)
    ≡ record { skipped = skipped; entry = e } ∷ logged (drop (i + 1) skips) (drop (i + 1) entries)
logged_rest skips entries i skipped e rest is =
    ap (logged (drop i skips)) rest
    ∙ skips_from skips i e (drop (i + 1) entries)
    ∙ ap (λ n. record { skipped = n; entry = e } ∷ logged (drop (i + 1) skips) (drop (i + 1) entries))
    (sym is)

-- ---- hashes

-- the hash at an entry is that of a link with its word as number, before which none is skipped
pub hash_at : (before : List ℕ) (number : ℕ) (l : Logged) (entry_word kind : ℕ) (digest after : List ℕ)
    → entry_word ≡ word_of l.skipped number → kind ≡ (logged_link number l).kind
    → digest ≡ (logged_link number l).content
    → after ≡ hash_after before
    (record { skipped = 0; number = entry_word; kind = kind; content = digest })
    → after ≡ hash_after before (logged_link number l)
unfolding hash_after chain_text
hash_at before number l entry_word kind digest after words kinds digests is =
    is
    ∙ ap (λ w. hash_after before (record { skipped = 0; number = w; kind = kind; content = digest })) words
    ∙ ap₂ (λ k d. hash_after before
    (record { skipped = 0; number = word_of l.skipped number; kind = k; content = d })) kinds digests

-- ---- entries of a segment

-- where the last number is below the greatest, each entry that may be skipped to has a word
words_from : (v : LogVersion) (before first : ℕ) (opening : List ℕ) (log : List Logged) → before + 1 ≡ first
    → AllByRecursion (MaySkip v) (logged_links before log)
    → last_number before (logged_links before log) < 2 ^ 64 - 1
    → AllByRecursion HasWord (places_from first opening log)
words_from v before first opening [] e may low = tt
words_from v before first opening (l ∷ ls) e may low = (
  word_low v l.skipped (first + l.skipped) (logged_link (before + 1 + l.skipped) l) refl (omega (arith, e))
      may.0 (omega (arith, e, low_here before l ls (2 ^ 64 - 1) low)),
  words_from v (before + 1 + l.skipped) (first + l.skipped + 1)
      (hash_after opening (logged_link (first + l.skipped) l)) ls (omega (arith, e)) may.1 low,
)

-- so has each entry of a segment that ends in its closing
pub segment_words : (most : ℕ) (s : VersionedParts) → EndsIn s → FitsVersion most s
    → AllByRecursion HasWord (places_in s)
segment_words most s ends fits =
    words_from s.log_version (s.first - 1) s.first s.opening s.entries (omega (arith, ends.first)) ends.skips
    (last_low most s fits ends.last)
