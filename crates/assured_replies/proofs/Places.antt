-- A hash that a log has at a number is that of the entry there.
-- Serves: audited_replies_are_owed, audited_replies_answer_their_calls.
use Rattle.std.proofs.Common.{◌≡◌, ◌⊎◌, inl, inr, ℕ, zero, suc, ◌+◌, ◌<◌, ◌≤◌, List, [], ◌∷◌, ◌++◌, length, refl, ap}
use Rattle.std.proofs.Common.{subst, ◌∙◌, arith}
use Rattle.std.proofs.lemmas.Bool.{cases_lt}
use Rattle.secure_log.specs.LogEntries.Chain.{IsAmong, Logged, hash_after, last_hash, logged_link, logged_links}
use Rattle.secure_log.specs.LogEntries.Chain.{marks, none_from, span}
use Rattle.secure_log.proofs.Gaps.{logged_after}
use Rattle.secure_log.proofs.OfLogEntries.FewerTexts.{either}
use Rattle.secure_log.proofs.OfLogEntries.Marks.{one_mark}
use Rattle.witness_laws.proofs.OfEvidence.Marks.{mark_within, opening_there}

-- no number that is skipped has a hash
no_hash : (first count number : ℕ) (hash : List ℕ) → 0 < length hash
    → IsAmong (number, hash) (none_from first count) → ⊥
no_hash first zero number hash long i = absurd i
no_hash first (suc count) number hash long (inl e) =
    omega (arith, long, ap (λ (p : ℕ × List ℕ). length p.1) e)
no_hash first (suc count) number hash long (inr i) = no_hash (first + 1) count number hash long i

-- an entry of a log that begins after a number and a hash has this number, and the hash after it is this one
pub record EntryAt (before : ℕ) (opening : List ℕ) (log : List Logged) (number : ℕ) (hash : List ℕ)
    : Type 0 where
  -- the entries before it, itself, and those after it
  pub front : List Logged
  pub entry : Logged
  pub rest : List Logged
  pub whole : log ≡ front ++ entry ∷ rest
  -- its number
  pub place : before + span front + 1 + entry.skipped ≡ number
  -- the hash
  pub is_hash : hash ≡ hash_after (last_hash opening (logged_links before front)) (logged_link number entry)

-- with an entry more before it
entry_on : (before : ℕ) (opening : List ℕ) (l : Logged) (log : List Logged) (number : ℕ) (hash : List ℕ)
    → EntryAt (before + 1 + l.skipped) (hash_after opening (logged_link (before + 1 + l.skipped) l)) log number hash
    → EntryAt before opening (l ∷ log) number hash
entry_on before opening l log number hash e = record {
  front = l ∷ e.front;
  entry = e.entry;
  rest = e.rest;
  whole = ap (λ ls. l ∷ ls) e.whole;
  place = omega (arith, e.place);
  is_hash = e.is_hash;
}

-- the first entry
entry_here : (before : ℕ) (opening : List ℕ) (l : Logged) (log : List Logged) (number : ℕ) (hash : List ℕ)
    → before + 1 + l.skipped ≡ number → hash ≡ hash_after opening (logged_link number l)
    → EntryAt before opening (l ∷ log) number hash
entry_here before opening l log number hash place is = record {
  front = [];
  entry = l;
  rest = log;
  whole = refl;
  place = omega (arith, place);
  is_hash = is;
}

-- a mark that is a hash, at a number after the one before the entries, is that of an entry
pub entry_marked : (before : ℕ) (opening : List ℕ) (log : List Logged) (number : ℕ) (hash : List ℕ)
    → before < number → 0 < length hash
    → IsAmong (number, hash) (marks before opening (logged_links before log))
    → EntryAt before opening log number hash
entry_marked before opening [] number hash low long (inl e) =
    absurd (omega (arith, low, ap (λ (p : ℕ × List ℕ). p.0) e))
entry_marked before opening [] number hash low long (inr i) = absurd i
entry_marked before opening (l ∷ log) number hash low long (inl e) =
    absurd (omega (arith, low, ap (λ (p : ℕ × List ℕ). p.0) e))
entry_marked before opening (l ∷ log) number hash low long (inr i) =
    by (either (none_from (before + 1) l.skipped)
    (marks (before + 1 + l.skipped) (hash_after opening (logged_link (before + 1 + l.skipped) l))
    (logged_links (before + 1 + l.skipped) log)) (number, hash) i)
    (λ more j. entry_marked (before + 1 + l.skipped)
    (hash_after opening (logged_link (before + 1 + l.skipped) l)) log number hash more long j)
    (cases_lt (before + 1 + l.skipped) number)
  where
    here : IsAmong (number, hash) (marks (before + 1 + l.skipped)
        (hash_after opening (logged_link (before + 1 + l.skipped) l)) (logged_links (before + 1 + l.skipped) log))
        → number ≤ before + 1 + l.skipped → EntryAt before opening (l ∷ log) number hash
    here j high =
        let n = before + 1 + l.skipped in
        let next = hash_after opening (logged_link n l) in
        let links = logged_links n log in
        let within = mark_within n next links number hash (logged_after n log) j in
        let place : n ≡ number = omega (arith, high, within.0) in
        let there : IsAmong (number, next) (marks n next links) =
        subst (λ k. IsAmong (k, next) (marks n next links)) place (opening_there n next links) in
        let same : hash ≡ next = one_mark n next links number hash next (logged_after n log) j there in
        entry_here before opening l log number hash place
        (same ∙ ap (λ k. hash_after opening (logged_link k l)) place)

    by : IsAmong (number, hash) (none_from (before + 1) l.skipped)
        ⊎ IsAmong (number, hash) (marks (before + 1 + l.skipped)
        (hash_after opening (logged_link (before + 1 + l.skipped) l)) (logged_links (before + 1 + l.skipped) log))
        → (before + 1 + l.skipped < number → IsAmong (number, hash) (marks (before + 1 + l.skipped)
        (hash_after opening (logged_link (before + 1 + l.skipped) l)) (logged_links (before + 1 + l.skipped) log))
        → EntryAt (before + 1 + l.skipped) (hash_after opening (logged_link (before + 1 + l.skipped) l)) log number
        hash)
        → (before + 1 + l.skipped < number) ⊎ (number ≤ before + 1 + l.skipped)
        → EntryAt before opening (l ∷ log) number hash
    by (inl j) rest far = absurd (no_hash (before + 1) l.skipped number hash long j)
    by (inr j) rest (inl more) = entry_on before opening l log number hash (rest more j)
    by (inr j) rest (inr high) = here j high
