-- The texts that are hashed for a part of a log are among the log's.
-- Serves: own_words_never_expose.
use Rattle.std.proofs.Common.{◌≡◌, inl, inr, ℕ, ◌+◌, ◌-◌, List, [], ◌∷◌, ◌++◌, subst}
use Rattle.std.proofs.Common.{arith}
use Rattle.std.specs.Prelude.{flat_map}
use Rattle.secure_log.specs.LogEntries.Chain.{IsAmong, Logged, chain_texts, hash_after, last_hash, logged_link}
use Rattle.secure_log.specs.LogEntries.Chain.{logged_links, span, zeros}
use Rattle.secure_log.specs.Log.{log_hash}
use Rattle.secure_log.proofs.OfLogEntries.FewerTexts.{Within, left, right, both}
use Rattle.witness_laws.specs.evidence_spec.Proving.{entry_texts, texts_of}

chain_begins : (h : List ℕ) (b : ℕ) (xs ys : List Logged)
    → Within (chain_texts h (logged_links b xs)) (chain_texts h (logged_links b (xs ++ ys)))
chain_begins h b [] ys t i = absurd i
chain_begins h b (x ∷ xs) ys t (inl e) = inl e
chain_begins h b (x ∷ xs) ys t (inr i) =
    let n = b + 1 + x.skipped in inr (chain_begins (hash_after h (logged_link n x)) n xs ys t i)

chain_after : (h : List ℕ) (b : ℕ) (xs ys : List Logged) (next : ℕ) → b + span xs ≡ next
    → Within (chain_texts (last_hash h (logged_links b xs)) (logged_links next ys))
    (chain_texts h (logged_links b (xs ++ ys)))
chain_after h b [] ys next at t i =
    let same : next ≡ b = omega (arith, at) in
    subst (λ n. IsAmong t (chain_texts h (logged_links n ys))) same i
chain_after h b (x ∷ xs) ys next at t i =
    let n = b + 1 + x.skipped in
    inr (chain_after (hash_after h (logged_link n x)) n xs ys next (omega (arith, at)) t i)

-- the texts of entries
abbrev each_text : List Logged → List (List ℕ)
each_text log = flat_map (λ l. entry_texts l.entry) log

entries_begin : (xs ys : List Logged) → Within (each_text xs) (each_text (xs ++ ys))
entries_begin [] ys t i = absurd i
entries_begin (x ∷ xs) ys t i =
    both (entry_texts x.entry) (each_text xs) (entry_texts x.entry ++ each_text (xs ++ ys))
    (left (entry_texts x.entry) (each_text (xs ++ ys)))
    (λ s j. right (entry_texts x.entry) (each_text (xs ++ ys)) s (entries_begin xs ys s j)) t i

entries_after : (xs ys : List Logged) → Within (each_text ys) (each_text (xs ++ ys))
entries_after [] ys t i = i
entries_after (x ∷ xs) ys t i =
    right (entry_texts x.entry) (each_text (xs ++ ys)) t (entries_after xs ys t i)

-- The texts of entries of a log, after others of it, are among the log's.
pub texts_of_part : (before part rest : List Logged) (first : ℕ) → span before + 1 ≡ first
    → Within (chain_texts (log_hash before) (logged_links (first - 1) part) ++ each_text part)
    (texts_of (before ++ (part ++ rest)))
texts_of_part before part rest first place =
    let all : List Logged = before ++ (part ++ rest) in
    let at : 0 + span before ≡ first - 1 = omega (arith, place) in
    both (chain_texts (log_hash before) (logged_links (first - 1) part)) (each_text part)
    (texts_of all)
    (λ t i. left (chain_texts zeros (logged_links 0 all)) (each_text all) t
    (chain_after zeros 0 before (part ++ rest) (first - 1) at t
    (chain_begins (log_hash before) (first - 1) part rest t i)))
    (λ t i. right (chain_texts zeros (logged_links 0 all)) (each_text all) t
    (entries_after before (part ++ rest) t (entries_begin part rest t i)))
