-- Pairs of a log stay the log's when it goes on.
-- Serves: a_node_keeps_a_log, own_words_never_expose, own_words_can_be_answered.
use Rattle.std.proofs.Common.{◌≡◌, inl, inr, ℕ, ◌+◌, List, [], ◌∷◌, ◌++◌, Option, Some, None, refl, sym, ap}
use Rattle.std.proofs.Common.{subst, ◌∙◌}
use Rattle.std.specs.Prelude.{◌↔◌, IsSome}
use Rattle.authenticator.specs.Numbers.{number_in, word_of}
use Rattle.authenticator.specs.declared.authenticator.Authenticator.{Authenticator}
use Rattle.authenticator.specs.declared.member.LogVersion.{LogVersion}
use Rattle.secure_log.specs.LogEntries.Chain.{IsAmong, Logged, hash_after, logged_link, logged_links, pairs, zeros}
use Rattle.secure_log.specs.LogEntries.Words.{MaySkip}
use Rattle.secure_log.specs.Log.{HasEntry, IsOfPlace, hash_at, log_pairs}
use Rattle.secure_log.proofs.Gaps.{closing_number}
use Rattle.secure_log.proofs.Logs.{entry_has_hash, found_among}
use Rattle.secure_log.proofs.OfLogEntries.Pairs.{head_among}
use Rattle.commitment.specs.Senders.Sender.{SenderParts, IsSender}
use Rattle.commitment.proofs.OfSenders.Meanings.{may_skip_at}

among_more : (p : ℕ × List ℕ) (b : ℕ) (h : List ℕ) (xs ys : List Logged)
    → IsAmong p (pairs b h (logged_links b xs)) → IsAmong p (pairs b h (logged_links b (xs ++ ys)))
among_more p b h [] ys (inl e) =
    subst (λ q. IsAmong q (pairs b h (logged_links b ys))) (sym e) (head_among b h (logged_links b ys))
among_more p b h [] ys (inr i) = absurd i
among_more p b h (x ∷ xs) ys (inl e) = inl e
among_more p b h (x ∷ xs) ys (inr i) =
    let n = b + 1 + x.skipped in inr (among_more p n (hash_after h (logged_link n x)) xs ys i)

-- A pair of a log is one of the log with more entries.
pub of_longer : (p : ℕ × List ℕ) (log rest : List Logged) → IsAmong p (log_pairs log)
    → IsAmong p (log_pairs (log ++ rest))
of_longer p log rest i = among_more p 0 zeros log rest i

-- what tells the pair at each number of a log
abbrev pub EachPlace : Type 0
EachPlace =
    (log : List Logged) (number : ℕ) (hash : List ℕ)
    → (hash_at log number ≡ Some hash) ↔ IsAmong (number, hash) (log_pairs log)

-- the number in the word of an entry is the entry's
pub number_of_entry : (v : LogVersion) (number : ℕ) (l : Logged) → MaySkip v (logged_link number l)
    → number_in v (word_of l.skipped number) ≡ number
number_of_entry v number l may =
    closing_number v 0 (logged_link number l ∷ []) (word_of l.skipped number) (may, tt) refl

-- The number in the word of an authenticator of a place is that of the place.
pub number_of_place : (s : SenderParts) (number : ℕ) (a : Authenticator) → IsSender s → IsOfPlace s.log number a
    → number_in s.log.log_version a.word ≡ number
number_of_place s number a is h =
    let v = s.log.log_version in
    ap (number_in v) h.is_word
    ∙ number_of_entry v number h.entry (may_skip_at v s.log.entries number h.entry is.skips h.there)

-- The number and hash of an authenticator of a place of a log are among the log's pairs.
pub of_place : EachPlace → (s : SenderParts) (number : ℕ) (a : Authenticator) → IsSender s
    → IsOfPlace s.log number a
    → IsAmong (number_in s.log.log_version a.word, a.hash) (log_pairs s.log.entries)
of_place each s number a is h =
    subst (λ n. IsAmong (n, a.hash) (log_pairs s.log.entries)) (sym (number_of_place s number a is h))
    ((each s.log.entries number a.hash).0 h.hash)

-- A number with a pair of a log has a hash there.
pub some_hash : (log : List Logged) (number : ℕ) (hash : List ℕ) → IsAmong (number, hash) (log_pairs log)
    → IsSome (hash_at log number)
some_hash log number hash i = by (hash_at log number) refl
  where
    by : (o : Option (List ℕ)) → hash_at log number ≡ o → IsSome o
    by None is = absurd (found_among (log_pairs log) number hash i is)
    by (Some h) is = refl

-- An entry has one.
pub entry_hash : (log : List Logged) (number : ℕ) (l : Logged) → HasEntry log number l
    → IsSome (hash_at log number)
entry_hash log number l h = some_hash log number _ (entry_has_hash log number l h)

-- So has number 0.
pub zero_hash : (log : List Logged) → IsSome (hash_at log 0)
zero_hash log = some_hash log 0 zeros (head_among 0 zeros (logged_links 0 log))
