-- A chain whose last pair is one of a log's stands in it and has its marks among the log's, gaps included,
-- where no two texts have one digest. Serves: what_is_shown_is_of_the_log, accepted_evidence_proves and
-- a_segment_after_a_reached_place_is_sound.
use Rattle.std.proofs.Common.{◌≡◌, ℕ, ◌<◌, ◌≤◌, List, [], ◌∷◌, ◌++◌, length, inl, inr, refl}
use Rattle.std.proofs.Common.{sym, ap, subst, ◌∙◌, arith, append_assoc, length-append}
use Rattle.std.proofs.lemmas.Bool.{cases_lt}
use Rattle.std.specs.Prelude.{◌⊎◌}
use Rattle.std.specs.List.{AllByRecursion}
use Rattle.replay_spec.specs.authenticator.declared.member.LogVersion.{LogVersion}
use Rattle.replay_spec.specs.secure_log.LogEntries.Chain.{AreNumbered, Link, IsLink, IsChain, IsEndOf}
use Rattle.replay_spec.specs.secure_log.LogEntries.Chain.{IsAmong}
use Rattle.replay_spec.specs.secure_log.LogEntries.Chain.{NoCollision, zeros, hash_after, last_hash}
use Rattle.replay_spec.specs.secure_log.LogEntries.Chain.{last_number}
use Rattle.replay_spec.specs.secure_log.LogEntries.Chain.{pairs, marks, chain_texts}
use Rattle.replay_spec.proofs.secure_log.OfLogEntries.FewerTexts.{Within, fewer, left, right, both, beginning}
use Rattle.replay_spec.proofs.secure_log.OfLogEntries.Chains.{chain_end}
use Rattle.replay_spec.proofs.secure_log.OfLogEntries.Marks.{marks_parts, marks_begin}
use Rattle.replay_spec.proofs.secure_log.Gaps.{rise}

-- what holds of each of a list holds of each of its first
pub all_front : {A : Type 0} (P : A → Type 0) (xs ys : List A) → AllByRecursion P (xs ++ ys) → AllByRecursion P xs
all_front P [] ys each = tt
all_front P (x ∷ xs) ys each = (each.0, all_front P xs ys each.1)

last_number-append : (before : ℕ) (xs ys : List Link)
    → last_number before (xs ++ ys) ≡ last_number (last_number before xs) ys
last_number-append before [] ys = refl
last_number-append before (x ∷ xs) ys = last_number-append x.number xs ys

-- of numbered links the first are numbered, and the others after them
numbered_front : (before : ℕ) (xs ys : List Link) → AreNumbered before (xs ++ ys) → AreNumbered before xs
numbered_front before [] ys n = tt
numbered_front before (x ∷ xs) ys n = (n.0, numbered_front x.number xs ys n.1)

numbered_rest : (before : ℕ) (xs ys : List Link) → AreNumbered before (xs ++ ys)
    → AreNumbered (last_number before xs) ys
numbered_rest before [] ys n = n
numbered_rest before (x ∷ xs) ys n = numbered_rest x.number xs ys n.1

-- links stand in a log after others, and the number and hash before them are those after these others
pub record StandsInLog (log : List Link) (before : ℕ) (opening : List ℕ) (links : List Link) : Type 0 where
  pub front : List Link
  pub rest : List Link
  pub whole : log ≡ front ++ (links ++ rest)
  pub is_number : last_number 0 front ≡ before
  pub is_hash : last_hash zeros front ≡ opening

-- a number and a hash are those after the first links of a chain
record StandsAfter (before : ℕ) (opening : List ℕ) (links : List Link) (number : ℕ) (hash : List ℕ)
    : Type 0 where
  front : List Link
  rest : List Link
  whole : links ≡ front ++ rest
  is_number : number ≡ last_number before front
  is_hash : hash ≡ last_hash opening front

at_once : (before : ℕ) (opening : List ℕ) (links : List Link) (number : ℕ) (hash : List ℕ)
    → ◌≡◌ {A = ℕ × List ℕ} (number, hash) (before, opening) → StandsAfter before opening links number hash
at_once before opening links number hash e = record {
  front = [];
  rest = links;
  whole = refl;
  is_number = ap (λ (p : ℕ × List ℕ). p.0) e;
  is_hash = ap (λ (p : ℕ × List ℕ). p.1) e;
}

behind : (before : ℕ) (opening : List ℕ) (links : List Link) (number : ℕ) (hash : List ℕ)
    → IsAmong (number, hash) (pairs before opening links) → StandsAfter before opening links number hash
behind before opening [] number hash (inl e) = at_once before opening [] number hash e
behind before opening [] number hash (inr i) = absurd i
behind before opening (l ∷ links) number hash (inl e) = at_once before opening (l ∷ links) number hash e
behind before opening (l ∷ links) number hash (inr i) =
    let rest = behind l.number (hash_after opening l) links number hash i in
    record {
      front = l ∷ rest.front;
      rest = rest.rest;
      whole = ap (λ ls. l ∷ ls) rest.whole;
      is_number = rest.is_number;
      is_hash = rest.is_hash;
    }

-- the number and hash after the first of some links are a pair of all
pub pair_after : (before : ℕ) (opening : List ℕ) (xs ys : List Link)
    → IsAmong (last_number before xs, last_hash opening xs) (pairs before opening (xs ++ ys))
pair_after before opening [] [] = inl refl
pair_after before opening [] (y ∷ ys) = inl refl
pair_after before opening (x ∷ xs) ys = inr (pair_after x.number (hash_after opening x) xs ys)

-- links that come from zeros as a log does, and stand at the end of others that are numbered, are all of them
not_longer : (before : ℕ) (xs front : List Link) → AreNumbered before (xs ++ front) → AreNumbered 0 front
    → last_number before (xs ++ front) ≡ last_number 0 front → length xs ≡ 0
not_longer before xs [] n m e =
    let low = rise before xs (numbered_front before xs [] n) in
    omega (arith, low, last_number-append before xs [], e)
not_longer before xs (f ∷ fs) n m e =
    let low = rise before xs (numbered_front before xs (f ∷ fs) n) in
    omega (arith, low, (numbered_rest before xs (f ∷ fs) n).0, m.0)

-- the number before links that stand at the end of others
same_before : (before : ℕ) (b links : List Link) → AreNumbered before links → AreNumbered 0 (b ++ links)
    → last_number before links ≡ last_number 0 (b ++ links) → last_number 0 b ≡ before
same_before before b [] n m e = omega (arith, last_number-append 0 b [], e)
same_before before b (l ∷ ls) n m e = omega (arith, (numbered_rest 0 b (l ∷ ls) m).0, n.0)

-- the number and hash before links that stand in a log are a pair of the log
pub opening_in : (log : List Link) (before : ℕ) (opening : List ℕ) (links : List Link)
    → StandsInLog log before opening links → IsAmong (before, opening) (pairs 0 zeros log)
opening_in log before opening links s =
    subst (λ ls. IsAmong (before, opening) (pairs 0 zeros ls)) (sym s.whole)
    (subst (λ h. IsAmong (before, h) (pairs 0 zeros (s.front ++ (links ++ s.rest)))) s.is_hash
    (subst (λ n. IsAmong (n, last_hash zeros s.front) (pairs 0 zeros (s.front ++ (links ++ s.rest))))
    s.is_number (pair_after 0 zeros s.front (links ++ s.rest))))

-- the marks of links that stand in a log are the log's
pub marks_in : (log : List Link) (before : ℕ) (opening : List ℕ) (links : List Link)
    → StandsInLog log before opening links → (number : ℕ) (mark : List ℕ)
    → IsAmong (number, mark) (marks before opening links)
    → IsAmong (number, mark) (marks 0 zeros log)
marks_in log before opening links s number mark i =
    let m = marks_parts 0 zeros s.front (links ++ s.rest) in
    let own : marks (last_number 0 s.front) (last_hash zeros s.front) (links ++ s.rest)
    ≡ marks before opening (links ++ s.rest) =
    ap (λ n. marks n (last_hash zeros s.front) (links ++ s.rest)) s.is_number
    ∙ ap (λ h. marks before h (links ++ s.rest)) s.is_hash in
    let all : marks 0 zeros log ≡ m.0 ++ marks before opening (links ++ s.rest) =
    ap (marks 0 zeros) s.whole ∙ m.1 ∙ ap (λ ms. m.0 ++ ms) own in
    subst (IsAmong (number, mark)) (sym all)
    (right m.0 (marks before opening (links ++ s.rest)) (number, mark)
    (marks_begin before opening links s.rest (number, mark) i))

module _ (v : LogVersion) (log links : List Link) (before : ℕ) (opening : List ℕ)
    (log_chain : IsChain v zeros log) (chain : IsChain v opening links)
    (log_numbered : AreNumbered 0 log) (links_numbered : AreNumbered before links)
    (unlike : NoCollision (chain_texts zeros log ++ chain_texts opening links))
    (closing : IsAmong (last_number before links, last_hash opening links) (pairs 0 zeros log)) where
  b : StandsAfter 0 zeros log (last_number before links) (last_hash opening links)
  b = behind 0 zeros log (last_number before links) (last_hash opening links) closing

  front_chain : IsChain v zeros b.front
  front_chain = record {
    opened = log_chain.opened;
    each = all_front (IsLink v) b.front b.rest (subst (AllByRecursion (IsLink v)) b.whole log_chain.each);
  }

  front_numbered : AreNumbered 0 b.front
  front_numbered = numbered_front 0 b.front b.rest (subst (AreNumbered 0) b.whole log_numbered)

  begins : Within (chain_texts zeros b.front) (chain_texts zeros log)
  begins = subst (λ ls. Within (chain_texts zeros b.front) (chain_texts zeros ls)) (sym b.whole)
      (beginning zeros b.front b.rest)

  abbrev cs : List (List ℕ)
  cs = chain_texts zeros log ++ chain_texts opening links

  apart : NoCollision (chain_texts opening links ++ chain_texts zeros b.front)
  apart = fewer (chain_texts opening links ++ chain_texts zeros b.front) cs
      (both (chain_texts opening links) (chain_texts zeros b.front) cs
      (right (chain_texts zeros log) (chain_texts opening links))
      (λ t k. left (chain_texts zeros log) (chain_texts opening links) t (begins t k))) unlike

  apart' : NoCollision (chain_texts zeros b.front ++ chain_texts opening links)
  apart' = fewer (chain_texts zeros b.front ++ chain_texts opening links) cs
      (both (chain_texts zeros b.front) (chain_texts opening links) cs
      (λ t k. left (chain_texts zeros log) (chain_texts opening links) t (begins t k))
      (right (chain_texts zeros log) (chain_texts opening links))) unlike

  -- where it were longer than the log up to there, it would begin before the log does
  too_long : length b.front < length links → ⊥
  too_long lt =
      let end : IsEndOf zeros b.front opening links =
      chain_end v zeros opening b.front links front_chain chain apart' (sym b.is_hash) (omega (arith, lt)) in
      let numbers : AreNumbered before (end.before ++ b.front) =
      subst (AreNumbered before) end.whole links_numbered in
      let number : last_number before (end.before ++ b.front) ≡ last_number 0 b.front =
      ap (last_number before) (sym end.whole) ∙ b.is_number in
      omega (
        arith,
        not_longer before end.before b.front numbers front_numbered number,
        ap length end.whole,
        length-append end.before b.front,
        lt,
      )

  is_end : length links ≤ length b.front → IsEndOf opening links zeros b.front
  is_end le = chain_end v opening zeros links b.front chain front_chain apart b.is_hash le

  at_the_end : IsEndOf opening links zeros b.front → StandsInLog log before opening links
  at_the_end end = record {
    front = end.before;
    rest = b.rest;
    whole = b.whole ∙ ap (λ ls. ls ++ b.rest) end.whole ∙ append_assoc end.before links b.rest;
    is_number = same_before before end.before links links_numbered
        (subst (AreNumbered 0) end.whole front_numbered) (b.is_number ∙ ap (last_number 0) end.whole);
    is_hash = end.hash;
  }

  -- they stand in the log
  pub stands_in_log : StandsInLog log before opening links
  stands_in_log = by_length (cases_lt (length b.front) (length links))
    where
      by_length : (length b.front < length links) ⊎ (length links ≤ length b.front)
          → StandsInLog log before opening links
      by_length (inl lt) = absurd (too_long lt)
      by_length (inr le) = at_the_end (is_end le)
