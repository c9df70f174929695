-- Entries whose links stand in a log's chain are the log's entries there, where no two texts have one digest.
-- Serves: what_is_shown_is_of_the_log, accepted_evidence_proves.
use Rattle.std.proofs.Common.{◌≡◌, ℕ, ◌+◌, List, [], ◌∷◌, ◌++◌, refl, sym, ap, ap₂, subst, ◌∙◌, arith}
use Rattle.std.specs.List.{AllByRecursion, flat_map}
use Rattle.xdr.specs.Item.{Fits}
use Rattle.replay_spec.specs.secure_log.LogEntries.Entry.{entry_item, entry_value}
use Rattle.replay_spec.specs.secure_log.LogEntries.Chain.{Link, Logged, NoCollision, last_number}
use Rattle.replay_spec.specs.secure_log.LogEntries.Chain.{logged_link, logged_links, span}
use Rattle.evidence_spec.specs.Proving.{entry_texts}
use Rattle.replay_spec.proofs.secure_log.OfLogEntries.FewerTexts.{Within, left, right}
use Rattle.evidence_spec.proofs.Contents.{one_entry}

-- ---- entries of a log

-- each of these entries has a text
abbrev pub EachLogged : List Logged → Type 0
EachLogged ls = AllByRecursion (λ l. Fits entry_item (entry_value l.entry)) ls

-- their texts
abbrev pub logged_texts : List Logged → List (List ℕ)
logged_texts ls = flat_map (λ l. entry_texts l.entry) ls

-- entries with the same links are the same, and skip the same
pub one_logged : (all : List (List ℕ)) → NoCollision all → (n m : ℕ) (l k : Logged)
    → Fits entry_item (entry_value l.entry) → Fits entry_item (entry_value k.entry)
    → Within (entry_texts l.entry) all → Within (entry_texts k.entry) all
    → logged_link n l ≡ logged_link m k → l ≡ k
one_logged all unlike n m l k a b i j h =
    let skipped : l.skipped ≡ k.skipped = ap (λ (x : Link). x.skipped) h in
    let entry : l.entry ≡ k.entry =
    one_entry all unlike l.entry k.entry a b i j
    (record { kind = ap (λ (x : Link). x.kind) h; digest = ap (λ (x : Link). x.content) h }) in
    λ z. record { skipped = skipped z; entry = entry z }

-- Entries whose links are the first of a log's are the log's first.
pub first_in_log : (all : List (List ℕ)) → NoCollision all
    → (before : ℕ) (log ls : List Logged) (rest : List Link) → EachLogged log → EachLogged ls
    → Within (logged_texts log) all → Within (logged_texts ls) all
    → logged_links before log ≡ logged_links before ls ++ rest → (more : List Logged) × (log ≡ ls ++ more)
first_in_log all unlike before log [] rest a b i j h = (log, refl)
first_in_log all unlike before [] (l ∷ ls) rest a b i j h = absurd cc
first_in_log all unlike before (k ∷ log) (l ∷ ls) rest a b i j h =
    let head : logged_link (before + 1 + k.skipped) k ≡ logged_link (before + 1 + l.skipped) l = cc in
    let tail : logged_links (before + 1 + k.skipped) log
    ≡ logged_links (before + 1 + l.skipped) ls ++ rest = cc in
    let one : k ≡ l =
    one_logged all unlike (before + 1 + k.skipped) (before + 1 + l.skipped) k l a.0 b.0
    (λ t m. i t (left (entry_texts k.entry) (logged_texts log) t m))
    (λ t m. j t (left (entry_texts l.entry) (logged_texts ls) t m)) head in
    let more = first_in_log all unlike (before + 1 + l.skipped) log ls rest a.1 b.1
    (λ t m. i t (right (entry_texts k.entry) (logged_texts log) t m))
    (λ t m. j t (right (entry_texts l.entry) (logged_texts ls) t m))
    (ap (λ (x : Logged). logged_links (before + 1 + x.skipped) log) (sym one) ∙ tail) in
    (more.0, ap₂ (λ x xs. x ∷ xs) one more.1)

-- ---- entries after links

pub each_back : (xs ys : List Logged) → EachLogged (xs ++ ys) → EachLogged ys
each_back [] ys each = each
each_back (x ∷ xs) ys each = each_back xs ys each.1

pub texts_back : (xs ys : List Logged) → Within (logged_texts ys) (logged_texts (xs ++ ys))
texts_back [] ys t i = i
texts_back (x ∷ xs) ys t i = right (entry_texts x.entry) (logged_texts (xs ++ ys)) t (texts_back xs ys t i)

-- entries of a log in two parts, the first of which has these links, and the second others
pub record Splits (before : ℕ) (log : List Logged) (xs ys : List Link) : Type 0 where
  -- the first part
  pub front : List Logged
  -- the second part
  pub back : List Logged
  -- the two are all entries
  pub whole : log ≡ front ++ back
  -- the numbers up to the last of the links
  pub count : last_number before xs ≡ before + span front
  -- the links of the second part, after that one
  pub other : logged_links (last_number before xs) back ≡ ys

pub split : (before : ℕ) (log : List Logged) (xs ys : List Link) → logged_links before log ≡ xs ++ ys
    → Splits before log xs ys
split before log [] ys h = record { front = []; back = log; whole = refl; count = omega arith; other = h }
split before [] (x ∷ xs) ys h = absurd cc
split before (l ∷ log) (x ∷ xs) ys h =
    let n = before + 1 + l.skipped in
    let head : logged_link n l ≡ x = cc in
    let tail : logged_links n log ≡ xs ++ ys = cc in
    let number : n ≡ x.number = ap (λ (y : Link). y.number) head in
    let rest = split x.number log xs ys (subst (λ k. logged_links k log ≡ xs ++ ys) number tail) in
    record {
      front = l ∷ rest.front;
      back = rest.back;
      whole = ap (λ ls. l ∷ ls) rest.whole;
      count = omega (arith, rest.count, number);
      other = rest.other;
    }

-- entries stand in a log, after others that take up as many numbers
pub record AreEntries (log : List Logged) (count : ℕ) (ls : List Logged) : Type 0 where
  -- the entries before them
  pub before : List Logged
  -- the entries after them
  pub rest : List Logged
  -- these are all entries of the log
  pub whole : log ≡ before ++ (ls ++ rest)
  -- as many numbers are before them as `count` says
  pub place : span before ≡ count

-- Entries whose links stand among those of a log are the log's there.
pub entries_in_log : (all : List (List ℕ)) → NoCollision all
    → (log ls : List Logged) (count : ℕ) (before rest : List Link) → EachLogged log → EachLogged ls
    → Within (logged_texts log) all → Within (logged_texts ls) all
    → logged_links 0 log ≡ before ++ (logged_links count ls ++ rest) → last_number 0 before ≡ count
    → AreEntries log count ls
entries_in_log all unlike log ls count before rest fits fits' i j h n =
    let a = split 0 log before (logged_links count ls ++ rest) h in
    let links : logged_links count a.back ≡ logged_links count ls ++ rest =
    subst (λ k. logged_links k a.back ≡ logged_links count ls ++ rest) n a.other in
    let texts : Within (logged_texts a.back) (logged_texts log) =
    subst (λ zs. Within (logged_texts a.back) (logged_texts zs)) (sym a.whole) (texts_back a.front a.back) in
    let there = first_in_log all unlike count a.back ls rest
    (each_back a.front a.back (subst EachLogged a.whole fits)) fits' (λ t k. i t (texts t k)) j links in
    record {
      before = a.front;
      rest = there.0;
      whole = a.whole ∙ ap (λ zs. a.front ++ zs) there.1;
      place = omega (arith, a.count, n);
    }
