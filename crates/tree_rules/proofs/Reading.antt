-- Entries read one by one.
-- Serves: `directory_of`.
use Rattle.std.proofs.Common.{◌≡◌, ℕ, suc, ◌+◌, ◌<◌, ◌≤◌, Bool, true, false, cond, List, [], ◌∷◌, ◌++◌, map}
use Rattle.std.proofs.Common.{length, get_or, take, drop, Some, None, nat_eq, ◌||◌, refl, sym, ap, subst, ◌∙◌}
use Rattle.std.proofs.Common.{arith}
use Rattle.std.specs.Prelude.{IsTrue}
use Rattle.std.specs.List.{All, IsDistinct, AllByRecursion, list_any}
use Rattle.std.specs.Map.{lookup, keys_of}
use Rattle.std.specs.Cmp.Lexicographic.{pointwise, nat_list_eq_equiv}
use Rattle.std.proofs.lemmas.Bool.{cond-false}
use Rattle.std.proofs.lemmas.List.{append-nil, map-append, map_more, take-append-drop, take_all, get_or-map}
use Rattle.std.proofs.lemmas.List.{length-map}
use Rattle.std.proofs.Math.Seq.{drop-cons}
use Rattle.std.proofs.lemmas.List.Elements.{All-append, All-cons, All-nil}
use Rattle.std.proofs.lemmas.Map.Keys.{IsDistinct-push}
use Rattle.nfs_laws.specs.fs_spec.Listing.{Listing, entry_at, IsRising, HasDistinctNames}
use Rattle.nfs_laws.specs.fs_spec.Names.{is_name}
use Rattle.nfs_laws.proofs.fs_spec.Walks.{none_some}
use Rattle.tree_rules.specs.declared.entries.GivenEntry.{GivenEntry}
use Rattle.tree_rules.specs.GivenListing.{IsListing, said_entry, said_entries}
use Rattle.inodes.proofs.OfDirectories.Rising.{rising_to}

abbrev Entries : Type 0
Entries = List (List ℕ × (ℕ × ℕ))

-- ---- cookies

-- the least cookie after entries
abbrev pub after : ℕ → List (List ℕ × (ℕ × ℕ)) → ℕ
after low [] = low
after low (e ∷ es) = after (e.1.1 + 1) es

-- the entries after others rise from the least cookie after these
pub rising_after : (low : ℕ) (xs ys : List (List ℕ × (ℕ × ℕ))) (high : ℕ) → IsRising low (xs ++ ys) high
    → IsRising (after low xs) ys high
rising_after low [] ys high h = h
rising_after low (e ∷ xs) ys high h = rising_after (e.1.1 + 1) xs ys high h.1

-- rising entries begin no higher than they end
pub rising_within : (low : ℕ) (es : List (List ℕ × (ℕ × ℕ))) (high : ℕ) → IsRising low es high → low ≤ high
rising_within low [] high h = h
rising_within low (e ∷ es) high h = let r = rising_within (e.1.1 + 1) es high h.1 in omega (arith, h.0, r)

-- rising entries still rise with one more, whose cookie is no lower than all of theirs
pub rising_added : (low : ℕ) (es : List (List ℕ × (ℕ × ℕ))) (high : ℕ) (e : List ℕ × (ℕ × ℕ)) → high ≤ e.1.1
    → IsRising low es high → IsRising low (es ++ e ∷ []) (e.1.1 + 1)
rising_added low [] high e le h = (omega (arith, h), omega arith)
rising_added low (x ∷ es) high e le h = (h.0, rising_added (x.1.1 + 1) es high e le h.1)

after_added : (low : ℕ) (es : List (List ℕ × (ℕ × ℕ))) (e : List ℕ × (ℕ × ℕ))
    → after low (es ++ e ∷ []) ≡ e.1.1 + 1
after_added low [] e = refl
after_added low (x ∷ es) e = after_added (x.1.1 + 1) es e

-- ---- names

all_after : {A : Type 0} (P : A → Type 0) (xs : List A) (y : A) (ys : List A)
    → AllByRecursion P (xs ++ y ∷ ys) → P y
all_after P [] y ys h = h.0
all_after P (x ∷ xs) y ys h = all_after P xs y ys h.1

-- no name before another is that one
pub new_name : (xs : List (List ℕ × (ℕ × ℕ))) (e : List ℕ × (ℕ × ℕ)) (ys : List (List ℕ × (ℕ × ℕ)))
    → HasDistinctNames (xs ++ e ∷ ys) → lookup (pointwise nat_eq e.0) xs ≡ None
unfolding IsDistinct
new_name [] e ys h = refl
new_name (x ∷ xs) e ys h =
    let apart : pointwise nat_eq x.0 e.0 ≡ false =
    all_after (λ y. pointwise nat_eq x.0 y ≡ false) (keys_of xs) e.0 (keys_of ys)
    (subst (AllByRecursion (λ y. pointwise nat_eq x.0 y ≡ false))
    (map-append (λ e. e.0) xs (e ∷ ys)) h.0) in
    cond-false _ _ _ (nat_list_eq_equiv.symm e.0 x.0 ∙ apart) ∙ new_name xs e ys h.1

none_among : (t : List ℕ → Bool) (es : List (List ℕ × (ℕ × ℕ))) → lookup t es ≡ None
    → list_any t (keys_of es) ≡ false
none_among t [] h = refl
none_among t (e ∷ es) h = by (t e.0) refl h (none_among t es)
  where
    by : (b : Bool) → t e.0 ≡ b → cond b (Some e.1) (lookup t es) ≡ None
        → (lookup t es ≡ None → list_any t (keys_of es) ≡ false) → (t e.0 || list_any t (keys_of es)) ≡ false
    by true is g next = absurd (none_some (sym g))
    by false is g next = ap (λ b. b || list_any t (keys_of es)) is ∙ next g

-- distinct names stay so with one more that is none of them
pub distinct_added : (es : List (List ℕ × (ℕ × ℕ))) (e : List ℕ × (ℕ × ℕ)) → HasDistinctNames es
    → lookup (pointwise nat_eq e.0) es ≡ None → HasDistinctNames (es ++ e ∷ [])
distinct_added es e h none =
    subst (IsDistinct (pointwise nat_eq)) (sym (map-append (λ x. x.0) es (e ∷ [])))
    (IsDistinct-push nat_list_eq_equiv (keys_of es) e.0 h (none_among (pointwise nat_eq e.0) es none))

-- ---- what was read of the first entries

-- what a directory is once so many of the given entries were read
pub record AreRead (count : ℕ) (given : List GivenEntry) (d : Listing) : Type 0 where
  -- the directory lists the entries read so far
  pub entries : d.entries ≡ said_entries (take count given)
  -- its next cookie is the one after their last
  pub next : d.next ≡ after 3 (said_entries (take count given))
  -- their cookies rise to it from 3
  pub rising : IsRising 3 (said_entries (take count given)) d.next
  -- their names differ
  pub distinct : HasDistinctNames (said_entries (take count given))
  -- each of them is a name
  pub names : All (λ (e : List ℕ × (ℕ × ℕ)). IsTrue (is_name e.0)) (said_entries (take count given))

module _ (given : List GivenEntry) (i : ℕ) (e : GivenEntry) (inside : i < length given)
    (at : (d : GivenEntry) → get_or given i d ≡ e) where
  whole : said_entries given ≡ said_entries (take i given) ++ said_entry e ∷ said_entries (drop (suc i) given)
  whole =
      ap (map said_entry) (sym (take-append-drop i given)
      ∙ ap (λ es. take i given ++ es) (drop-cons given i e inside
      ∙ ap (λ x. x ∷ drop (suc i) given) (at e)))
      ∙ map-append said_entry (take i given) (e ∷ drop (suc i) given)

  more : said_entries (take (i + 1) given) ≡ said_entries (take i given) ++ said_entry e ∷ []
  more =
      map_more said_entry given i e inside ∙ ap (λ x. said_entries (take i given) ++ said_entry x ∷ []) (at e)

  module _ (d : Listing) (read : AreRead i given d) where
    -- an entry that can't stand there
    pub cookie_rises : (next : ℕ) → IsListing next (said_entries given)
        → (d.next ≤ e.cookie) × (e.cookie < next)
    cookie_rises next h =
        let r =
        rising_after 3 (said_entries (take i given))
        (said_entry e ∷ said_entries (drop (suc i) given)) next
        (subst (λ es. IsRising 3 es next) whole h.rising) in
        let w = rising_within (e.cookie + 1) (said_entries (drop (suc i) given)) next r.1 in
        (omega (arith, r.0, read.next), omega (arith, w))

    -- an entry of a listing has a name that is one
    pub is_a_name : (next : ℕ) → IsListing next (said_entries given) → IsTrue (is_name e.name.now)
    is_a_name next h =
        ap is_name (ap (λ (x : List ℕ × (ℕ × ℕ)). x.0)
        (sym (get_or-map said_entry given i e (said_entry e) inside ∙ ap said_entry (at e))))
        ∙ h.names i (said_entry e) (omega (arith, inside, length-map given said_entry))

    -- an entry of a listing has a name that none of those before it has
    pub is_new : (next : ℕ) → IsListing next (said_entries given) → entry_at d e.name.now ≡ None
    is_new next h =
        ap (lookup (pointwise nat_eq e.name.now)) read.entries
        ∙ new_name (said_entries (take i given)) (said_entry e) (said_entries (drop (suc i) given))
        (subst HasDistinctNames whole h.distinct)

    -- an entry more
    pub read_more : (f : Listing) → f ≡ record {
      next = e.cookie + 1;
      entries = d.entries ++ said_entry e ∷ [];
    } → d.next ≤ e.cookie → IsTrue (is_name e.name.now)
        → entry_at d e.name.now ≡ None → AreRead (i + 1) given f
    read_more f is rises name new = record {
      entries =
          ap (λ (l : Listing). l.entries) is ∙ ap (λ es. es ++ said_entry e ∷ []) read.entries ∙ sym more;
      next =
          ap (λ (l : Listing). l.next) is ∙ sym (after_added 3 (said_entries (take i given)) (said_entry e))
          ∙ ap (after 3) (sym more);
      rising =
          subst (λ es. IsRising 3 es f.next) (sym more)
          (subst (IsRising 3 (said_entries (take i given) ++ said_entry e ∷ []))
          (sym (ap (λ (l : Listing). l.next) is))
          (rising_added 3 (said_entries (take i given)) d.next (said_entry e) rises read.rising));
      distinct =
          subst HasDistinctNames (sym more) (distinct_added (said_entries (take i given))
          (said_entry e) read.distinct (sym (ap (lookup (pointwise nat_eq e.name.now)) read.entries)
          ∙ new));
      names = subst (All (λ (x : List ℕ × (ℕ × ℕ)). IsTrue (is_name x.0))) (sym more)
          (All-append (λ (x : List ℕ × (ℕ × ℕ)). IsTrue (is_name x.0)) (said_entries (take i given))
          (said_entry e ∷ []) read.names
          (All-cons (λ (x : List ℕ × (ℕ × ℕ)). IsTrue (is_name x.0)) (said_entry e) [] name
          (All-nil (λ (x : List ℕ × (ℕ × ℕ)). IsTrue (is_name x.0)))));
    }

-- before the first entry nothing is listed
pub read_none : (given : List GivenEntry) (d : Listing) → d ≡ record { next = 3; entries = [] }
    → AreRead 0 given d
unfolding IsDistinct
read_none given d is = record {
  entries = ap (λ (l : Listing). l.entries) is;
  next = ap (λ (l : Listing). l.next) is;
  rising = omega (arith, ap (λ (l : Listing). l.next) is);
  distinct = tt;
  names = All-nil (λ (x : List ℕ × (ℕ × ℕ)). IsTrue (is_name x.0));
}

-- all entries
module _ (given : List GivenEntry) (i : ℕ) (d : Listing) (le : length given ≤ i)
    (read : AreRead i given d) where
  all : said_entries (take i given) ≡ said_entries given
  all = ap said_entries (take_all i given le)

  -- after the last entry the directory lists all
  pub read_all : d.entries ≡ said_entries given
  read_all = read.entries ∙ all

  -- what was read is a listing, under any next cookie that is no lower
  pub is_listing : (next : ℕ) → d.next ≤ next → IsListing next (said_entries given)
  is_listing next low = record {
    rising =
        subst (λ es. IsRising 3 es next) all (rising_to 3
        (said_entries (take i given)) d.next next low read.rising);
    distinct = subst HasDistinctNames all read.distinct;
    names = subst (All (λ (x : List ℕ × (ℕ × ℕ)). IsTrue (is_name x.0))) all read.names;
  }

  -- the next cookie of a listing is no lower than what was read asks
  pub next_above : (next : ℕ) → IsListing next (said_entries given) → d.next ≤ next
  next_above next h =
      let r =
      rising_after 3 (said_entries given) [] next
      (subst (λ es. IsRising 3 es next) (sym (append-nil (said_entries given))) h.rising) in
      omega (arith, r, read.next, ap (after 3) all)
