-- Which digests are missing, told by the files and by what is kept of them.
-- Serves: each call of `Tree` that changes files.
use Rattle.std.proofs.Common.{◌≡◌, ◌≢◌, ℕ, Bool, true, false, cond, List, [], ◌∷◌, map}
use Rattle.std.proofs.Common.{Option, Some, None, is_none, is_some, refl, sym, ap, subst, ◌∙◌}
use Rattle.std.proofs.Common.{IsSome}
use Rattle.std.specs.Prelude.{◌&&◌, ◌||◌, Result, Ok, Err}
use Rattle.std.specs.Option.{option_map_or}
use Rattle.std.specs.List.{filter, list_any}
use Rattle.std.specs.Ordering.{nat_cmp, eq_by_cmp}
use Rattle.std.specs.FinMap as finite
use Rattle.nfs_spec.specs.fs_spec.Files.{File, Files, directory_entries, file_at}
use Rattle.nfs_spec.specs.fs_spec.Listing.{DirectoryEntry}
use Rattle.nfs_spec.proofs.fs_spec.Walks.{none_some}
use Rattle.nfs_spec.proofs.fs_spec.Counts.{same_number}
use Rattle.nfs_spec.proofs.fs_spec.OfChanges.Finite.{cmp_same}
use Rattle.file_tree.specs.declared.digests.FileDigests.{FileDigests}
use Rattle.file_tree.specs.KeptDigests.{AreAllMissing, AreKept, DropsOnly, Forgets, KeepsAll, KeptFiles}
use Rattle.file_tree.specs.KeptDigests.{has_none, is_missing, kept_at, missing_in}
use Rattle.nfs_spec.specs.nfs_items.declared.stat.Stat.{Stat}
use Rattle.file_tree.specs.Performs.{Keeps, named_in}

-- ---- one number

-- one entry more, by the digest of its file and by the number that it has
one_more : (own hit rest there none : Bool) → rest ≡ (there && none) → (hit ≡ true → own ≡ none)
    → cond own (hit || rest) rest ≡ (cond hit true there && none)
one_more true false rest there none is same = is
one_more false false rest there none is same = is
one_more true true rest there none is same = same refl
one_more false true rest true none is same = is
one_more false true rest false true is same = let never = same refl in absurd cc
one_more false true rest false false is same = is

-- a number is missing among entries where one has it, and no digest is kept for it
missing_among : (k : FileDigests) (n : ℕ) (es : List (ℕ × File))
    → list_any (eq_by_cmp nat_cmp n) (map (λ (e : ℕ × File). e.0) (filter (has_none k) es))
    ≡ (is_some (finite.find nat_cmp n es) && is_none (kept_at k n))
missing_among k n [] = refl
missing_among k n (e ∷ es) =
    pushed (has_none k e)
    ∙ one_more (has_none k e) hit among (is_some (finite.find nat_cmp n es)) (is_none (kept_at k n))
    (missing_among k n es) (λ is. ap (λ m. is_none (kept_at k m)) (sym (same_number n e.0 is)))
    ∙ ap (λ b. b && is_none (kept_at k n)) (found hit)
  where
    hit : Bool
    hit = eq_by_cmp nat_cmp n e.0

    among : Bool
    among = list_any (eq_by_cmp nat_cmp n) (map (λ (x : ℕ × File). x.0) (filter (has_none k) es))

    pushed : (b : Bool)
        → list_any (eq_by_cmp nat_cmp n)
        (map (λ (x : ℕ × File). x.0) (cond b (e ∷ filter (has_none k) es) (filter (has_none k) es)))
        ≡ cond b (hit || among) among
    pushed true = refl
    pushed false = refl

    found : (b : Bool) → cond b true (is_some (finite.find nat_cmp n es))
        ≡ is_some (cond b (Some e.1) (finite.find nat_cmp n es))
    found true = refl
    found false = refl

-- a number is missing where it has a file, and no digest is kept for it
pub missing_is : (w : Files) (k : FileDigests) (n : ℕ)
    → is_missing (record { files = w; missing = missing_in k w }) n
    ≡ (is_some (file_at w n) && is_none (kept_at k n))
missing_is w k n =
    missing_among k n (finite.entries w.files)
    ∙ ap (λ (o : Option File). is_some o && is_none (kept_at k n)) (sym (finite.get-entries w.files n))

-- what is seen of a tree
abbrev pub seen : Files → FileDigests → KeptFiles
seen w k = record { files = w; missing = missing_in k w }

-- ---- digests that are dropped

-- of these numbers none is kept any more, of others what was
abbrev Dropped : List ℕ → FileDigests → FileDigests → Type 0
Dropped ns k k' =
    (n : ℕ) → kept_at k' n ≡ cond (list_any (eq_by_cmp nat_cmp n) ns) None (kept_at k n)

-- no number
none_yet : (k : FileDigests) → Dropped [] k k
none_yet k n = refl

-- one number more
and_one : (k k₁ k₂ : FileDigests) (ns : List ℕ) (a : ℕ) → Dropped ns k k₁ → Forgets a k₁ k₂
    → Dropped (a ∷ ns) k k₂
and_one k k₁ k₂ ns a before f n = by (eq_by_cmp nat_cmp n a) refl
  where
    by : (hit : Bool) → eq_by_cmp nat_cmp n a ≡ hit
        → kept_at k₂ n ≡ cond (hit || list_any (eq_by_cmp nat_cmp n) ns) None (kept_at k n)
    by true is = ap (kept_at k₂) (same_number n a is) ∙ f.gone
    by false is = f.others n (λ e. let hit = cmp_same n a e in absurd cc) ∙ before n

neither : (b c : Bool) → (b || c) ≡ false → (b ≡ false) × (c ≡ false)
neither false c e = (refl, e)
neither true c e = absurd cc

-- a number that is none of these is neither the first nor one of the others
not_first : (n a : ℕ) (ns : List ℕ) → list_any (eq_by_cmp nat_cmp n) (a ∷ ns) ≡ false
    → (n ≢ a) × (list_any (eq_by_cmp nat_cmp n) ns ≡ false)
not_first n a ns none =
    let both = neither (eq_by_cmp nat_cmp n a) (list_any (eq_by_cmp nat_cmp n) ns) none in
    (λ e. let hit = cmp_same n a e in let miss = both.0 in absurd cc, both.1)

-- where all files but these stay, exactly their digests are dropped
module _ (w w' : Files) (k k' : FileDigests) (ns : List ℕ) (dropped : Dropped ns k k')
    (same : (n : ℕ) → list_any (eq_by_cmp nat_cmp n) ns ≡ false → file_at w' n ≡ file_at w n) where
  once : (there none : Bool) → (there && none) ≡ (there && (there && none))
  once true none = refl
  once false none = refl

  by_hit : (n : ℕ) (hit : Bool) → list_any (eq_by_cmp nat_cmp n) ns ≡ hit
      → (is_some (file_at w' n) && is_none (cond hit None (kept_at k n)))
      ≡ (is_some (file_at w' n) && (hit || is_missing (seen w k) n))
  by_hit n true is = refl
  by_hit n false is =
      once (is_some (file_at w' n)) (is_none (kept_at k n))
      ∙ ap (λ (o : Option File). is_some (file_at w' n) && (is_some o && is_none (kept_at k n))) (same n is)
      ∙ ap (λ b. is_some (file_at w' n) && b) (sym (missing_is w k n))

  drops_only : DropsOnly ns (seen w k) (seen w' k')
  drops_only n =
      missing_is w' k' n
      ∙ ap (λ (d : Option (List ℕ)). is_some (file_at w' n) && is_none d) (dropped n)
      ∙ by_hit n (list_any (eq_by_cmp nat_cmp n) ns) refl

-- ---- calls that drop some

-- nothing changed
pub nothing_dropped : (w w' : Files) (k : FileDigests) → w' ≡ w → seen w' k ≡ seen w k
nothing_dropped w w' k same = ap (λ (x : Files). seen x k) same

-- a call that leaves the files drops none, whether it was done or refused
pub all_kept : {A : Type 0} → (w : Files) (k : FileDigests) (r : Result A Stat)
    → Keeps (λ _. []) (seen w k) r (seen w k)
all_kept w k (Ok x) = drops_only w w k k [] (none_yet k) (λ n others. refl)
all_kept w k (Err e) = refl

-- what stands under a name
pub one_named : (w : Files) (dir : ℕ) (name : List ℕ) (e : DirectoryEntry)
    → directory_entries w dir name ≡ Some e
    → named_in w dir name ≡ e.0 ∷ []
one_named w dir name e is =
    ap (λ (o : Option DirectoryEntry). option_map_or (λ (x : DirectoryEntry). x.0 ∷ []) o []) is

module _ (w w' : Files) (k : FileDigests) where
  -- no file changed
  pub none_dropped : ((n : ℕ) → file_at w' n ≡ file_at w n) → DropsOnly [] (seen w k) (seen w' k)
  none_dropped same = drops_only w w' k k [] (none_yet k) (λ n others. same n)

  -- one file changed
  pub one_dropped : (a : ℕ) (k₁ : FileDigests) → Forgets a k k₁
      → ((n : ℕ) → n ≢ a → file_at w' n ≡ file_at w n)
      → DropsOnly (a ∷ []) (seen w k) (seen w' k₁)
  one_dropped a k₁ f same = drops_only w w' k k₁ (a ∷ []) (and_one k k k₁ [] a (none_yet k) f)
      (λ n others. same n (not_first n a [] others).0)

  -- two files changed
  pub two_dropped : (a b : ℕ) (k₁ k₂ : FileDigests) → Forgets a k k₁ → Forgets b k₁ k₂
      → ((n : ℕ) → n ≢ a → n ≢ b → file_at w' n ≡ file_at w n)
      → DropsOnly (b ∷ a ∷ []) (seen w k) (seen w' k₂)
  two_dropped a b k₁ k₂ f g same = drops_only w w' k k₂ (b ∷ a ∷ [])
      (and_one k k₁ k₂ (a ∷ []) b (and_one k k k₁ [] a (none_yet k) f) g)
      (λ n others.
      let y = not_first n b (a ∷ []) others in
      same n (not_first n a [] y.1).0 y.0)

  -- four files changed, the first two of which are told by others
  pub four_dropped : (a b c e : ℕ) (k₁ k₂ k₃ k₄ : FileDigests) → Forgets a k k₁ → Forgets b k₁ k₂
      → Forgets c k₂ k₃ → Forgets e k₃ k₄
      → ((n : ℕ) → n ≢ a → n ≢ b → n ≢ c → n ≢ e → file_at w' n ≡ file_at w n)
      → (rest : List ℕ)
      → ((n : ℕ) → list_any (eq_by_cmp nat_cmp n) (b ∷ a ∷ []) ≡ list_any (eq_by_cmp nat_cmp n) rest)
      → DropsOnly (e ∷ c ∷ rest) (seen w k) (seen w' k₄)
  four_dropped a b c e k₁ k₂ k₃ k₄ f g h i same rest alike n =
      drops_only w w' k k₄ (e ∷ c ∷ b ∷ a ∷ [])
      (and_one k k₃ k₄ (c ∷ b ∷ a ∷ []) e (and_one k k₂ k₃ (b ∷ a ∷ []) c
      (and_one k k₁ k₂ (a ∷ []) b (and_one k k k₁ [] a (none_yet k) f) g) h) i)
      (λ n others.
      let z = not_first n e (c ∷ b ∷ a ∷ []) others in
      let y = not_first n c (b ∷ a ∷ []) z.1 in
      let x = not_first n b (a ∷ []) y.1 in
      same n (not_first n a [] x.1).0 x.0 y.0 z.0) n
      ∙ ap (λ r. is_some (file_at w' n)
      && ((eq_by_cmp nat_cmp n e || (eq_by_cmp nat_cmp n c || r)) || is_missing (seen w k) n)) (alike n)

  -- a file was made under a number that had none, and the directory changed that names it
  pub made_dropped : AreKept k w → (dir new number : ℕ) (k₁ : FileDigests) → Forgets dir k k₁
      → file_at w new ≡ None → number ≡ new
      → ((n : ℕ) → n ≢ dir → n ≢ new → file_at w' n ≡ file_at w n)
      → DropsOnly (dir ∷ number ∷ []) (seen w k) (seen w' k₁)
  made_dropped kept dir new number k₁ f free is same =
      two_dropped number dir k k₁ (record { gone = none (kept_at k number) refl; others = λ n ne. refl }) f
      (λ n nn nd. same n nd (λ e. nn (e ∙ sym is)))
    where
      none : (o : Option (List ℕ)) → kept_at k number ≡ o → kept_at k number ≡ None
      none None at = at
      none (Some d) at =
          absurd (none_some (sym free ∙ ap (file_at w) (sym is) ∙ (kept number d at).1))

  -- a name was taken out of a directory
  pub unnamed_dropped : (dir : ℕ) (name : List ℕ) (number cookie : ℕ) (k₁ k₂ : FileDigests)
      → directory_entries w dir name ≡ Some (number, cookie)
      → Forgets number k k₁ → Forgets dir k₁ k₂
      → ((n : ℕ) → n ≢ number → n ≢ dir → file_at w' n ≡ file_at w n)
      → DropsOnly (dir ∷ named_in w dir name) (seen w k) (seen w' k₂)
  unnamed_dropped dir name number cookie k₁ k₂ is f g same =
      subst (λ (ns : List ℕ). DropsOnly (dir ∷ ns) (seen w k) (seen w' k₂))
      (sym (one_named w dir name _ is))
      (two_dropped number dir k₁ k₂ f g same)

-- ---- none that is kept, and more

-- where none is kept, all are missing
pub all_missing : (w : Files) (k : FileDigests) → ((n : ℕ) → kept_at k n ≡ None) → AreAllMissing (seen w k)
all_missing w k none n =
    missing_is w k n ∙ ap (λ (d : Option (List ℕ)). is_some (file_at w n) && is_none d) (none n)
    ∙ and_true (is_some (file_at w n))
  where
    and_true : (b : Bool) → (b && true) ≡ b
    and_true true = refl
    and_true false = refl

-- where those that are kept stay, none is missing that wasn't
pub more_kept : (w : Files) (k k' : FileDigests)
    → ((n : ℕ) → IsSome (kept_at k n) → IsSome (kept_at k' n)) → KeepsAll (seen w k) (seen w k')
more_kept w k k' stay n old =
    missing_is w k' n ∙ by (is_some (file_at w n)) (kept_at k n) (kept_at k' n) (stay n)
    (sym (missing_is w k n) ∙ old)
  where
    none : IsSome {T = List ℕ} None → ⊥
    none h = absurd cc

    by : (there : Bool) (d d' : Option (List ℕ)) → (IsSome d → IsSome d') → (there && is_none d) ≡ false
        → (there && is_none d') ≡ false
    by false d d' s e = refl
    by true d (Some x) s e = refl
    by true None None s e = absurd cc
    by true (Some x) None s e = absurd (none (s cc))
