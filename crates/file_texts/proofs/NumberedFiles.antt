-- Files by rising number, each well by itself, one after the other.
-- Serves: `inodes_of`.
use Rattle.std.proofs.Common.{◌≡◌, ℕ, zero, suc, ◌+◌, ◌<◌, ◌≤◌, List, [], ◌∷◌, ◌++◌, length, get_or, take}
use Rattle.std.proofs.Common.{drop, refl, sym, ap, subst, ◌∙◌, arith}
use Rattle.std.specs.Prelude.{slice_index}
use Rattle.std.specs.List.{All}
use Rattle.std.proofs.lemmas.List.{length-map, map_more, map-append, take_all, drop_all}
use Rattle.std.proofs.Math.Seq.{drop-cons}
use Rattle.std.proofs.lemmas.List.Elements.{All-nil, All-cons, All-head, All-tail, All-weaker}
use Rattle.std.proofs.lemmas.Option.{slice_get-get_or}
use Rattle.fs_spec.specs.Files.{File}
use Rattle.tree_rules.specs.FileRules.Rules.{AreRising, numbers_of}
use Rattle.tree_rules.proofs.OfFileRules.Listed.{number_at}
use Rattle.tree_rules.specs.inodes.Inodes.{file_in}
use Rattle.tree_rules.specs.inodes.declared.inode.Inode.{Inode}
use Rattle.tree_rules.specs.Listed.{files_in}
use Rattle.file_texts.specs.Alone.{IsFileAlone, AreAlone}
use Rattle.file_texts.specs.Parts.{file_of, files_given}
use Rattle.file_texts.specs.declared.parts.FilePart.{FilePart}

-- numbers rise from one to below the next, and each file keeps its rules
abbrev pub AreAloneFrom : ℕ → ℕ → List (ℕ × File) → Type 0
AreAloneFrom low next [] = Unit {0}
AreAloneFrom low next (e ∷ es) = (low ≤ e.0) × (e.0 < next) × IsFileAlone e.1 × AreAloneFrom (e.0 + 1) next es

-- ---- the same, place by place

-- a number is at least one and below the next
abbrev Between : ℕ → ℕ → ℕ × File → Type 0
Between low next e = (low ≤ e.0) × (e.0 < next)

-- the numbers are
between : (low next : ℕ) (es : List (ℕ × File)) → AreAloneFrom low next es → All (Between low next) es
between low next [] h = All-nil (Between low next)
between low next (e ∷ es) h =
    All-cons (Between low next) e es (h.0, h.1)
    (All-weaker (Between (e.0 + 1) next) (Between low next) (λ x b. (omega (arith, b.0, h.0), b.1)) es
    (between (e.0 + 1) next es h.3))

-- each file keeps its rules
well : (low next : ℕ) (es : List (ℕ × File)) → AreAloneFrom low next es → All (λ e. IsFileAlone e.1) es
well low next [] h = All-nil (λ e. IsFileAlone e.1)
well low next (e ∷ es) h = All-cons (λ e. IsFileAlone e.1) e es h.2 (well (e.0 + 1) next es h.3)

-- the number at each place is at least the first
at_least : (low next : ℕ) (es : List (ℕ × File)) → AreAloneFrom low next es → (k : ℕ)
    → k < length (numbers_of es) → low ≤ slice_index (numbers_of es) k
at_least low next [] h k lt = absurd (omega arith)
at_least low next (e ∷ es) h zero lt = h.0
at_least low next (e ∷ es) h (suc k) lt = let rest =
    at_least (e.0 + 1) next es h.3 k (omega (arith, lt)) in omega (arith, rest, h.0)

-- the numbers rise
rise : (low next : ℕ) (es : List (ℕ × File)) → AreAloneFrom low next es → AreRising (numbers_of es)
rise low next [] h i j lt within = absurd (omega arith)
rise low next (e ∷ es) h i zero lt within = absurd (omega arith)
rise low next (e ∷ es) h zero (suc j) lt within = let rest =
    at_least (e.0 + 1) next es h.3 j (omega (arith, within)) in omega (arith, rest)
rise low next (e ∷ es) h (suc i) (suc j) lt within =
    rise (e.0 + 1) next es h.3 i j (omega (arith, lt)) (omega (arith, within))

-- so files that are asked for in turn are well each by itself
pub alone : (next : ℕ) (es : List (ℕ × File)) → AreAloneFrom 1 next es → AreAlone next es
alone next es h = record {
  rising = rise 1 next es h;
  numbers = between 1 next es h;
  files =
      well 1 next es h;
}

-- after the first file all numbers are above its own
after_first : (low next : ℕ) (e : ℕ × File) (es : List (ℕ × File)) → AreRising (numbers_of (e ∷ es))
    → All (Between low next) es → All (Between (e.0 + 1) next) es
after_first low next e es up all k d lt =
    let same = number_at es k (get_or es k d) (slice_get-get_or es k d lt) in
    let count = length-map es (λ (x : ℕ × File). x.0) in
    let above = up 0 (suc k) (omega arith) (omega (arith, lt, count)) in
    (omega (arith, above, same), (all k d lt).1)

-- files that are well each by itself are as they are asked for in turn, from any number not above them
alone_from : (low next : ℕ) (es : List (ℕ × File)) → AreRising (numbers_of es) → All (Between low next) es
    → All (λ e. IsFileAlone e.1) es → AreAloneFrom low next es
alone_from low next [] up all each = tt
alone_from low next (e ∷ es) up all each =
    let b = All-head (Between low next) e es all in (
      b.0,
      b.1,
      All-head (λ e. IsFileAlone e.1) e es each,
      alone_from (e.0 + 1) next es (λ i j lt within. up (suc i) (suc j) (omega (arith, lt))
          (omega (arith, within)))
          (after_first low next e es up (All-tail (Between low next) e es all))
          (All-tail (λ e. IsFileAlone e.1) e es each),
    )

-- the same from 1
pub alone_in_turn : (next : ℕ) (es : List (ℕ × File)) → AreAlone next es → AreAloneFrom 1 next es
alone_in_turn next es h = alone_from 1 next es h.rising h.numbers h.files

-- ---- read one by one

-- So many files were read: their inodes, and what is asked of those that are left.
pub record AreRead (count next low : ℕ) (given : List FilePart) (inodes : List (ℕ × Inode)) : Type 0 where
  -- the inodes are those of the files that were read
  pub files : files_in inodes ≡ files_given (take count given)
  -- files that are well each by itself go on as asked
  pub left : AreAlone next (files_given given) → AreAloneFrom low next (files_given (drop count given))
  -- where those that are left do, all are well each by itself
  pub all : AreAloneFrom low next (files_given (drop count given)) → AreAlone next (files_given given)

-- before the first
pub none_read : (next : ℕ) (given : List FilePart) → AreRead 0 next 1 given []
none_read next given = record {
  files = refl;
  left = alone_in_turn next (files_given given);
  all = alone next (files_given given);
}

module _ (i next low : ℕ) (given : List FilePart) (inodes : List (ℕ × Inode))
    (read : AreRead i next low given inodes) where
  module _ (p : FilePart) (inside : i < length given) (at : p ≡ get_or given i p) where
    -- the place after
    next_place : suc i ≡ i + 1
    next_place = omega arith

    -- the next file is the first of those that are left
    first_left : files_given (drop i given) ≡ (p.number, file_of p) ∷ files_given (drop (i + 1) given)
    first_left =
        ap files_given (drop-cons given i p inside)
        ∙ ap (λ (x : FilePart). (x.number, file_of x) ∷ files_given (drop (suc i) given)) (sym at)
        ∙ ap (λ n. (p.number, file_of p) ∷ files_given (drop n given)) next_place

    -- with it the files that were read are one more
    one_more : files_given (take (i + 1) given) ≡ files_given (take i given) ++ (p.number, file_of p) ∷ []
    one_more =
        map_more (λ (x : FilePart). (x.number, file_of x)) given i p inside
        ∙ ap (λ (x : FilePart). files_given (take i given) ++ (x.number, file_of x) ∷ []) (sym at)

    -- what is asked of the next file
    pub next_is : AreAlone next (files_given given)
        → (low ≤ p.number) × (p.number < next) × IsFileAlone (file_of p)
    next_is h = let l = subst (AreAloneFrom low next) first_left (read.left h) in (l.0, l.1, l.2)

    -- after one more
    pub read_more : (inode : Inode) → file_in inode ≡ file_of p → low ≤ p.number → p.number < next
        → IsFileAlone (file_of p) → AreRead (i + 1) next (p.number + 1) given
        (inodes ++ (p.number, inode) ∷ [])
    read_more inode is above below kept = record {
      files =
          map-append (λ (e : ℕ × Inode). (e.0, file_in e.1)) inodes ((p.number, inode) ∷ [])
          ∙ ap (λ es. es ++ (p.number, file_in inode) ∷ []) read.files
          ∙ ap (λ (f : File). files_given (take i given) ++ (p.number, f) ∷ []) is
          ∙ sym one_more;
      left = λ h. (subst (AreAloneFrom low next) first_left (read.left h)).3;
      all = λ h. read.all (subst (AreAloneFrom low next) (sym first_left) (above, below, kept, h));
    }

  -- after the last
  pub read_all : length given ≤ i → (files_in inodes ≡ files_given given) × AreAlone next (files_given given)
  read_all le = (
    read.files ∙ ap files_given (take_all i given le),
    read.all (subst (AreAloneFrom low next) (ap files_given (sym (drop_all i given le))) tt),
  )
