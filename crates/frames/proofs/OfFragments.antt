-- The fragments of a record, as read_record's loop takes them: what was taken so far (`Progress`), and what
-- follows where the loop goes on or ends. Serves: read_record (each of its answers names the lemma of its
-- case).
use Rattle.std.proofs.Common.{◌≡◌, ℕ, ◌+◌, ◌<◌, ◌≤◌, List, [], ◌∷◌, ◌++◌, arith, length, sym, ap, ◌∙◌, refl}
use Rattle.std.proofs.Common.{length-append, append_assoc, Bool, true, false, inl, inr, ◌⊎◌, subst}
use Rattle.std.specs.Prelude.{Option, Some}
use Rattle.std.specs.List.{concat}
use Rattle.std.specs.Io.KnownBytes.{Consumes}
use Rattle.std.proofs.KnownBytes.{Consumes-trans, Consumes-nil, Consumes-kept}
use Rattle.std.proofs.lemmas.List.{append-nil}
use Rattle.std.proofs.lemmas.List.Concat.{flat_map-cons, flat_map-append}
use Rattle.std.proofs.lemmas.List.Folds.{concat-append}
use Rattle.rpc.specs.Records.Record.{mark, fragment, fragments, IsPartOfMark}
use Rattle.rpc.specs.Records.Reading.{Grows, IsShorter, IsCutMark, TakesPart, StaysAtEnd}
use Rattle.rpc.specs.declared.records.record.TheConstants.{MAX_FRAGMENTS}
use Rattle.rpc.proofs.OfRecords.Marks.{length-mark}
use Rattle.frames.specs.declared.fault.FrameFault.{FrameFault}
use Rattle.frames.specs.declared.fault.FrameFault.TheVariants as faults
use Rattle.frames.specs.Frame.{most_bytes, AreWithin, IsPartOfPiece, PassesBound, IsPartOfFragment}
use Rattle.frames.specs.Frame.{IsUnfinished}
use Rattle.frames.specs.Steps.{Stops}
use Rattle.frames.specs.Reading.{TakesRecord, TakesToLimit, IsPartOfRecord, StopsAt}
use Rattle.frames.proofs.OfStops.{stops_after}

-- These pieces were taken, none of them the last; their bytes are `text`.
pub record Progress (most : List ℕ → ℕ) (text : List ℕ) (count : ℕ) (before after : Option (List ℕ))
    : Type 0 where
  pub pieces : List (List ℕ)
  pub text_is : text ≡ concat pieces
  pub count_is : length pieces ≡ count
  pub text_fits : length text ≤ most_bytes most text
  pub count_fits : count ≤ MAX_FRAGMENTS
  pub taken : Consumes before after (fragments pieces)

-- before the first fragment
pub begins : (most : List ℕ → ℕ) (text : List ℕ) (before : Option (List ℕ)) → text ≡ []
    → Progress most text 0 before before
begins most text before none = record {
  pieces = [];
  text_is = none;
  count_is = refl;
  text_fits = omega (arith, ap length none);
  count_fits = omega arith;
  taken = Consumes-nil before;
}

-- what was taken may stand at the front of a record
within : (most : List ℕ → ℕ) (text : List ℕ) (count : ℕ) (before after : Option (List ℕ))
    (p : Progress most text count before after) → AreWithin most p.pieces
within most text count before after p = record {
  length_fits = rw (← p.text_is) p.text_fits;
  count_fits = omega (arith, p.count_is, p.count_fits);
}

-- bytes that end within a record are some
part_or_none : (most : List ℕ → ℕ) (bytes : List ℕ) → (0 < length bytes → IsUnfinished most bytes)
    → IsPartOfRecord most bytes
part_or_none most [] unfinished = inl refl
part_or_none most (b ∷ bs) unfinished = inr (unfinished (omega arith))

-- the bytes end within a mark or a fragment, after what was taken
unfinished : (most : List ℕ → ℕ) (text : List ℕ) (count : ℕ) (before after : Option (List ℕ))
    (p : Progress most text count before after) (tail : List ℕ)
    → IsPartOfMark tail ⊎ IsPartOfFragment most p.pieces tail → 0 < length (fragments p.pieces ++ tail)
    → IsUnfinished most (fragments p.pieces ++ tail)
unfinished most text count before after p tail is some = record {
  pieces = p.pieces;
  tail = tail;
  bytes_are = refl;
  within = within most text count before after p;
  tail_is = is;
  some = some;
}

-- the text of fragments isn't empty, where there are some
some_fragments : (pieces : List (List ℕ)) → 0 < length pieces → 0 < length (fragments pieces)
some_fragments [] some = absurd (omega arith)
some_fragments (p ∷ ps) some =
    let marked = length-mark false (length p) in
    let split = length-append (mark false (length p)) p in
    omega (
      arith,
      ap length (flat_map-cons (fragment false) p ps),
      marked,
      split,
      length-append (fragment false p) (fragments ps),
    )

-- a step within a mark came to a fault
pub stops_at_mark : (most : List ℕ → ℕ) (e : FrameFault) (text : List ℕ) (count m n : ℕ)
    (before mid after : Option (List ℕ)) → Progress most text count before mid
    → Stops e (IsShorter 4) IsCutMark ⊥ mid after m n → StopsAt most e before after m n
stops_at_mark most e text count m n before mid after p stops =
    let part : (more : List ℕ) → IsShorter 4 more → IsPartOfRecord most (fragments p.pieces ++ more) =
    λ more short. part_or_none most _ (unfinished most text count before mid p more (inl short)) in
    let cut : (more : List ℕ) → IsCutMark more → IsUnfinished most (fragments p.pieces ++ more) =
    λ more is. unfinished most text count before mid p more (inl is.1)
    (omega (arith, length-append (fragments p.pieces) more, is.0)) in
    stops_after e before mid after (fragments p.pieces) m n _ _ _ _ ⊥ _ p.taken part cut
    (λ never. absurd never) stops

-- the bytes end after a fragment that isn't the last
pub stops_at_end : (most : List ℕ → ℕ) (text : List ℕ) (count n : ℕ) (before mid after : Option (List ℕ))
    → Progress most text count before mid → 0 < count → StaysAtEnd mid after
    → StopsAt most faults.EndInRecord before after n n
stops_at_end most text count n before mid after p some (none, keeps, ends) =
    let is = unfinished most text count before mid p [] (inl (omega arith))
    (rw append-nil (some_fragments p.pieces (omega (arith, p.count_is)))) in
    let taken = Consumes-kept _ _ _ _ p.taken keeps in
    ((fragments p.pieces, taken, subst (IsUnfinished most) (append-nil _) is), ends, refl)

-- what was taken with a mark after it
marked_too : (most : List ℕ → ℕ) (text : List ℕ) (count : ℕ) (before mid after : Option (List ℕ))
    (is_last : Bool) (len : ℕ) (p : Progress most text count before mid)
    → Consumes mid after (mark is_last len) → Consumes before after (fragments p.pieces ++ mark is_last len)
marked_too most text count before mid after is_last len p marked = Consumes-trans _ _ _ _ _ p.taken marked

-- there are as many fragments as a record has, and a mark
pub stops_at_count : (most : List ℕ → ℕ) (text : List ℕ) (count len n : ℕ) (is_last : Bool)
    (before mid after : Option (List ℕ)) → Progress most text count before mid
    → Consumes mid after (mark is_last len) → len < 2147483648 → MAX_FRAGMENTS ≤ count
    → StopsAt most faults.TooLong before after n n
stops_at_count most text count len n is_last before mid after p marked small full = (
  record {
    pieces = p.pieces;
    is_last = is_last;
    len = len;
    came = [];
    within = within most text count before mid p;
    len_fits = small;
    passes = inl (omega (arith, p.count_is), refl);
    taken = rw append-nil (marked_too most text count before mid after is_last len p marked);
  },
  refl,
)

-- a step within a fragment came to a fault
pub stops_in_fragment : (most : List ℕ → ℕ) (e : FrameFault) (text : List ℕ) (count len m n : ℕ)
    (is_last : Bool) (before mid after then' : Option (List ℕ)) → Progress most text count before mid
    → Consumes mid after (mark is_last len) → len < 2147483648 → count < MAX_FRAGMENTS
    → Stops e (IsPartOfPiece most text len) (IsPartOfPiece most text len)
    (TakesPart (PassesBound most text len) after then') after then' m n → StopsAt most e before then' m n
stops_in_fragment most e text count len m n is_last before mid after then' p marked small few stops =
    let front : List ℕ = fragments p.pieces ++ mark is_last len in
    let taken : Consumes before after front =
    marked_too most text count before mid after is_last len p marked in
    let cut : (more : List ℕ) → IsPartOfPiece most text len more → IsUnfinished most (front ++ more) =
    λ more part. subst (IsUnfinished most) (sym (append_assoc (fragments p.pieces) (mark is_last len) more))
    (unfinished most text count before mid p (mark is_last len ++ more) (inr (record {
      is_last = is_last;
      len = len;
      came = more;
      bytes_are = refl;
      part = subst (λ (t : List ℕ). IsPartOfPiece most t len more) p.text_is part;
      count_fits = omega (arith, p.count_is);
    })) (omega (
      arith,
      length-append (fragments p.pieces) (mark is_last len ++ more),
      length-append (mark is_last len) more,
      length-mark is_last len,
    ))) in
    let passed : TakesPart (PassesBound most text len) after then' → TakesToLimit most before then' =
    λ (came, taken', passes). record {
      pieces = p.pieces;
      is_last = is_last;
      len = len;
      came = came;
      within = within most text count before mid p;
      len_fits = small;
      passes = inr (subst (λ (t : List ℕ). PassesBound most t len came) p.text_is passes);
      taken = rw (← append_assoc (fragments p.pieces) (mark is_last len) came)
          (Consumes-trans _ _ _ _ _ taken taken');
    } in
    stops_after e before after then' front m n _ _ _ _ _ _ taken (λ more part. inr (cut more part)) cut
    passed stops

-- the last fragment was taken: a record was
pub is_record : (most : List ℕ → ℕ) (text text' : List ℕ) (count len : ℕ)
    (before mid after then' : Option (List ℕ))
    → Progress most text count before mid → count < MAX_FRAGMENTS → Consumes mid after (mark true len)
    → Grows text text' len after then' → length text' ≤ most_bytes most text'
    → TakesRecord most (Some text') before then'
is_record most text text' count len before mid after then' p few marked (last, grown, size, taken) fits = (
  fragments p.pieces ++ fragment true last,
  record {
    pieces = p.pieces;
    last = last;
    text_is = refl;
    bytes_are = grown ∙ ap (λ (t : List ℕ). t ++ last) p.text_is;
    length_fits = fits;
    count_fits = omega (arith, p.count_is);
  },
  Consumes-trans _ _ _ _ _ p.taken (rw size (Consumes-trans _ _ _ _ _ marked taken)),
)

-- one more fragment that isn't the last
pub goes_on : (most : List ℕ → ℕ) (text text' : List ℕ) (count len : ℕ)
    (before mid after then' : Option (List ℕ))
    → Progress most text count before mid → count < MAX_FRAGMENTS → Consumes mid after (mark false len)
    → Grows text text' len after then' → length text' ≤ most_bytes most text'
    → Progress most text' (count + 1) before then'
goes_on most text text' count len before mid after then' p few marked (piece, grown, size, taken) fits =
    let one : fragments (piece ∷ []) ≡ fragment false piece =
    flat_map-cons (fragment false) piece [] ∙ append-nil (fragment false piece) in
    let whole : fragments (p.pieces ++ piece ∷ []) ≡ fragments p.pieces ++ fragment false piece =
    flat_map-append (fragment false) p.pieces (piece ∷ [])
    ∙ ap (λ (t : List ℕ). fragments p.pieces ++ t) one in
    let joined : concat (p.pieces ++ piece ∷ []) ≡ concat p.pieces ++ piece =
    concat-append p.pieces (piece ∷ []) ∙ ap (λ (t : List ℕ). concat p.pieces ++ t) (append-nil piece) in
    record {
      pieces = p.pieces ++ piece ∷ [];
      text_is = grown ∙ ap (λ (t : List ℕ). t ++ piece) p.text_is ∙ sym joined;
      count_is = omega (arith, length-append p.pieces (piece ∷ []), p.count_is);
      text_fits = fits;
      count_fits = omega arith;
      taken = rw whole (Consumes-trans _ _ _ _ _ p.taken (rw size (Consumes-trans _ _ _ _ _ marked taken)));
    }
