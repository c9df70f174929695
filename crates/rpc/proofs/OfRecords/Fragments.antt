-- The fragments of a record, as read_record's loop takes them: its invariant `Progress`, that it holds at
-- first (`begins`) and goes on, and what follows where the loop ends.
-- Serves: read_record (each of its answers names the lemma of its case).
use Rattle.std.proofs.Common.{◌≡◌, ℕ, ◌+◌, ◌<◌, ◌≤◌, List, [], ◌∷◌, ◌++◌, arith, length, sym, ap, ◌∙◌, refl}
use Rattle.std.proofs.Common.{length-append, append_assoc, Bool, true, false, inl, inr, ◌⊎◌}
use Rattle.std.specs.Prelude.{Option, Some, None, IfSome}
use Rattle.std.specs.List.{concat}
use Rattle.std.specs.Io.KnownBytes.{Consumes}
use Rattle.std.proofs.KnownBytes.{Consumes-trans, Consumes-nil}
use Rattle.rpc.specs.Records.Record.{mark, fragment, fragments, AreWithin, HasRoom, Passes, IsUnfinished}
use Rattle.rpc.specs.Records.Record.{PassesLimit}
use Rattle.std.proofs.lemmas.List.{append-nil}
use Rattle.std.proofs.lemmas.List.Concat.{flat_map-cons, flat_map-append}
use Rattle.std.proofs.lemmas.List.Folds.{concat-append}
use Rattle.rpc.specs.declared.records.fault.RecordFault.{RecordFault}
use Rattle.rpc.specs.declared.records.fault.RecordFault.TheVariants as faults
use Rattle.rpc.specs.Records.Reading.{Grows, IsShorter, IsCutMark, Never, Fails, TakesRecord, TakesToLimit}
use Rattle.rpc.specs.Records.Reading.{StopsAt, EndsAt, IsPartOfRecord}
use Rattle.rpc.proofs.OfRecords.Marks.{length-mark}
use Rattle.rpc.specs.declared.records.record.TheConstants.{MAX_RECORD, MAX_FRAGMENTS}

-- These pieces were taken, none of them the last; their bytes are `text`.
pub record Progress (text : List ℕ) (count : ℕ) (before after : Option (List ℕ)) : Type 0 where
  -- the fragments, in order
  pub pieces : List (List ℕ)
  -- their bytes joined
  pub text_is : text ≡ concat pieces
  -- how many they are
  pub count_is : length pieces ≡ count
  -- within the limit of bytes
  pub length_fits : length text ≤ MAX_RECORD
  -- within the limit of fragments
  pub count_fits : count ≤ MAX_FRAGMENTS
  -- the reader gave their text and nothing else
  pub taken : Consumes before after (fragments pieces)

-- before the first fragment
pub begins : (before : Option (List ℕ)) → Progress [] 0 before before
begins before =
    record {
      pieces = [];
      text_is = refl;
      count_is = refl;
      length_fits = omega arith;
      count_fits =
          omega arith;
      taken = Consumes-nil before;
    }

-- what was taken is within the limits
within : (text : List ℕ) (count : ℕ) (before after : Option (List ℕ)) (p : Progress text count before after)
    → AreWithin p.pieces
within text count before after p =
    record {
      length_fits = omega (arith, ap length p.text_is, p.length_fits);
      count_fits =
          omega (arith, p.count_is, p.count_fits);
    }

-- and a fragment that passes no limit has room
has_room : (text : List ℕ) (count : ℕ) (before after : Option (List ℕ)) (p : Progress text count before after)
    (len : ℕ) → count < MAX_FRAGMENTS → length text + len ≤ MAX_RECORD → HasRoom p.pieces len
has_room text count before after p len few fits =
    record { length_fits = omega (arith, ap length p.text_is); count_fits = omega (arith, p.count_is) }

-- what is left after some bytes, where the bytes are known
after_known : {P Q : List ℕ → Type 0} (before mid : Option (List ℕ)) (bytes : List ℕ)
    → Consumes before mid bytes
    → ((xs ys : List ℕ) → xs ≡ bytes ++ ys → P ys → Q xs) → IfSome mid P → IfSome before Q
after_known None mid bytes taken f h = tt
after_known (Some xs) None bytes taken f h = absurd taken
after_known (Some xs) (Some ys) bytes taken f h = f xs ys taken h

-- a step comes to a fault after what was taken before it; what it had taken when a device failed is a part of
-- a record after that
stops_after : (e : RecordFault) (before mid after : Option (List ℕ)) (bytes : List ℕ)
    (IsPart : List ℕ → Type 0) → Consumes before mid bytes
    → ((more : List ℕ) → IsPart more → IsPartOfRecord (bytes ++ more)) → EndsAt e IsPart mid after
    → StopsAt e before after
stops_after faults.NoMemory before mid after bytes IsPart taken is_part h = tt
stops_after faults.RecordTooLong before mid after bytes IsPart taken is_part h = absurd h
stops_after faults.Device before mid after bytes IsPart taken is_part (more, taken', part) =
    (bytes ++ more, Consumes-trans _ _ _ _ _ taken taken', is_part more part)
stops_after faults.EndInRecord before mid after bytes IsPart taken is_part (more, taken', end) =
    (bytes ++ more, Consumes-trans _ _ _ _ _ taken taken', end)

-- a fault within a mark, after some fragments
pub fails_at_mark : (e : RecordFault) (text : List ℕ) (count : ℕ) (before mid : Option (List ℕ)) (m n : ℕ)
    → Progress text count before mid
    → Fails e Never IsCutMark mid m n → Fails e PassesLimit IsUnfinished before m n
fails_at_mark faults.NoMemory text count before mid m n p h = h
fails_at_mark faults.RecordTooLong text count before mid m n p h =
    (after_known before mid (fragments p.pieces) p.taken (λ xs ys e never. absurd never) h.0, h.1)
fails_at_mark faults.Device text count before mid m n p h = h
fails_at_mark faults.EndInRecord text count before mid m n p h = (
  after_known before mid (fragments p.pieces) p.taken (λ xs ys e part. record {
    pieces = p.pieces;
    tail = ys;
    bytes_are = e;
    within = within text count before mid p;
    tail_is = inl part.1;
    some = omega (arith, ap length e, length-append (fragments p.pieces) ys, part.0);
  }) h.0,
  h.1,
)

-- the text of fragments isn't empty, where there are some
length-fragments : (pieces : List (List ℕ)) → 0 < length pieces → 0 < length (fragments pieces)
length-fragments [] h = absurd (omega arith)
length-fragments (p ∷ ps) h =
    omega (
      arith,
      ap length (flat_map-cons (fragment false) p ps),
      length-append (fragment false p) (fragments ps),
      length-append (mark false (length p)) p,
      length-mark false (length p),
    )

-- some fragments and less than a mark are a part of a record
part_at_mark : (pieces : List (List ℕ)) (more : List ℕ) → AreWithin pieces → length more < 4
    → IsPartOfRecord (fragments pieces ++ more)
part_at_mark [] [] fits lt = inl refl
part_at_mark (p ∷ ps) [] fits lt =
    inr (record {
      pieces = p ∷ ps;
      tail = [];
      bytes_are = refl;
      within = fits;
      tail_is = inl lt;
      some = omega (arith, length-append (fragments (p ∷ ps)) [], length-fragments (p ∷ ps) (omega arith));
    })
part_at_mark pieces (b ∷ bs) fits lt =
    inr (record {
      pieces = pieces;
      tail = b ∷ bs;
      bytes_are = refl;
      within = fits;
      tail_is = inl lt;
      some =
          omega (arith, length-append (fragments pieces) (b ∷ bs));
    })

-- what was taken where a step within a mark came to a fault
pub stops_at_mark : (e : RecordFault) (text : List ℕ) (count : ℕ) (before mid after : Option (List ℕ))
    → Progress text count before mid
    → EndsAt e (IsShorter 4) mid after → StopsAt e before after
stops_at_mark e text count before mid after p h =
    stops_after e before mid after (fragments p.pieces) (IsShorter 4) p.taken
    (λ more lt. part_at_mark p.pieces more (within text count before mid p) lt) h

-- what was taken where a step within a fragment came to a fault
pub stops_at_piece : (e : RecordFault) (text : List ℕ) (count : ℕ) (before mid after then' : Option (List ℕ))
    (is_last : Bool) (len : ℕ) → Progress text count before mid
    → Consumes mid after (mark is_last len) → count < MAX_FRAGMENTS → length text + len ≤ MAX_RECORD
    → EndsAt e (IsShorter len) after then' → StopsAt e before then'
stops_at_piece e text count before mid after then' is_last len p taken few fits h =
    stops_after e before after then' (fragments p.pieces ++ mark is_last len) (IsShorter len)
    (Consumes-trans _ _ _ _ _ p.taken taken) (λ more lt. inr (record {
      pieces = p.pieces;
      tail = mark is_last len ++ more;
      bytes_are = append_assoc (fragments p.pieces) (mark is_last len) more;
      within = within text count before mid p;
      tail_is = inr (record {
        is_last = is_last;
        len = len;
        front = more;
        bytes_are = refl;
        is_short =
            lt;
        fits = has_room text count before mid p len few fits;
      });
      some = omega (
        arith,
        length-append (fragments p.pieces ++ mark is_last len) more,
        length-append (fragments p.pieces) (mark is_last len),
        length-mark is_last len,
      );
    })) h

-- the bytes end after a fragment that isn't the last
pub fails_at_end : (text : List ℕ) (count : ℕ) (before mid : Option (List ℕ)) → Progress text count before mid
    → 0 < count → IfSome mid (λ bytes. bytes ≡ []) → IfSome before IsUnfinished
fails_at_end text count before mid p some h =
    after_known before mid (fragments p.pieces) p.taken (λ xs ys e none. record {
      pieces = p.pieces;
      tail = ys;
      bytes_are = e;
      within = within text count before mid p;
      tail_is = inl (omega (arith, ap length none));
      some = omega (
        arith,
        ap length e,
        length-append (fragments p.pieces) ys,
        length-fragments p.pieces (omega (arith, p.count_is)),
      );
    }) h

-- a fault within a fragment, after its mark
pub fails_at_piece : (e : RecordFault) (text : List ℕ) (count : ℕ) (before mid after : Option (List ℕ))
    (is_last : Bool) (len m n : ℕ) → Progress text count before mid
    → Consumes mid after (mark is_last len) → count < MAX_FRAGMENTS → length text + len ≤ MAX_RECORD
    → Fails e Never (IsShorter len) after m n → Fails e PassesLimit IsUnfinished before m n
fails_at_piece faults.NoMemory text count before mid after is_last len m n p taken few fits h = h
fails_at_piece faults.RecordTooLong text count before mid after is_last len m n p taken few fits h = (
  after_known before after (fragments p.pieces ++ mark is_last len)
      (Consumes-trans _ _ _ _ _ p.taken taken) (λ xs ys e never. absurd never) h.0,
  h.1,
)
fails_at_piece faults.Device text count before mid after is_last len m n p taken few fits h = h
fails_at_piece faults.EndInRecord text count before mid after is_last len m n p taken few fits h = (
  after_known before after (fragments p.pieces ++ mark is_last len) (Consumes-trans _ _ _ _ _ p.taken taken)
      (λ xs ys e short. record {
        pieces = p.pieces;
        tail = mark is_last len ++ ys;
        bytes_are = e ∙ append_assoc (fragments p.pieces) (mark is_last len) ys;
        within = within text count before mid p;
        tail_is = inr (record {
          is_last = is_last;
          len = len;
          front = ys;
          bytes_are = refl;
          is_short =
              short;
          fits = has_room text count before mid p len few fits;
        });
        some = omega (
          arith,
          ap length e,
          length-append (fragments p.pieces ++ mark is_last len) ys,
          length-append (fragments p.pieces) (mark is_last len),
          length-mark is_last len,
        );
      }) h.0,
  h.1,
)

-- the limit that a mark passes, as the definition says it
limit_of : (text : List ℕ) (count : ℕ) (before mid : Option (List ℕ)) (p : Progress text count before mid)
    (len : ℕ) → (MAX_FRAGMENTS ≤ count) ⊎ (MAX_RECORD < length text + len) → Passes p.pieces len
limit_of text count before mid p len (inl full) = inr (omega (arith, p.count_is, full))
limit_of text count before mid p len (inr long) = inl (omega (arith, ap length p.text_is, long))

-- a mark passes a limit: what was taken ends with it
pub takes_to_limit : (text : List ℕ) (count : ℕ) (before mid after : Option (List ℕ)) (is_last : Bool)
    (len : ℕ) → Progress text count before mid
    → Consumes mid after (mark is_last len) → len < 2147483648
    → (MAX_FRAGMENTS ≤ count) ⊎ (MAX_RECORD < length text + len) → TakesToLimit before after
takes_to_limit text count before mid after is_last len p taken len_fits limit = record {
  pieces = p.pieces;
  is_last = is_last;
  len = len;
  within = within text count before mid p;
  len_fits = len_fits;
  passes = limit_of text count before mid p len limit;
  taken = Consumes-trans _ _ _ _ _ p.taken taken;
}

-- the last fragment was taken: a record was
pub is_record : (text text' : List ℕ) (count len : ℕ) (before mid after then' : Option (List ℕ))
    → Progress text count before mid → count < MAX_FRAGMENTS
    → Consumes mid after (mark true len) → Grows text text' len after then' → length text + len ≤ MAX_RECORD
    → TakesRecord (Some text') before then'
is_record text text' count len before mid after then' p few marked (piece, grown, size, taken) fits = (
  fragments p.pieces ++ fragment true piece,
  record {
    pieces = p.pieces;
    last = piece;
    text_is = refl;
    bytes_are = grown ∙ ap (λ (t : List ℕ). t ++ piece) p.text_is;
    fits = has_room text count before mid p (length piece) few (omega (arith, size));
  },
  Consumes-trans _ _ _ _ _ p.taken (rw size (Consumes-trans _ _ _ _ _ marked taken)),
)

-- one more fragment that isn't the last
pub goes_on : (text text' : List ℕ) (count len : ℕ) (before mid after then' : Option (List ℕ))
    → Progress text count before mid → count < MAX_FRAGMENTS
    → Consumes mid after (mark false len) → Grows text text' len after then' → length text + len ≤ MAX_RECORD
    → Progress text' (count + 1) before then'
goes_on text text' count len before mid after then' p few marked (piece, grown, size, taken) fits =
    let whole : fragments (p.pieces ++ piece ∷ []) ≡ fragments p.pieces ++ fragment false piece =
    flat_map-append (fragment false) p.pieces (piece ∷ [])
    ∙ ap (λ (t : List ℕ). fragments p.pieces ++ t)
    (flat_map-cons (fragment false) piece [] ∙ append-nil (fragment false piece)) in
    let joined : concat (p.pieces ++ piece ∷ []) ≡ concat p.pieces ++ piece =
    concat-append p.pieces (piece ∷ []) ∙ ap (λ (t : List ℕ). concat p.pieces ++ t) (append-nil piece) in
    record {
      pieces = p.pieces ++ piece ∷ [];
      text_is = grown ∙ ap (λ (t : List ℕ). t ++ piece) p.text_is ∙ sym joined;
      count_is = omega (arith, length-append p.pieces (piece ∷ []), p.count_is);
      length_fits = omega (arith, ap length grown, length-append text piece, size);
      count_fits = omega arith;
      taken = rw whole (Consumes-trans _ _ _ _ _ p.taken (rw size (Consumes-trans _ _ _ _ _ marked taken)));
    }
