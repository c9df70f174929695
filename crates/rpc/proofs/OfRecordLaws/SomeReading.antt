-- Of any bytes one reading holds: by induction on what is left after the fragments so far.
-- Serves: some_reading.
use Rattle.std.proofs.Common.{◌≡◌, ℕ, zero, suc, ◌+◌, ◌-◌, ◌^◌, ◌<◌, ◌≤◌, ◌⊎◌, List, [], ◌∷◌, ◌++◌, arith}
use Rattle.std.proofs.Common.{length, take, drop, sym, ap, ◌∙◌, refl, inl, inr, length-append, append_assoc}
use Rattle.std.proofs.Common.{take-append-drop, Bool, true, false}
use Rattle.std.specs.List.{concat}
use Rattle.std.proofs.lemmas.Bool.{cases_lt}
use Rattle.std.proofs.lemmas.List.{append-nil, length-take, length-drop}
use Rattle.std.proofs.lemmas.List.Concat.{flat_map-cons, flat_map-append}
use Rattle.std.proofs.lemmas.List.Folds.{concat-append}
use Rattle.byteorder.specs.Endian.{big_number}
use Rattle.byteorder.specs.Numbers.{big_from-lt}
use Rattle.xdr.specs.Item.{IsBytes}
use Rattle.xdr.proofs.Front.{IsBytes-take, IsBytes-drop}
use Rattle.rpc.specs.Records.Record.{mark, fragment, fragments, AreWithin, Front, nothing, a_record}
use Rattle.rpc.specs.Records.Record.{unfinished, too_long, BeginsWith}
use Rattle.rpc.proofs.OfRecords.Marks.{mark_is}
use Rattle.rpc.specs.declared.records.record.TheConstants.{MAX_RECORD, MAX_FRAGMENTS}

-- A mark stands at the front.
record MarkAt (tail : List ℕ) : Type 0 where
  is_last : Bool
  len : ℕ
  tail_is : tail ≡ mark is_last len ++ drop 4 tail
  len_fits : len < 2147483648

-- where four bytes are left, they are a mark
mark_at : (tail : List ℕ) → 4 ≤ length tail → IsBytes tail → MarkAt tail
mark_at tail long bytes =
    let front : List ℕ = take 4 tail in
    let size : length front ≡ 4 = omega (arith, length-take 4 tail) in
    let fits : IsBytes front = IsBytes-take 4 tail bytes in
    let small : big_number 4 front < 256 ^ 4 = big_from-lt 0 4 front fits in
    elim (cases_lt (big_number 4 front) 2147483648) [
      | inl lt ↦
          record {
            is_last = false;
            len = big_number 4 front;
            tail_is = sym (take-append-drop 4 tail)
                ∙ ap (λ (t : List ℕ). t ++ drop 4 tail)
                (mark_is front false (big_number 4 front) size fits refl);
            len_fits = lt;
          }
      | inr le ↦
          record {
            is_last = true;
            len = big_number 4 front - 2147483648;
            tail_is = sym (take-append-drop 4 tail)
                ∙ ap (λ (t : List ℕ). t ++ drop 4 tail)
                (mark_is front true (big_number 4 front - 2147483648) size fits (omega arith));
            len_fits = omega arith;
          }
    ]

-- one fragment more is within the limits
within_more : (pieces : List (List ℕ)) (piece : List ℕ) → length (concat pieces) + length piece ≤ MAX_RECORD
    → length pieces < MAX_FRAGMENTS → AreWithin (pieces ++ piece ∷ [])
within_more pieces piece fits few = record {
  length_fits =
      omega (
        arith,
        ap length (concat-append pieces (piece ∷ [])),
        length-append (concat pieces) (concat (piece ∷ [])),
        ap length (append-nil piece),
      );
  count_fits = omega (arith, length-append pieces (piece ∷ []));
}

-- a fragment that isn't the last goes to those before it
more_is : (pieces : List (List ℕ)) (piece rest : List ℕ)
    → fragments pieces ++ (fragment false piece ++ rest) ≡ fragments (pieces ++ piece ∷ []) ++ rest
more_is pieces piece rest =
    let whole : fragments (pieces ++ piece ∷ []) ≡ fragments pieces ++ fragment false piece =
    flat_map-append (fragment false) pieces (piece ∷ [])
    ∙ ap (λ (t : List ℕ). fragments pieces ++ t)
    (flat_map-cons (fragment false) piece [] ∙ append-nil (fragment false piece)) in
    sym (append_assoc (fragments pieces) (fragment false piece) rest)
    ∙ ap (λ (t : List ℕ). t ++ rest) (sym whole)

-- a mark, and as many bytes as it says
piece_is : (is_last : Bool) (len : ℕ) (more tail : List ℕ) → len ≤ length more
    → tail ≡ mark is_last len ++ more
    → (length (take len more) ≡ len) × (tail ≡ fragment is_last (take len more) ++ drop len more)
piece_is is_last len more tail le e =
    let size : length (take len more) ≡ len = omega (arith, length-take len more) in
    let parts : mark is_last len ++ more ≡ (mark is_last len ++ take len more) ++ drop len more =
    ap (λ (t : List ℕ). mark is_last len ++ t) (sym (take-append-drop len more))
    ∙ sym (append_assoc (mark is_last len) (take len more) (drop len more)) in
    (size, e ∙ rw size parts)

-- what stands at the front of bytes
abbrev Reading : List ℕ → Type 0
Reading bytes = (a : Front) × BeginsWith bytes a

-- what is read from some pieces on is read from this tail on, if it is from each shorter one
step : (pieces : List (List ℕ)) (tail bytes : List ℕ) → bytes ≡ fragments pieces ++ tail → AreWithin pieces
    → 0 < length bytes → IsBytes tail
    → ((pieces' : List (List ℕ)) (tail' : List ℕ) → length tail' < length tail
    → bytes ≡ fragments pieces' ++ tail' → AreWithin pieces' → IsBytes tail' → Reading bytes) → Reading bytes
step pieces tail bytes e within some is next =
    elim (cases_lt (length tail) 4) [
      | inl part ↦ (
        unfinished,
        record {
          pieces = pieces;
          tail = tail;
          bytes_are = e;
          within = within;
          tail_is =
              inl part;
          some = some;
        },
      )
      | inr long ↦ at_mark (mark_at tail long is) long
    ]
  where
    whole : (is_last : Bool) (len : ℕ) → tail ≡ mark is_last len ++ drop 4 tail
        → length (concat pieces) + len ≤ MAX_RECORD → length pieces < MAX_FRAGMENTS
        → len ≤ length (drop 4 tail) → 4 ≤ length tail → Reading bytes
    whole true len at fits few le long =
        let piece = piece_is true len (drop 4 tail) tail le at in (
          a_record (fragments pieces ++ fragment true (take len (drop 4 tail)))
              (concat pieces ++ take len (drop 4 tail)) (drop len (drop 4 tail)),
          (
            record {
              pieces = pieces;
              last = take len (drop 4 tail);
              text_is = refl;
              bytes_are = refl;
              fits =
                  record { length_fits = omega (arith, piece.0); count_fits = few };
            },
            e ∙ ap (λ (t : List ℕ). fragments pieces ++ t) piece.1
                ∙ sym (append_assoc (fragments pieces) (fragment true (take len (drop 4 tail)))
                (drop len (drop 4 tail))),
          ),
        )
    whole false len at fits few le long =
        let piece = piece_is false len (drop 4 tail) tail le at in
        next (pieces ++ take len (drop 4 tail) ∷ []) (drop len (drop 4 tail))
        (omega (arith, length-drop len (drop 4 tail), length-drop 4 tail))
        (e ∙ ap (λ (t : List ℕ). fragments pieces ++ t) piece.1
        ∙ more_is pieces (take len (drop 4 tail)) (drop len (drop 4 tail)))
        (within_more pieces (take len (drop 4 tail)) (omega (arith, piece.0)) few)
        (IsBytes-drop len (drop 4 tail) (IsBytes-drop 4 tail is))

    over : (m : MarkAt tail) → (MAX_RECORD < length (concat pieces) + m.len) ⊎ (MAX_FRAGMENTS ≤ length pieces)
        → Reading bytes
    over m p = (
      too_long,
      record {
        pieces = pieces;
        is_last = m.is_last;
        len = m.len;
        more = drop 4 tail;
        bytes_are = e ∙ ap (λ (t : List ℕ). fragments pieces ++ t) m.tail_is;
        within = within;
        len_fits = m.len_fits;
        passes = p;
      },
    )

    cut : (m : MarkAt tail) → length (concat pieces) + m.len ≤ MAX_RECORD → length pieces < MAX_FRAGMENTS
        → length (drop 4 tail) < m.len → Reading bytes
    cut m fits few lt = (
      unfinished,
      record {
        pieces = pieces;
        tail = tail;
        bytes_are = e;
        within = within;
        tail_is = inr (record {
          is_last = m.is_last;
          len = m.len;
          front = drop 4 tail;
          bytes_are =
              m.tail_is;
          is_short = lt;
          fits = record { length_fits = fits; count_fits = few };
        });
        some = some;
      },
    )

    at_mark : MarkAt tail → 4 ≤ length tail → Reading bytes
    at_mark m long =
        elim (cases_lt MAX_RECORD (length (concat pieces) + m.len)) [
          | inl passes ↦ over m (inl passes)
          | inr fits ↦
              elim (cases_lt (length pieces) MAX_FRAGMENTS) [
                | inr full ↦ over m (inr full)
                | inl few ↦
                    elim (cases_lt (length (drop 4 tail)) m.len) [
                      | inl lt ↦ cut m fits few lt
                      | inr le ↦ whole m.is_last m.len m.tail_is fits few le long
                    ]
              ]
        ]

-- the induction
from_here : (fuel : ℕ) (pieces : List (List ℕ)) (tail bytes : List ℕ) → length tail < fuel
    → bytes ≡ fragments pieces ++ tail → AreWithin pieces → 0 < length bytes → IsBytes tail → Reading bytes
from_here zero pieces tail bytes short e within some is = absurd (omega arith)
from_here (suc fuel) pieces tail bytes short e within some is =
    step pieces tail bytes e within some is
    (λ ps t lt f w i. from_here fuel ps t bytes (omega arith) f w some i)

-- the law
pub some_reading : (bytes : List ℕ) → IsBytes bytes → (a : Front) × BeginsWith bytes a
some_reading [] is = (nothing, refl)
some_reading (b ∷ bs) is =
    from_here (suc (length (b ∷ bs))) [] (b ∷ bs) (b ∷ bs) (omega arith) refl
    (record { length_fits = omega arith; count_fits = omega arith }) (omega arith) is
