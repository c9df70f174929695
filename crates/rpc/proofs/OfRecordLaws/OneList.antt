-- A text is one list of records at most.
-- Serves: one_list_of_records.
use Rattle.std.proofs.Common.{◌≡◌, ℕ, ◌<◌, List, [], ◌∷◌, arith, length, refl, sym, ap, ◌∙◌, length-append}
use Rattle.std.proofs.Common.{subst, true}
use Rattle.rpc.specs.Records.Record.{IsRecord, mark, fragment, fragments}
use Rattle.rpc.specs.Records.Stream.{AreRecords}
use Rattle.rpc.proofs.OfRecords.Marks.{length-mark}
use Rattle.rpc.proofs.OfRecordLaws.OneRecord.{one_record}

-- a record's text isn't empty
record-is_some : (t r : List ℕ) → IsRecord t r → 0 < length t
record-is_some t r a =
    omega (
      arith,
      ap length a.text_is,
      length-append (fragments a.pieces) (fragment true a.last),
      length-append (mark true (length a.last)) a.last,
      length-mark true (length a.last),
    )

-- the law
pub one_list_of_records : (text : List ℕ) (rs ss : List (List ℕ)) → AreRecords text rs → AreRecords text ss
    → rs ≡ ss
one_list_of_records text [] [] a b = refl
one_list_of_records text [] (s ∷ ss) a (first, others, is, are, e) =
    absurd (omega (arith, ap length a, ap length e, length-append first others, record-is_some first s is))
one_list_of_records text (r ∷ rs) [] (first, others, is, are, e) b =
    absurd (omega (arith, ap length b, ap length e, length-append first others, record-is_some first r is))
one_list_of_records text (r ∷ rs) (s ∷ ss) (first, others, is, are, e) (first', others', is', are', e') =
    let one = one_record first first' r s others others' is is' (sym e ∙ e') in
    let rest = one_list_of_records others rs ss are
    (subst (λ (t : List ℕ). AreRecords t ss) (sym one.1) are') in
    let head : r ≡ s = one.0 in
    cc
