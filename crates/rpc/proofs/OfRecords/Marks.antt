-- A mark, as the number that it spells.
-- Serves: mark_of; record_in_front; read_record by way of Fragments; the laws of record_laws.
use Rattle.std.proofs.Common.{◌≡◌, ℕ, ◌+◌, ◌<◌, List, length, get_or, sym, ap, ◌∙◌, refl, Bool, true, false}
use Rattle.std.proofs.Common.{cond, ◌++◌, arith}
use Rattle.byteorder.specs.Endian.{big_bytes, big_number}
use Rattle.xdr.specs.Item.{word, number_spelling}
use Rattle.xdr.proofs.Exact.{one_meaning}
use Rattle.xdr.proofs.Front.{back4}
use Rattle.rpc.specs.Records.Record.{mark}

-- a mark has four bytes
pub length-mark : (is_last : Bool) (len : ℕ) → length (mark is_last len) ≡ 4
unfolding mark
length-mark is_last len = refl

-- four bytes are the mark of the number that they spell
pub mark_is : (bytes : List ℕ) (is_last : Bool) (len : ℕ) → length bytes ≡ 4
    → ((i : ℕ) → get_or bytes i 0 < 256) → cond is_last (len + 2147483648) len ≡ big_number 4 bytes
    → bytes ≡ mark is_last len
unfolding mark
mark_is bytes is_last len size fits e = sym (ap (big_bytes 4) e ∙ back4 bytes size fits)

-- a mark at the front tells whether it is the last, its length, and what follows
pub one_mark : (b c : Bool) (m n : ℕ) (x y : List ℕ) → m < 2147483648 → n < 2147483648
    → mark b m ++ x ≡ mark c n ++ y → (b ≡ c) × (m ≡ n) × (x ≡ y)
unfolding mark number_spelling
one_mark false false m n x y lt lt' e = let both = one_meaning word m n x y (omega arith) (omega arith) e in
    (refl, both.0, both.1)
one_mark true true m n x y lt lt' e = let both =
    one_meaning word (m + 2147483648) (n + 2147483648) x y (omega arith) (omega arith) e in
    (refl, omega (arith, both.0), both.1)
one_mark false true m n x y lt lt' e = let both =
    one_meaning word m (n + 2147483648) x y (omega arith) (omega arith) e in absurd (omega (arith, both.0))
one_mark true false m n x y lt lt' e = let both =
    one_meaning word (m + 2147483648) n x y (omega arith) (omega arith) e in absurd (omega (arith, both.0))
