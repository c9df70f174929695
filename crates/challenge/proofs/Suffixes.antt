-- What an item leaves is the end of the bytes.
-- Serves: front, fork_in_front, hash_in_front.
use Rattle.std.proofs.Common.{◌≡◌, ℕ, ◌+◌, ◌-◌, ◌≤◌, List, ◌++◌, length, drop, Ok, ap, ◌∙◌, arith}
use Rattle.std.proofs.lemmas.List.{length-append, drop_at}
use Rattle.xdr.specs.Item.{Item, Value, IsBytes, spelling}
use Rattle.xdr.specs.Reading.{read_at}
use Rattle.xdr.proofs.Exact.{takes}

-- what is left after a text is no longer than the bytes, and is what they end with
pub is_end : (text rest bytes : List ℕ) → bytes ≡ text ++ rest
    → (length rest ≤ length bytes) × (drop (length bytes - length rest) bytes ≡ rest)
is_end text rest bytes e =
    let sum : length bytes ≡ length text + length rest = ap (λ (x : List ℕ). length x) e
    ∙ length-append text rest in
    let front : length text ≡ length bytes - length rest = omega (arith, sum) in (
      omega (arith, sum),
      ap (λ (x : List ℕ). drop (length bytes - length rest) x) e
          ∙ drop_at text rest (length bytes - length rest) front,
    )

-- an item leaves the end of the bytes
pub leaves : (a : Item) (bytes rest : List ℕ) (v : Value a) → IsBytes bytes → read_at a bytes ≡ Ok (v, rest)
    → (length rest ≤ length bytes) × (read_at a bytes ≡ Ok (v, drop (length bytes - length rest) bytes))
leaves a bytes rest v bound e =
    let text = takes a bytes (v, rest) bound e in
    let end = is_end (spelling a v) rest bytes text.0.parts in
    (end.0, rw end.1 e)
