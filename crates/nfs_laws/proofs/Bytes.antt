-- Byte i of what is written is the one written, else the old one, else zero; and how long it is.
-- Serves: bytes_are_what_was_written (changes); trees_stay_trees.
use Rattle.std.proofs.Common.{◌≡◌, ⊎_elim, ℕ, ◌+◌, ◌-◌, ◌<◌, ◌≤◌, List, ◌++◌, length, take, drop, replicate}
use Rattle.std.proofs.Common.{max, get_or, refl, sym, ap, ◌∙◌, arith, length-append, length-take, length-drop}
use Rattle.std.proofs.lemmas.Bool.{cases_lt}
use Rattle.std.proofs.lemmas.List.{length-replicate, get_or_append_left, get_or-append_right, get_or-take}
use Rattle.std.proofs.lemmas.List.{get_or-drop, get_or-replicate, get_or_past}
use Rattle.nfs_spec.specs.Changes.{with_length, with_bytes_at}

-- what is cut or grown has the size asked for
pub length-resized : (size : ℕ) (bytes : List ℕ) → length (with_length size bytes) ≡ size
length-resized size bytes =
    omega (
      arith,
      length-append (take size bytes) (replicate (size - length bytes) 0),
      length-take size bytes,
      length-replicate {A = ℕ} (size - length bytes) 0,
    )

-- what is written ends where the new bytes end, or the old ones
pub written_length : (offset : ℕ) (new old : List ℕ)
    → length (with_bytes_at offset new old) ≡ max (offset + length new) (length old)
written_length offset new old =
    let whole = length-append (with_length offset old) (new ++ drop (offset + length new) old) in
    let front = length-resized offset old in
    let back = length-append new (drop (offset + length new) old) in
    let rest = length-drop (offset + length new) old in
    omega (arith, whole, front, back, rest)

-- and within any size that both are within
pub length-written : (offset : ℕ) (new old : List ℕ) (top : ℕ) → offset + length new ≤ top → length old ≤ top
    → length (with_bytes_at offset new old) ≤ top
length-written offset new old top fits was = omega (arith, written_length offset new old)

-- what is cut or grown keeps the bytes in front; after them are zeros
pub resized_byte : (size : ℕ) (old : List ℕ) (i : ℕ) → i < size
    → get_or (with_length size old) i 0 ≡ get_or old i 0
resized_byte size old i lt = ⊎_elim
    (λ inside.
    let long : i < length (take size old) = omega (arith, length-take size old) in
    get_or_append_left (take size old) (replicate (size - length old) 0) 0 i long
    ∙ get_or-take size old i 0 lt)
    (λ past.
    let all : length (take size old) ≡ length old = omega (arith, length-take size old) in
    get_or-append_right (take size old) (replicate (size - length old) 0) (length old) i 0 all past
    ∙ get_or-replicate (size - length old) (i - length old) 0 0 (omega arith)
    ∙ sym (get_or_past old i 0 past))
    (cases_lt i (length old))

-- a byte before the place is the old one
pub byte_before : (offset : ℕ) (new old : List ℕ) (i : ℕ) → i < offset
    → get_or (with_bytes_at offset new old) i 0 ≡ get_or old i 0
byte_before offset new old i lt =
    let long : i < length (with_length offset old) = omega (arith, length-resized offset old) in
    get_or_append_left (with_length offset old) (new ++ drop (offset + length new) old) 0 i long
    ∙ resized_byte offset old i lt

-- a byte after the new ones is the old one
pub byte_behind : (offset : ℕ) (new old : List ℕ) (i : ℕ) → offset + length new ≤ i
    → get_or (with_bytes_at offset new old) i 0 ≡ get_or old i 0
byte_behind offset new old i le =
    let place : (offset + length new) + ((i - offset) - length new) ≡ i = omega arith in
    get_or-append_right (with_length offset old) (new ++ drop (offset + length new) old) offset i 0
    (length-resized offset old) (omega arith)
    ∙ get_or-append_right new (drop (offset + length new) old) (length new) (i - offset) 0 refl (omega arith)
    ∙ get_or-drop (offset + length new) old ((i - offset) - length new) 0
    ∙ ap (λ n. get_or old n 0) place

-- a byte at the place is the new one
pub byte_new : (offset : ℕ) (new old : List ℕ) (i : ℕ) → i < length new
    → get_or (with_bytes_at offset new old) (offset + i) 0 ≡ get_or new i 0
byte_new offset new old i lt =
    let place : (offset + i) - offset ≡ i = omega arith in
    get_or-append_right (with_length offset old) (new ++ drop (offset + length new) old) offset (offset + i) 0
    (length-resized offset old) (omega arith)
    ∙ ap (λ n. get_or (new ++ drop (offset + length new) old) n 0) place
    ∙ get_or_append_left new (drop (offset + length new) old) 0 i lt
