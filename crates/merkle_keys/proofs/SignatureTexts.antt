-- The parts of a signature have a spelling, and stand one after the other in its text.
-- Serves: add_fields, by it Signature::write; Signature::text_digest (merkle_keys).
use Rattle.std.proofs.Common.{◌≡◌, ℕ, suc, ◌^◌, ◌<◌, ◌≤◌, List, [], ◌∷◌, ◌++◌, length, get_or, sym, ◌∙◌}
use Rattle.std.proofs.Common.{append_assoc, arith}
use Rattle.std.proofs.lemmas.List.{append-nil}
use Rattle.std.specs.List.{AllByRecursion}
use Rattle.lamport.specs.declared.key.TheConstants.{TEXT_SIZE}
use Rattle.xdr.specs.Item.{Fits}
use Rattle.merkle_keys.specs.Signing.{signature_item}
use Rattle.merkle_keys.specs.declared.signature.TheConstants.{MAX_HEIGHT}

-- hashes of 32 bytes each
each_fits : (hashes : List (List ℕ)) → ((i : ℕ) → i < length hashes → length (get_or hashes i []) ≡ 32)
    → AllByRecursion (λ hash. length hash ≡ 32) hashes
each_fits [] each = tt
each_fits (hash ∷ hashes) each = (each 0 (omega arith), each_fits hashes (λ i h. each (suc i) (omega arith)))

-- parts of these lengths can be spelled
pub parts_fit : (leaf : ℕ) (shown other : List ℕ) (path : List (List ℕ)) → leaf < 2 ^ 32
    → length shown ≡ TEXT_SIZE → length other ≡ TEXT_SIZE → length path ≤ MAX_HEIGHT
    → ((i : ℕ) → i < length path → length (get_or path i []) ≡ 32)
    → Fits signature_item (leaf, (shown, (other, path)))
parts_fit leaf shown other path a b c few each = (a, (b, (c, (omega arith, few, each_fits path each))))

-- parts that are taken in one by one are the whole text
pub one_by_one : (a b d e leaf shown other path : List ℕ) → a ≡ leaf → b ≡ shown → d ≡ other → e ≡ path
    → ((([] ++ a) ++ b) ++ d) ++ e ≡ leaf ++ ((shown ++ []) ++ ((other ++ []) ++ path))
one_by_one a b d e leaf shown other path ea eb ed ee =
    let texts = λ (s o : List ℕ). leaf ++ (s ++ (o ++ path)) in
    (λ i. (((ea i) ++ (eb i)) ++ (ed i)) ++ (ee i)) ∙ append_assoc (leaf ++ shown) other path
    ∙ append_assoc leaf shown (other ++ path)
    ∙ (λ i. texts (sym (append-nil shown) i) (sym (append-nil other) i))
