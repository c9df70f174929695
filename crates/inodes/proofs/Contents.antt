-- The bytes of a regular file after a write: filled up with zeros to its end first, and then written over.
-- Serves: `content::write_at`.
use Rattle.std.proofs.Common.{◌≡◌, ℕ, ◌+◌, ◌-◌, ◌≤◌, ◌<◌, ◌⊎◌, inl, inr, List, ◌++◌, length, take, drop}
use Rattle.std.proofs.Common.{replicate, sym, ap, ◌∙◌, arith}
use Rattle.std.proofs.lemmas.List.{append-nil, take_all, drop_all, take-append-le, take-replicate}
use Rattle.std.proofs.lemmas.List.{length-append, length-replicate, take_at}
use Rattle.std.proofs.lemmas.Bool.{cases_lt}
use Rattle.std.proofs.Math.Seq.{take-append-add}
use Rattle.nfs_spec.specs.Changes.{with_length, with_bytes_at}

-- the front of filled bytes is the bytes at that length
front : (offset m : ℕ) (old : List ℕ) → offset ≤ m
    → take offset (old ++ replicate (m - length old) 0) ≡ with_length offset old
front offset m old le = by (cases_lt offset (length old))
  where
    by : (offset < length old) ⊎ (length old ≤ offset)
        → take offset (old ++ replicate (m - length old) 0) ≡ with_length offset old
    by (inl lt) =
        let none : offset - length old ≡ 0 = omega (arith, lt) in
        take-append-le offset old (replicate (m - length old) 0) (omega (arith, lt))
        ∙ sym (append-nil (take offset old))
        ∙ ap (λ (k : ℕ). take offset old ++ replicate k 0) (sym none)
    by (inr ge) =
        let at : offset ≡ length old + (offset - length old) = omega (arith, ge) in
        ap (λ (n : ℕ). take n (old ++ replicate (m - length old) 0)) at
        ∙ take-append-add old (replicate (m - length old) 0) (offset - length old)
        ∙ ap (λ (l : List ℕ). old ++ l) (take-replicate (offset - length old) (m - length old) 0
        (omega (arith, le)))
        ∙ ap (λ (l : List ℕ). l ++ replicate (offset - length old) 0) (sym (take_all offset old ge))

-- what lies after the end is what lay there: nothing, where zeros were put
back : (e m : ℕ) (old : List ℕ) → m ≡ length old + (e - length old)
    → drop e (old ++ replicate (m - length old) 0) ≡ drop e old
back e m old is = by (cases_lt e (length old))
  where
    by : (e < length old) ⊎ (length old ≤ e) → drop e (old ++ replicate (m - length old) 0) ≡ drop e old
    by (inl lt) =
        let none : m - length old ≡ 0 = omega (arith, is, lt) in
        ap (λ (k : ℕ). drop e (old ++ replicate k 0)) none ∙ ap (drop e) (append-nil old)
    by (inr ge) =
        let z : List ℕ = replicate (m - length old) 0 in
        drop_all e (old ++ z) (omega (
          arith,
          is,
          ge,
          length-append old z,
          length-replicate {A = ℕ} (m - length old) 0,
        ))
        ∙ sym (drop_all e old ge)

-- filled up to the end of what is written, and written over there
pub written_over : (offset m : ℕ) (new old : List ℕ) → m ≡ length old + (offset + length new - length old)
    → (d : List ℕ) → d ≡ take m old ++ replicate (m - length old) 0
    → take offset d ++ (new ++ drop (offset + length new) d) ≡ with_bytes_at offset new old
written_over offset m new old is d filled =
    let e : ℕ = offset + length new in
    let z : List ℕ = replicate (m - length old) 0 in
    let whole : d ≡ old ++ z = filled ∙ ap (λ (l : List ℕ). l ++ z) (take_all m old (omega (arith, is))) in
    ap (λ (l : List ℕ). take offset l ++ (new ++ drop e l)) whole
    ∙ ap (λ (l : List ℕ). l ++ (new ++ drop e (old ++ z))) (front offset m old (omega (arith, is)))
    ∙ ap (λ (l : List ℕ). with_length offset old ++ (new ++ l)) (back e m old is)

-- the same of what a vector holds when its slice comes back
pub written_back : (offset m : ℕ) (new old d n items : List ℕ) (len : ℕ)
    → m ≡ length old + (offset + length new - length old)
    → d ≡ take m old ++ replicate (m - length old) 0
    → n ≡ take offset d ++ (new ++ drop (offset + length new) d) → length n ≡ len
    → take len (n ++ drop (length n) items) ≡ with_bytes_at offset new old
written_back offset m new old d n items len is filled over long =
    take_at n (drop (length n) items) len long ∙ over ∙ written_over offset m new old is d filled
