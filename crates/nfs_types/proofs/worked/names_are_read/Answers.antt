use Rattle.std.proofs.Common.{◌≡◌, ◌<◌, ◌≤◌, ◌^◌, ◌++◌, ◌∷◌, ltb, true, false, arith, subst, ℕ, List, Ok, Err}
use Rattle.std.proofs.Common.{refl, sym, ap, ◌∙◌, length, append-nil}
use Rattle.std.proofs.lemmas.Bool.{lt-ltb, le-ltb}
use Rattle.std.proofs.lemmas.List.{drop_at, length-append}
use Rattle.nfs_items.specs.xdr.declared.fault.XdrFault.TheVariants.{Padding, TooLong}
use Rattle.nfs_items.specs.xdr.Item.{number_spelling, padding}
use Rattle.nfs_items.specs.xdr.Reading.{number_at, fixed_at, opaque_at, read_at}
use Rattle.nfs_items.proofs.xdr.Front.{number_again, opaque_again}
use Rattle.nfs_items.proofs.xdr.Exact.{again}
use Rattle.nfs_items.specs.Handle.{fhandle}
use Rattle.nfs_types.proofs.worked.names_are_read.Goals as goal

pub returns-clause-name : goal.returns-clause-name
unfolding number_at fixed_at opaque_at
returns-clause-name c = refl

pub returns-clause-padding : goal.returns-clause-padding
unfolding number_at fixed_at opaque_at
returns-clause-padding c = refl

-- a length above what is allowed
too_long : (max len : ℕ) (rest : List ℕ) → max < len → len < 2 ^ 32
    → opaque_at max (number_spelling 4 len ++ rest) ≡ Err TooLong
unfolding opaque_at
too_long max len rest above fits = let more : ltb max len ≡ true = lt-ltb _ _ above in
    rw (number_again 4 len rest fits, more) refl

handle_first : (handle rest : List ℕ) → length handle ≡ 32
    → read_at fhandle (handle ++ rest) ≡ Ok (handle, rest)
handle_first handle rest h =
    ap (λ (front : List ℕ). read_at fhandle (front ++ rest)) (sym (append-nil handle))
    ∙ again fhandle handle rest h

pub returns-clause-long : goal.returns-clause-long
returns-clause-long c len rest above fits = too_long 255 len rest above fits

pub returns-clause-create : goal.returns-clause-create
returns-clause-create c handle len rest h above fits =
    rw (handle_first handle (number_spelling 4 len ++ rest) h, too_long 255 len rest above fits) refl

pub returns-clause-write : goal.returns-clause-write
returns-clause-write c handle begin offset total len rest h b o t above fits =
    rw (
      handle_first handle (number_spelling 4 begin
          ++ (number_spelling 4 offset ++ (number_spelling 4 total ++ (number_spelling 4 len ++ rest)))) h,
      number_again 4 begin (number_spelling 4 offset
          ++ (number_spelling 4 total ++ (number_spelling 4 len ++ rest))) b,
      number_again 4 offset (number_spelling 4 total ++ (number_spelling 4 len ++ rest)) o,
      number_again 4 total (number_spelling 4 len ++ rest) t,
      too_long 8192 len rest above fits,
    ) refl

whole_again : (len : ℕ) (name rest : List ℕ) → length name ≡ len → len < 2 ^ 32 → len ≤ 255
    → opaque_at 255 ((number_spelling 4 len ++ (name ++ padding len)) ++ rest) ≡ Ok (name, rest)
whole_again len name rest is small le =
    subst (λ (k : ℕ). opaque_at 255 ((number_spelling 4 k ++ (name ++ padding k)) ++ rest)
    ≡ Ok (name, rest)) is (opaque_again 255 name rest (omega (arith, is, small)) (omega (arith, is, le)))

pub returns-clause-whole : goal.returns-clause-whole
returns-clause-whole c name rest is = whole_again 255 name rest is (omega arith) (omega arith)

odd_padding : (name rest : List ℕ) → length name ≡ 255
    → opaque_at 255 (number_spelling 4 255 ++ (name ++ 1 ∷ rest)) ≡ Err Padding
unfolding opaque_at fixed_at
odd_padding name rest is =
    let long : ltb (length (name ++ 1 ∷ rest)) 256 ≡ false =
    le-ltb _ _ (omega (arith, is, length-append name (1 ∷ rest))) in
    rw (number_again 4 255 (name ++ 1 ∷ rest) (omega arith), long, drop_at name (1 ∷ rest) 255 is) refl

pub returns-clause-odd : goal.returns-clause-odd
returns-clause-odd c handle name rest h is =
    rw (handle_first handle (number_spelling 4 255 ++ (name ++ 1 ∷ rest)) h, odd_padding name rest is) refl
