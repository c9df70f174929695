-- A file and what is said of it tell one another.
-- Serves: the laws of state_spec.
use Rattle.std.proofs.Common.{◌≡◌, ◌⊎◌, inl, inr, ⊎_elim, ℕ, zero, suc, ◌≤◌, Bool, true, false, refl, arith}
use Rattle.std.proofs.Common.{eqb}
use Rattle.std.specs.Prelude.{◌||◌, IsTrue}
use Rattle.std.proofs.lemmas.Bool.{eqb-true}
use Rattle.xdr.specs.Item.{Value, Fits}
use Rattle.nfs_laws.specs.fs_spec.Files.{Body, Regular, Symlink, Directory, File}
use Rattle.server_spec.specs.FileItems.{file_item, file_value, is_file_kind, kind_item, kind_value}
use Rattle.server_spec.specs.FileItems.{attributes_value}
use Rattle.server_spec.specs.FileValues.{time_from, body_from, file_from, numbered_from}

body_back : (f : File) (b : Body) → body_from (kind_value f b).0 (kind_value f b).1.1 ≡ b
unfolding body_from
body_back f (Regular bytes) = refl
body_back f (Symlink target) = refl
body_back f (Directory l) = refl

attributes_back : (f : File) (b : Body) → (kind_value f b).1.0 ≡ attributes_value f
attributes_back f (Regular bytes) = refl
attributes_back f (Symlink target) = refl
attributes_back f (Directory l) = refl

-- a file comes back from what is said of it
pub file_back : (e : ℕ × File) → numbered_from (file_value e) ≡ e
unfolding numbered_from file_from time_from
file_back e = λ i. (e.0, file_from (attributes_back e.1 e.1.body i) (body_back e.1 e.1.body i))

-- one of two tests passes
pub either : (a b : Bool) → IsTrue (a || b) → IsTrue a ⊎ IsTrue b
either true b h = inl refl
either false b h = inr h

-- no other number is a file's kind
other_kind : (n : ℕ) → 6 ≤ n → IsTrue (is_file_kind n) → ⊥
other_kind n le h = ⊎_elim
    (λ one. omega (arith, eqb-true n 1 one))
    (λ rest. ⊎_elim (λ two. omega (arith, eqb-true n 2 two)) (λ five. omega (arith, eqb-true n 5 five))
    (either (eqb n 2) (eqb n 5) rest))
    (either (eqb n 1) (eqb n 2 || eqb n 5) h)

-- a file says what it was made of
kind_forth : (number kind : ℕ) (b : Value (kind_item kind)) → IsTrue (is_file_kind kind)
    → file_value (numbered_from (number, (kind, b))) ≡ (number, (kind, b))
unfolding numbered_from file_from body_from time_from
kind_forth number zero b h = absurd (cc)
kind_forth number (suc zero) b h = refl
kind_forth number (suc (suc zero)) b h = refl
kind_forth number (suc (suc (suc zero))) b h = absurd (cc)
kind_forth number (suc (suc (suc (suc zero)))) b h = absurd (cc)
kind_forth number (suc (suc (suc (suc (suc zero))))) b h = refl
kind_forth number (suc (suc (suc (suc (suc (suc n)))))) b h =
    absurd (other_kind (suc (suc (suc (suc (suc (suc n)))))) (omega arith) h)

-- a value that has a spelling is what the file that it gives says
pub file_forth : (v : Value file_item) → Fits file_item v → file_value (numbered_from v) ≡ v
file_forth v h = kind_forth v.0 v.1.0 v.1.1 h.1.1
