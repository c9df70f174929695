use Rattle.std.proofs.Common.{◌≡◌, ℕ, ◌+◌, ◌≤◌, true, false, [], Option, Some, refl, sym, ap, subst, ◌∙◌}
use Rattle.std.proofs.Common.{arith}
use Rattle.std.specs.Prelude.{option_map, is_some}
use Rattle.std.specs.Option.{option_map_or}
use Rattle.nfs_spec.specs.nfs_items.declared.attributes.Fattr.{Fattr}
use Rattle.nfs_spec.specs.fs_spec.Files.{Body, Regular, Symlink, Directory, File, Files, file_at}
use Rattle.nfs_spec.specs.fs_spec.Files.{is_directory, IsDirectory, listing_in, names_of}
use Rattle.nfs_spec.proofs.fs_spec.Walks.{some_same}
use Rattle.nfs_spec.proofs.fs_spec.Counts.{has_two}
use Rattle.nfs_spec.specs.FileAttributes.{nlink_of, subdirectories}
use Rattle.nfs_laws.specs.Steps.Read.{AttributesOk}
use Rattle.nfs_laws.proofs.OfSteps.Reading.{attributes_ok}
use Rattle.nfs_laws.proofs.laws.links_are_counted.Goals as goal

nlink : (w : Files) (n : ℕ) (a : Fattr) (o : AttributesOk w n a) → a.nlink ≡ nlink_of w n o.file.body
nlink w n a o = ap (λ (b : Fattr). b.nlink) o.answer

named_only : (w : Files) (n : ℕ) (b : Body) → is_directory b ≡ false → nlink_of w n b ≡ names_of w n
named_only w n (Regular bytes) e = refl
named_only w n (Symlink target) e = refl
named_only w n (Directory l) e = absurd cc

two_and : (w : Files) (n : ℕ) (b : Body) → is_directory b ≡ true
    → nlink_of w n b ≡ 2 + subdirectories w (listing_in b)
two_and w n (Regular bytes) e = absurd cc
two_and w n (Symlink target) e = absurd cc
two_and w n (Directory l) e = refl

pub returns-clause-names : goal.returns-clause-names
returns-clause-names c w n f a there kind e =
    let t = attributes_ok w n a e in
    let same : t.file ≡ f = some_same (sym t.there ∙ there) in
    nlink w n a t ∙ named_only w n t.file.body (ap (λ (g : File). is_directory g.body) same ∙ kind)

kind_of : (w : Files) (n : ℕ) (f : File) → file_at w n ≡ Some f → IsDirectory w n → is_directory f.body ≡ true
kind_of w n f there is = some_same (ap (option_map (λ (g : File). is_directory g.body)) (sym there) ∙ is)

pub returns-clause-directory : goal.returns-clause-directory
returns-clause-directory c w n a is e =
    let t = attributes_ok w n a e in
    nlink w n a t ∙ two_and w n t.file.body (kind_of w n t.file t.there is)
    ∙ ap (λ (o : Option File). 2 + subdirectories w
    (option_map_or (λ f. listing_in f.body) o (record { next = 0; entries = [] }))) (sym t.there)

-- one name at least, of what is no directory
least : (w : Files) (n k : ℕ) (b : Body) → k ≤ 2 → (is_directory b ≡ false → k ≤ names_of w n)
    → k ≤ nlink_of w n b
least w n k (Regular bytes) small h = h refl
least w n k (Symlink target) small h = h refl
least w n k (Directory l) small h = omega arith

true_not_false : true ≡ false → ⊥
true_not_false e = cc

root_kind : (w : Files) (n : ℕ) → n ≡ 1 → IsDirectory w 1 → IsDirectory w n
root_kind w n e is = subst (IsDirectory w) (sym e) is

pub returns-clause-some : goal.returns-clause-some
returns-clause-some c w n a tree e =
    let t = attributes_ok w n a e in
    let there : is_some (file_at w n) ≡ true = ap (λ (o : Option File). is_some o) t.there in
    let other : is_directory t.file.body ≡ false → n ≡ 1 → ⊥ =
    λ not is. true_not_false (sym (kind_of w n t.file t.there (root_kind w n is tree.tree.root)) ∙ not) in
    let more : 1 ≤ nlink_of w n t.file.body =
    least w n 1 t.file.body (omega arith) (λ not. tree.named n (other not) there) in
    omega (arith, more, nlink w n a t)

pub returns-clause-two : goal.returns-clause-two
returns-clause-two c w n dir other k b x y a p q differ e =
    let t = attributes_ok w n a e in
    let more : 2 ≤ nlink_of w n t.file.body =
    least w n 2 t.file.body (omega arith) (λ _. has_two w n dir other k b x y p q differ) in
    omega (arith, more, nlink w n a t)
