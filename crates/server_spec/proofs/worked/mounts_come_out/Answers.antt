use Rattle.std.proofs.Common.{◌≡◌, ℕ, false, List, [], ◌∷◌, length, Option, Some, Err, option_and_then, refl}
use Rattle.std.proofs.Common.{ap, ◌∙◌, arith}
use Rattle.std.specs.Prelude.{nat_lt, codes, if◌then◌else◌}
use Rattle.std.specs.Option.{is_some}
use Rattle.std.proofs.lemmas.Bool.{le-ltb}
use Rattle.mount_types.specs.nfs_items.declared.stat.Stat.TheVariants.{Acces, NoEnt}
use Rattle.nfs_laws.specs.fs_spec.Listing.{DirectoryEntry, entry_at}
use Rattle.nfs_laws.specs.fs_spec.Files.{File, listing_in, directory_entries}
use Rattle.nfs_laws.specs.fs_spec.Paths.{walk}
use Rattle.nfs_laws.specs.nfs_spec.Opening.{opening_root, opening_hello, opening_files}
use Rattle.nfs_laws.proofs.nfs_spec.OpeningFiles.{root_there, hello_there}
use Rattle.mount_types.specs.Calls.{MountAnswer, Mounted}
use Rattle.mount_types.specs.Mounts.{Mounts, max_mounts}
use Rattle.server_spec.specs.MountCalls.{mount_at}
use Rattle.server_spec.specs.Machines.{m}
use Rattle.server_spec.proofs.worked.mounts_come_out.Goals as goal

-- what MNT answers by what it found
refused : Option DirectoryEntry → MountAnswer × Mounts
refused found = (Mounted (Err (if is_some found then Acces else NoEnt)), [])

-- a name in the root is looked up among its entries
one_name : (name : List ℕ) → mount_at (opening_files 1) [] m (Some (name ∷ []))
    ≡ refused (option_and_then (λ next. Some next) (entry_at (listing_in opening_root.body) name))
unfolding refused
one_name name =
    ap (λ (o : Option File). refused (option_and_then (λ next. Some next)
    (option_and_then (λ f. entry_at (listing_in f.body) name) o))) (root_there 1)

-- there is nothing below a file
through_hello : (name : List ℕ) → mount_at (opening_files 1) [] m (Some (codes "hello" ∷ name ∷ []))
    ≡ refused (option_and_then (λ next. Some next) (entry_at (listing_in opening_hello.body) name))
unfolding refused
through_hello name =
    ap (λ (o : Option File). refused
    (option_and_then (λ next. walk (directory_entries (opening_files 1)) next (name ∷ []))
    (option_and_then (λ f. entry_at (listing_in f.body) (codes "hello")) o))) (root_there 1)
    ∙ ap (λ (o : Option File). refused (option_and_then (λ next. Some next)
    (option_and_then (λ f. entry_at (listing_in f.body) name) o))) (hello_there 1)

pub returns-clause-first : goal.returns-clause-first
returns-clause-first c = refl

pub returns-clause-again : goal.returns-clause-again
returns-clause-again c = refl

pub returns-clause-last : goal.returns-clause-last
returns-clause-last c = refl

pub returns-clause-relative : goal.returns-clause-relative
returns-clause-relative c = refl

pub returns-clause-full : goal.returns-clause-full
returns-clause-full c mounts many new =
    let full : nat_lt (length mounts) max_mounts ≡ false = le-ltb _ _ (omega (arith, many)) in
    rw (new, full) refl

pub returns-clause-there : goal.returns-clause-there
unfolding refused
returns-clause-there c = one_name (codes "hello")

pub returns-clause-behind : goal.returns-clause-behind
unfolding refused
returns-clause-behind c = one_name (codes "hello")

pub returns-clause-absent : goal.returns-clause-absent
unfolding refused
returns-clause-absent c = one_name (codes "no")

pub returns-clause-dot : goal.returns-clause-dot
unfolding refused
returns-clause-dot c = one_name (codes ".")

pub returns-clause-through : goal.returns-clause-through
unfolding refused
returns-clause-through c = through_hello (codes "x")
