-- The name of the caller's machine says nothing.
-- Serves: calls_are_determined.
use Rattle.std.proofs.Common.{◌≡◌, ℕ, List, Option, refl, ◌∙◌}
use Rattle.nfs_spec.specs.nfs_items.Timeval.{Timeval}
use Rattle.nfs_spec.specs.nfs_items.Caller.{Caller}
use Rattle.nfs_spec.specs.fs_spec.Files.{Files}
use Rattle.nfs_spec.specs.nfs_types.Calls as calls
use Rattle.nfs_spec.specs.nfs_types.Calls.{Call}
use Rattle.nfs_spec.specs.NfsCalls.{call_does}

any_machine : (w : Files) (uid gid : ℕ) (gids : List ℕ) (a b : Option (List ℕ)) (now : Timeval) (call : Call)
    → call_does w (record { uid = uid; gid = gid; gids = gids; machine_name = a }) now call
    ≡ call_does w (record { uid = uid; gid = gid; gids = gids; machine_name = b }) now call
any_machine w uid gid gids a b now calls.Null = refl
any_machine w uid gid gids a b now (calls.Getattr file) = refl
any_machine w uid gid gids a b now (calls.Setattr file s) = refl
any_machine w uid gid gids a b now calls.Root = refl
any_machine w uid gid gids a b now (calls.Lookup dir name) = refl
any_machine w uid gid gids a b now (calls.Readlink file) = refl
any_machine w uid gid gids a b now (calls.Read file offset count) = refl
any_machine w uid gid gids a b now calls.Writecache = refl
any_machine w uid gid gids a b now (calls.Write file offset new) = refl
any_machine w uid gid gids a b now (calls.Create dir name s) = refl
any_machine w uid gid gids a b now (calls.Remove dir name) = refl
any_machine w uid gid gids a b now (calls.Rename from from_name to to_name) = refl
any_machine w uid gid gids a b now (calls.Link from dir name) = refl
any_machine w uid gid gids a b now (calls.Symlink dir name target s) = refl
any_machine w uid gid gids a b now (calls.Mkdir dir name s) = refl
any_machine w uid gid gids a b now (calls.Rmdir dir name) = refl
any_machine w uid gid gids a b now (calls.Readdir dir cookie count) = refl
any_machine w uid gid gids a b now (calls.Statfs file) = refl

-- a call's answer and files hang on the caller's user and groups alone
pub determined : (w : Files) (one other : Caller) (now : Timeval) (call : Call) → one.uid ≡ other.uid
    → one.gid ≡ other.gid → one.gids ≡ other.gids → call_does w one now call ≡ call_does w other now call
determined w one other now call u g s =
    (λ i. call_does w (record { uid = u i; gid = g i; gids = s i; machine_name = one.machine_name }) now call)
    ∙ any_machine w other.uid other.gid other.gids one.machine_name other.machine_name now call
