-- A digest that is kept for a file that is there is that of its text.
-- Serves: `digest_of`.
use Rattle.std.proofs.Common.{◌≡◌, ℕ, List, Some, sym, ap, ◌∙◌}
use Rattle.nfs_laws.specs.fs_spec.Files.{File, Files, file_at}
use Rattle.nfs_laws.proofs.fs_spec.Walks.{some_same}
use Rattle.file_tree.specs.KeptDigests.{IsDigestAt}
use Rattle.state_spec.specs.server_spec.FileItems.{file_digest}

-- a digest that is kept for a file is that of the file there
pub kept_is : (w : Files) (n : ℕ) (f : File) (digest : List ℕ) → file_at w n ≡ Some f → IsDigestAt w n digest
    → digest ≡ file_digest (n, f)
kept_is w n f digest there is = is.2 ∙ ap (λ (g : File). file_digest (n, g)) (some_same (sym is.1 ∙ there))
