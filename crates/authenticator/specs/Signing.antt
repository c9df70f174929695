-- Signatures as tests that compute, so that what stands on them is a function of roster and values.
use Rattle.std.specs.Prelude.{ℕ, Bool, false, ◌&&◌, ◌==◌, ◌^◌, nat_lt, nat_le, nat_eq, List, length, Option}
use Rattle.std.specs.Prelude.{Some, None}
use Rattle.std.specs.Cmp.Lexicographic.{pointwise}
use Rattle.merkle_keys.specs.lamport.Lamport.{leaf_hash, shown_hash}
use Rattle.merkle_keys.specs.Tree.{path_end}
use Rattle.merkle_keys.specs.Signing.{SignatureParts}
use Rattle.merkle_keys.specs.declared.signature.TheConstants.{MAX_HEIGHT}
use Rattle.authenticator.specs.Roster.{member_of}
use Rattle.authenticator.specs.Signed.{signed_digest}
use Rattle.authenticator.specs.declared.member.Member.{Member}
use Rattle.authenticator.specs.declared.authenticator.Authenticator.{Authenticator}

-- whether two texts are the same
abbrev pub is_same : List ℕ → List ℕ → Bool
is_same a b = pointwise nat_eq a b

-- the hash of the leaf that a signature of a digest shows
abbrev pub shown_leaf : (digest : List ℕ) → SignatureParts → List ℕ
shown_leaf digest signature = leaf_hash (shown_hash digest signature.shown signature.other)

-- Whether a signature of a digest is one under a root of a height: its leaf and its path are of a tree of
-- that height, and the path leads from the leaf that it shows to the root.
unfoldable pub is_signed : (root : List ℕ) (height : ℕ) (digest : List ℕ) → SignatureParts → Bool
is_signed root height digest signature =
    nat_le height MAX_HEIGHT && (nat_lt signature.leaf (2 ^ height) && ((length signature.path == height)
    && is_same (path_end signature.leaf (shown_leaf digest signature) signature.path) root))

-- whether an authenticator is signed by a member; by none it isn't
abbrev pub is_signed_by : Option Member → Authenticator → Bool
is_signed_by None a = false
is_signed_by (Some m) a = is_signed m.root m.height (signed_digest a.node a.word a.hash) a.signature

-- whether an authenticator is signed by the member of a roster that it names
abbrev pub is_signed_in : List Member → Authenticator → Bool
is_signed_in ms a = is_signed_by (member_of ms a.node) a
