-- What is begun with a secret, and the lines that say so.
use Rattle.std.specs.Prelude.{◌≡◌, ◌==◌, ◌&&◌, ◌||◌, ◌-◌, ◌^◌, ◌++◌, ℕ, Bool, false, not, nat_lt, List, []}
use Rattle.std.specs.Prelude.{◌∷◌, codes}
use Rattle.std.specs.Prelude.{decimal}
use Rattle.std.specs.Str.{bytes_eq}
use Rattle.authenticator.specs.declared.member.TheConstants.{MAX_NODE}
use Rattle.hex.specs.Hex.{encode_lower}
use Rattle.host_keys.specs.Lines.{IsDigest, IsWithin, line_of}
use Rattle.host_keys.specs.declared.begun.Begun.{Begun}
use Rattle.host_keys.specs.declared.begun.Begun.TheVariants.{Node, Run}

-- a digest of SHA-256, as commands print it
abbrev pub digest_word : List ℕ → List ℕ
digest_word digest = codes "sha256:" ++ encode_lower digest

-- the words after `epoch`: the number of the epoch, that of the node, and the digest of the roster
abbrev pub begun_node_words : ℕ × ℕ × List ℕ → List (List ℕ)
begun_node_words p = decimal p.0 ∷ codes "node" ∷ decimal p.1 ∷ codes "roster" ∷ digest_word p.2 ∷ []

-- the words that say what was begun
abbrev pub begun_words : Begun → List (List ℕ)
begun_words (Node epoch node roster) = codes "epoch" ∷ begun_node_words (epoch, node, roster)
begun_words (Run run) = codes "run" ∷ decimal run ∷ []

-- the line
abbrev pub begun_text : Begun → List ℕ
begun_text b = line_of (begun_words b)

-- epochs and runs are numbered from 1 on, nodes as in rosters
abbrev pub IsBegunNode : ℕ × ℕ × List ℕ → Type 0
IsBegunNode p = IsWithin 1 (2 ^ 32 - 1) p.0 × IsWithin 1 MAX_NODE p.1 × IsDigest p.2

abbrev pub IsBegun : Begun → Type 0
IsBegun (Node epoch node roster) = IsBegunNode (epoch, node, roster)
IsBegun (Run run) = IsWithin 1 (2 ^ 32 - 1) run

-- ---- which keys are used

-- the number of the epoch or of the run
abbrev pub number_begun : Begun → ℕ
number_begun (Node epoch node roster) = epoch
number_begun (Run run) = run

-- it uses the keys of a node in an epoch: those of one node, or of all
abbrev pub UsesKeys : Begun → (node epoch : ℕ) → Type 0
UsesKeys (Node epoch' node' roster) node epoch = (node' ≡ node) × (epoch' ≡ epoch)
UsesKeys (Run run) node epoch = run ≡ epoch

-- two of them share no key
abbrev pub ShareNoKey : (a b : Begun) → Type 0
ShareNoKey a b = (node epoch : ℕ) → UsesKeys a node epoch → UsesKeys b node epoch → ⊥

-- two nodes of one epoch are different ones, under the same roster
abbrev pub is_beside : (a b : Begun) → Bool
is_beside (Node epoch node roster) (Node epoch' node' roster') =
    (epoch == epoch') && (not (node == node') && bytes_eq roster roster')
is_beside _ _ = false

-- One may be begun after another: its number is greater, or it is another node of the same epoch, under the
-- same
-- roster.
abbrev pub may_follow : (earlier later : Begun) → Bool
may_follow a b = nat_lt (number_begun a) (number_begun b) || is_beside a b
