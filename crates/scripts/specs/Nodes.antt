-- The nodes of a script, and what is done to one of them.
use Rattle.std.specs.Prelude.{◌≡◌, ◌≢◌, ◌⊎◌, ℕ, All, List, Result, Ok, Err, Some, codes, slice_get, slice_set}
use Rattle.commitment.specs.RefusalNumbers.{refusal_number}
use Rattle.commitment.specs.declared.refusal.Refusal.{Refusal}
use Rattle.node_logs.specs.Gaps.{Checks, SkipsNumbers}
use Rattle.node_logs.specs.Nodes.{NodeParts}
use Rattle.node_logs.specs.Straying.{with_lie}
use Rattle.scripts.specs.Turns.{marked_line, refused_line}
use Rattle.scripts.specs.declared.parties.Parties.{Parties}

-- One of some nodes is this one.
pub record IsOneOf (nodes : List NodeParts) (node : NodeParts) : Type 0 where
  pub place : ℕ
  pub there : slice_get nodes place ≡ Some node

-- The node of a script with a number, a client or a server, is this one.
pub record IsNodeOf (parties : Parties) (number : ℕ) (node : NodeParts) : Type 0 where
  pub is_number : node.node ≡ number
  pub there : IsOneOf parties.clients.items node ⊎ IsOneOf parties.servers.items node

-- One of some nodes, with a number, became another one in this way. No other node changed.
pub record OneBecomes (so : NodeParts → NodeParts → Type 0) (old : List NodeParts) (number : ℕ)
    (new : List NodeParts) : Type 0 where
  pub place : ℕ
  pub node : NodeParts
  pub after : NodeParts
  pub there : slice_get old place ≡ Some node
  pub is_number : node.node ≡ number
  pub is_so : so node after
  pub others : new ≡ slice_set old place after

-- A client of a script, with a number, became another one in this way, and no other node changed.
pub record ClientBecomes (so : NodeParts → NodeParts → Type 0) (old : Parties) (number : ℕ) (new : Parties)
    : Type 0 where
  pub clients : OneBecomes so old.clients.items number new.clients.items
  pub servers : new.servers ≡ old.servers

-- The same of a server.
pub record ServerBecomes (so : NodeParts → NodeParts → Type 0) (old : Parties) (number : ℕ) (new : Parties)
    : Type 0 where
  pub clients : new.clients ≡ old.clients
  pub servers : OneBecomes so old.servers.items number new.servers.items

-- No node of these has this number.
abbrev pub HasNone : List NodeParts → (number : ℕ) → Type 0
HasNone nodes number = All (λ n. n.node ≢ number) nodes

-- A node of a script was let skip so many numbers, and answered this.
abbrev pub LetsSkip : Parties → (number by : ℕ) → Result (Unit {0}) Refusal → Parties → Type 0
LetsSkip old number by answer new =
    ClientBecomes (λ n m. SkipsNumbers n by answer m) old number new
    ⊎ ServerBecomes (λ n m. SkipsNumbers n by answer m) old number new

-- A server of a script was told to log a CHECK, and answered this.
abbrev pub LogsCheck : Parties → (number : ℕ) → Result ℕ Refusal → Parties → Type 0
LogsCheck old number answer new = ServerBecomes (λ n m. Checks n answer m) old number new

-- A server of a script was told to lie.
abbrev pub IsToLie : Parties → (number : ℕ) → Parties → Type 0
IsToLie old number new = ServerBecomes (λ n m. m ≡ with_lie n) old number new

-- ---- what is printed of it

-- A text is the line of a node's refusal.
pub record IsRefusalOf (refusal : Refusal) (text : List ℕ) : Type 0 where
  pub number : ℕ
  pub is_number : refusal_number refusal ≡ Some number
  pub text_is : text ≡ refused_line number

-- A text says that a CHECK has this number, or why it was refused.
abbrev pub IsMarkLine : Result ℕ Refusal → List ℕ → Type 0
IsMarkLine (Ok number) text = text ≡ marked_line number
IsMarkLine (Err refusal) text = IsRefusalOf refusal text

-- A server was told to log a CHECK, and its answer is printed.
pub record SaysCheck (old : Parties) (number : ℕ) (text : List ℕ) (new : Parties) : Type 0 where
  pub answer : Result ℕ Refusal
  pub logs : LogsCheck old number answer new
  pub says : IsMarkLine answer text

-- A text says that a node will skip numbers, or why it refused to.
abbrev pub IsSkipLine : Result (Unit {0}) Refusal → List ℕ → Type 0
IsSkipLine (Ok u) text = text ≡ codes "ok\n"
IsSkipLine (Err refusal) text = IsRefusalOf refusal text

-- A node was let skip so many numbers, and its answer is printed.
pub record SaysSkip (old : Parties) (number by : ℕ) (text : List ℕ) (new : Parties) : Type 0 where
  pub answer : Result (Unit {0}) Refusal
  pub lets : LetsSkip old number by answer new
  pub says : IsSkipLine answer text
