-- States in texts (RFC 4506), in which each file stands as an item of some kind.
use Rattle.std.specs.Prelude.{ℕ, Bool, ◌==◌, ◌||◌, nat_lt, map, if◌then◌else◌}
use Rattle.std.specs.FinMap as finite
use Rattle.xdr.specs.Item.{Item, Value, word, hyper, fixed, opaque, empty, pair, array, choice, word_where}
use Rattle.nfs_items.specs.Timeval.{timeval, timeval_value}
use Rattle.fs_spec.specs.Maxima.{max_files}
use Rattle.fs_spec.specs.Files.{File}
use Rattle.server_spec.specs.World.{World}
use Rattle.server_spec.specs.mount_types.declared.limits.TheConstants.{MNTNAMLEN, MNTPATHLEN}
use Rattle.server_spec.specs.mount_types.Mounts.{max_mounts}
use Rattle.state_spec.specs.Limits.{max_received, max_sends, max_body}
use Rattle.state_spec.specs.State.{ReceivedMessage, SentMessage, Stage, Idle, Heard, Owes, Machine, Server}
use Rattle.state_spec.specs.State.{Client, State}

-- a message that was received: sender, number and hash
abbrev pub received_item : Item
received_item = pair word (pair hyper (fixed 32))

-- a message that was sent: number, receiver, the hash before it, and its body's digest
abbrev pub sent_item : Item
sent_item = pair hyper (pair word (pair (fixed 32) (fixed 32)))

-- 0 is idle, 1 heard, 2 owes
abbrev pub is_stage : ℕ → Bool
is_stage n = nat_lt n 3

-- nothing; or the other node, and a body
abbrev pub stage_body : ℕ → Item
stage_body stage = if stage == 0 then empty else pair word (opaque max_body)

-- a stage: its number, and what stands after that
abbrev pub stage_item : Item
stage_item = choice is_stage stage_body

-- a mount: host name and directory
abbrev pub mount_item : Item
mount_item = pair (opaque MNTNAMLEN) (opaque MNTPATHLEN)

-- a server is 1, a client 2
abbrev pub is_node_kind : ℕ → Bool
is_node_kind n = n == 1 || n == 2

-- a server's stage, next number, mounts and files; a client's stage, which is 0
abbrev pub rest_item : Item → ℕ → Item
rest_item file kind =
    if kind == 1 then pair stage_item (pair word (pair (array max_mounts mount_item) (array max_files file)))
    else word_where (λ stage. stage == 0)

-- the clock, what was received, what was sent, and what stands after that for a node's kind
abbrev pub machine_item : Item → ℕ → Item
machine_item file kind =
    pair timeval
    (pair (array max_received received_item) (pair (array max_sends sent_item) (rest_item file kind)))

-- version 1, the node, its kind, and what stands after that
abbrev pub state_item : Item → Item
state_item file =
    pair (word_where (λ version. version == 1)) (pair word (choice is_node_kind (machine_item file)))

-- what is said of a message that was received
abbrev pub received_value : ReceivedMessage → Value received_item
received_value r = (r.from, (r.seq, r.hash))

-- what is said of a message and its number
abbrev pub sent_value : ℕ × SentMessage → Value sent_item
sent_value e = (e.0, (e.1.to, (e.1.prev, e.1.body_hash)))

-- what is said of a stage
abbrev pub stage_value : Stage → Value stage_item
stage_value Idle = (0, tt)
stage_value (Heard from body) = (1, (from, body))
stage_value (Owes to body) = (2, (to, body))

-- what is said of a state, and by `value` of each file
module _ (file : Item) (value : ℕ × File → Value file) where
  -- of a world and a stage, but for the clock
  abbrev pub world_value : World → Stage → Value (rest_item file 1)
  world_value w stage =
      (stage_value stage, (w.files.next, (w.mounts, map value (finite.entries w.files.files))))

  -- of a state and its machine, but for the node
  abbrev pub machine_value : State → Machine → Value (choice is_node_kind (machine_item file))
  machine_value s (Server w stage) = (
    1,
    (
      timeval_value w.clock,
      (
        map received_value (finite.keys s.received),
        (map sent_value (finite.entries s.sends), world_value w stage),
      ),
    ),
  )
  machine_value s (Client clock) = (
    2,
    (
      timeval_value clock,
      (
        map received_value (finite.keys s.received),
        (map sent_value (finite.entries s.sends), 0),
      ),
    ),
  )

  -- of a state as a whole
  abbrev pub state_value : State → Value (state_item file)
  state_value s = (1, (s.node, machine_value s s.machine))
