-- What an outbox in memory says.
use Rattle.std.specs.Prelude.{◌<◌, ◌^◌, List, drop}
use Rattle.std.specs.VecDeque.{deque_len, deque_capacity}
use Rattle.authenticator.specs.declared.authenticator.Authenticator.{Authenticator}
use Rattle.node_book.specs.Shares.{all_items}
use Rattle.node_book.specs.declared.outbox.Outbox.{Outbox}

-- what is to be forwarded, the oldest first
abbrev pub outbox_in : Outbox → List Authenticator
outbox_in o = drop o.taken (all_items o.shares.items)

-- There is room for one share more: memory for it, and the count of all that wait fits a word after it, too.
pub record HasPlace (o : Outbox) : Type 0 where
  pub place : deque_len o.shares < deque_capacity o.shares
  pub few : o.waiting < 2 ^ 63
