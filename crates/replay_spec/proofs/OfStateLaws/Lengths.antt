-- How long the text under a state's digest is at most, after its node's kind, and how long it is at least by
-- its messages.
-- Serves: digests_tell_states.
use Rattle.std.proofs.Common.{ℕ, ◌≤◌, Bool, true, false, cond, List, ◌++◌, length, arith, length-append}
use Rattle.std.specs.Prelude.{◌==◌}
use Rattle.std.specs.List.{flat_map}
use Rattle.nfs_items.specs.Timeval.{timeval}
use Rattle.nfs_items.specs.xdr.Item.{Item, Value, word, hyper, fixed, opaque, empty, pair, array}
use Rattle.nfs_items.specs.xdr.Item.{spelling, number_spelling}
use Rattle.nfs_items.proofs.xdr.Front.{length-number_spelling}
use Rattle.state_spec.specs.Limits.{max_received, max_body}
use Rattle.state_spec.specs.StateItems.{received_item, sent_item, stage_item, mount_item, rest_item}
use Rattle.replay_spec.proofs.OfStateLaws.Bounded.{IsShort, short_word, short_hyper, short_fixed}
use Rattle.replay_spec.proofs.OfStateLaws.Bounded.{short_opaque, short_pair, short_array, counted}

-- what stands after a node's kind in a text under a digest, by the greatest counts of messages
abbrev pub counted_item : (count kind : ℕ) → Item
counted_item count kind =
    pair timeval
    (pair (array count received_item) (pair (array count sent_item) (rest_item (fixed 32) kind)))

-- ---- at most

short_time : IsShort timeval 8
short_time = short_pair word word 4 4 short_word short_word

short_received : IsShort received_item 47
short_received =
    short_pair word (pair hyper (fixed 32)) 4 43 short_word
    (short_pair hyper (fixed 32) 8 35 short_hyper (short_fixed 32))

short_sent : IsShort sent_item 82
short_sent =
    short_pair hyper (pair word (pair (fixed 32) (fixed 32))) 8 74 short_hyper
    (short_pair word (pair (fixed 32) (fixed 32)) 4 70 short_word
    (short_pair (fixed 32) (fixed 32) 35 35 (short_fixed 32) (short_fixed 32)))

short_body : (b : Bool) → IsShort (cond b empty (pair word (opaque max_body))) 12299
short_body true v h = omega arith
short_body false v h = short_pair word (opaque max_body) 4 12295 short_word (short_opaque max_body) v h

short_stage : IsShort stage_item 12303
short_stage v h =
    omega (
      arith,
      length-append (number_spelling 4 v.0)
          (spelling (cond (v.0 == 0) empty (pair word (opaque max_body))) v.1),
      length-number_spelling 4 v.0,
      short_body (v.0 == 0) v.1 h.2,
    )

short_mount : IsShort mount_item 1293
short_mount = short_pair (opaque 255) (opaque 1024) 262 1031 (short_opaque 255) (short_opaque 1024)

short_served : IsShort (rest_item (fixed 32) 1) 350755
short_served =
    short_pair stage_item (pair word (pair (array 40 mount_item) (array 8192 (fixed 32)))) 12303 338452
    short_stage
    (short_pair word (pair (array 40 mount_item) (array 8192 (fixed 32))) 4 338448 short_word
    (short_pair (array 40 mount_item) (array 8192 (fixed 32)) 51724 286724
    (short_array 40 mount_item 1293 short_mount) (short_array 8192 (fixed 32) 35 (short_fixed 32))))

-- a server's
pub short_server : IsShort (counted_item max_received 1) 17259059
short_server =
    short_pair timeval
    (pair (array max_received received_item) (pair (array max_received sent_item) (rest_item (fixed 32) 1)))
    8 17259051
    short_time
    (short_pair (array max_received received_item)
    (pair (array max_received sent_item) (rest_item (fixed 32) 1))
    6160388 11098663 (short_array max_received received_item 47 short_received)
    (short_pair (array max_received sent_item) (rest_item (fixed 32) 1) 10747908 350755
    (short_array max_received sent_item 82 short_sent) short_served))

-- a client's
pub short_client : IsShort (counted_item max_received 2) 17259059
short_client v fits =
    omega (
      arith,
      length-append (spelling timeval v.0)
          (spelling (pair (array max_received received_item) (pair (array max_received sent_item) word)) v.1),
      short_time v.0 fits.0,
      length-append (spelling (array max_received received_item) v.1.0)
          (spelling (pair (array max_received sent_item) word) v.1.1),
      short_array max_received received_item 47 short_received v.1.0 fits.1.0,
      length-append (spelling (array max_received sent_item) v.1.1.0) (number_spelling 4 v.1.1.1),
      short_array max_received sent_item 82 short_sent v.1.1.0 fits.1.1.0,
      length-number_spelling 4 v.1.1.1,
    )

-- ---- at least

some_received : (v : Value received_item) → 1 ≤ length (spelling received_item v)
some_received v =
    omega (
      arith,
      length-append (number_spelling 4 v.0) (spelling (pair hyper (fixed 32)) v.1),
      length-number_spelling 4 v.0,
    )

some_sent : (v : Value sent_item) → 1 ≤ length (spelling sent_item v)
some_sent v =
    omega (
      arith,
      length-append (number_spelling 8 v.0)
          (spelling (pair word (pair (fixed 32) (fixed 32))) v.1),
      length-number_spelling 8 v.0,
    )

-- such a text is as long as there are messages
module _ (clock : Value timeval) (received : List (Value received_item)) (sends : List (Value sent_item))
    (rest : List ℕ) where
  abbrev received_text : List ℕ
  received_text = number_spelling 4 (length received) ++ flat_map (spelling received_item) received

  abbrev sends_text : List ℕ
  sends_text = number_spelling 4 (length sends) ++ flat_map (spelling sent_item) sends

  -- such a text: the clock, the messages received, those sent, and what comes after them
  abbrev pub front_text : List ℕ
  front_text = spelling timeval clock ++ (received_text ++ (sends_text ++ rest))

  -- it has at least a byte for each message received
  pub few_received : length received ≤ length front_text
  few_received =
      omega (
        arith,
        counted received_item some_received received,
        length-append (spelling timeval clock) (received_text ++ (sends_text ++ rest)),
        length-append received_text (sends_text ++ rest),
        length-append (number_spelling 4 (length received)) (flat_map (spelling received_item) received),
      )

  -- and for each message sent
  pub few_sends : length sends ≤ length front_text
  few_sends =
      omega (
        arith,
        counted sent_item some_sent sends,
        length-append (spelling timeval clock) (received_text ++ (sends_text ++ rest)),
        length-append received_text (sends_text ++ rest),
        length-append sends_text rest,
        length-append (number_spelling 4 (length sends)) (flat_map (spelling sent_item) sends),
      )
