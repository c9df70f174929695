-- A call begins with its transaction id.
-- Serves: xid_owed.
use Rattle.std.proofs.Common.{◌≡◌, ◌<◌, ◌≤◌, ℕ, List, ◌==◌, length, Ok, Err, Option, Some, None, refl, ap}
use Rattle.std.proofs.Common.{arith, length-append}
use Rattle.std.proofs.lemmas.Bool.{false≢true}
use Rattle.std.specs.Prelude.{IsOk, MatchOption, take}
use Rattle.xdr.specs.Item.{number_spelling, spelling, word_where, word, pair}
use Rattle.xdr.proofs.Front.{length-number_spelling}
use Rattle.xdr.specs.Reading.{Read}
use Rattle.rpc.specs.Call.{Message, OtherVersion, Version2, call_header, call_start, header_value, message_at}
use Rattle.rpc.specs.Call.{message_text}
use Rattle.rpc.specs.CallValues.{GivesCall, IsCallIn}
use Rattle.rpc.specs.declared.call.Call.{Call}
use Rattle.rpc.specs.declared.call.CallFault.{CallFault}
use Rattle.remote.specs.Sent.{IsXidOwed}

-- a call's text has four bytes at least
text_long : (m : Message) → 4 ≤ length (message_text m)
text_long (OtherVersion xid version) =
    omega (
      arith,
      length-append (number_spelling 4 xid) (spelling (pair (word_where (λ n. n == 0)) word) (0, version)),
      length-number_spelling 4 xid,
    )
text_long (Version2 xid h) =
    omega (
      arith,
      length-append (spelling call_start (xid, (0, 2))) (spelling call_header (header_value h)),
      length-append (number_spelling 4 xid) (spelling (pair (word_where (λ n. n == 0)) word) (0, 2)),
      length-number_spelling 4 xid,
    )

-- so have the bytes that say it
long_enough : (bytes : List ℕ) (c : Call) → IsCallIn bytes c → 4 ≤ length bytes
long_enough bytes c x =
    let says = x.2 in
    omega (
      arith,
      ap length says.bytes_are,
      length-append (message_text x.0) x.1,
      text_long x.0,
    )

-- A reply is owed to what was read.
read_owed : (bytes : List ℕ) (c : Call) (m : Read Message) → GivesCall (Ok c) m → IsOk m
read_owed bytes c (Ok x) h = refl
read_owed bytes c (Err e) h = absurd h

-- None is owed to other bytes.
pub unread : (f : CallFault) (m : Read Message) → GivesCall (Err f) m → IsOk m → ⊥
unread f (Ok x) h ok = h
unread f (Err e) h ok = false≢true ok

-- The transaction id of what was read.
pub read_xid : (bytes : List ℕ) (c : Call) (o : Option (List ℕ)) → IsCallIn bytes c
    → GivesCall (Ok c) (message_at bytes)
    → MatchOption o (length bytes < 4) (λ four. four ≡ take 4 bytes)
    → IsXidOwed bytes o
read_xid bytes c None call gives short = absurd (omega (arith, short, long_enough bytes c call))
read_xid bytes c (Some four) call gives is = (read_owed bytes c (message_at bytes) gives, is)
