-- Calls of the programs of nodes and of witnesses, up to their arguments, and replies up to their results
-- (RFC 5531, section 9).
use Rattle.std.specs.Prelude.{ℕ, ◌==◌, List, [], Result, Ok, Err, Option, if◌then◌else◌}
use Rattle.xdr.specs.Item.{Item, Value, pair, word_where}
use Rattle.xdr.specs.Reading.{Read, read_at}
use Rattle.rpc.specs.Call.{Auth, CallHeader, Message, OtherVersion, Version2, message_text}
use Rattle.rpc.specs.Reply.{reply_text}
use Rattle.rpc.specs.declared.reply.AuthStat.TheVariants.{RejectedCredential}
use Rattle.rpc.specs.declared.reply.ReplyBody.{ReplyBody}
use Rattle.rpc.specs.declared.reply.ReplyBody.TheVariants as bodies
use Rattle.peer_calls.specs.Arguments.{rest_of}
use Rattle.peer_calls.specs.declared.call.Asked.{Asked}
use Rattle.peer_calls.specs.declared.call.Unasked.{Unasked}
use Rattle.peer_calls.specs.declared.call.Unasked.TheVariants.{NoCall, Refused}

-- ---- as they are written

-- AUTH_NONE, with no bytes (section 10.1)
abbrev pub no_auth : Auth
no_auth = record { flavor = 0; body = [] }

-- the header of a call of version 1 of a program
abbrev pub peer_header : (program procedure : ℕ) → CallHeader
peer_header program procedure = record {
  program = program;
  version = 1;
  procedure = procedure;
  credential = no_auth;
  verifier = no_auth;
}

-- a call before its arguments
abbrev pub call_text : (xid program procedure : ℕ) → List ℕ
call_text xid program procedure = message_text (Version2 xid (peer_header program procedure))

-- a reply before its results
abbrev pub success_text : (xid : ℕ) → List ℕ
success_text xid = reply_text (record { xid = xid; body = bodies.Success })

-- the item of its words: xid, REPLY, MSG_ACCEPTED, AUTH_NONE with no bytes, SUCCESS
abbrev pub success_item : (xid : ℕ) → Item
success_item xid =
    pair (word_where (λ n. n == xid))
    (pair (word_where (λ n. n == 1))
    (pair (word_where (λ n. n == 0))
    (pair (word_where (λ n. n == 0)) (pair (word_where (λ n. n == 0)) (word_where (λ n. n == 0))))))

-- and its one value
abbrev pub success_value : (xid : ℕ) → Value (success_item xid)
success_value xid = (xid, (1, (0, (0, (0, 0)))))

-- the results that follow them, where the bytes begin with them
abbrev pub results_at : (xid : ℕ) → List ℕ → Option (List ℕ)
results_at xid bytes = rest_of (read_at (success_item xid) bytes)

-- ---- as they are judged

-- what a call asks: its transaction id, its procedure, and its arguments with what follows them
pub record Call : Type 0 where
  pub xid : ℕ
  pub procedure : ℕ
  pub arguments : List ℕ

-- the refusal of a call
abbrev pub refused : (xid : ℕ) → ReplyBody → Result Call Unasked
refused xid body = Err (Refused (record { xid = xid; body = body }))

-- what a header with its arguments asks of a program: the flavor of its credential is to be AUTH_NONE, then its
-- program is to be that one, and then its version 1
abbrev pub judged_header : (program xid : ℕ) → CallHeader → (arguments : List ℕ) → Result Call Unasked
judged_header program xid h arguments =
    if h.credential.flavor == 0 then
    (if h.program == program then
    (if h.version == 1 then Ok (record { xid = xid; procedure = h.procedure; arguments = arguments })
    else refused xid (bodies.ProgramMismatch 1 1))
    else refused xid bodies.ProgramUnavailable)
    else refused xid (bodies.AuthError RejectedCredential)

-- what bytes ask of a program: those that are no call ask nothing, and get no reply; a call of another version of
-- RPC than 2 is refused by it
abbrev pub judged : (program : ℕ) → Read Message → Result Call Unasked
judged program (Err e) = Err NoCall
judged program (Ok (OtherVersion xid version, rest)) = refused xid (bodies.RpcMismatch 2 2)
judged program (Ok (Version2 xid h, rest)) = judged_header program xid h rest

-- what the program's value says
abbrev pub asked_of : Result Asked Unasked → Result Call Unasked
asked_of (Ok a) = Ok (record { xid = a.xid; procedure = a.procedure; arguments = a.arguments.now })
asked_of (Err e) = Err e
