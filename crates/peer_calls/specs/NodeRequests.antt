-- What is asked of a node.
use Rattle.std.specs.Prelude.{ℕ, ◌==◌, List, [], ◌++◌, Result, Err, Option, option_and_then, option_map}
use Rattle.std.specs.Prelude.{if◌then◌else◌}
use Rattle.xdr.specs.Item.{Fits, Value, hyper, number_spelling, spelling}
use Rattle.xdr.specs.Texts.Text.{text_at}
use Rattle.authenticator.specs.Signed.{authenticator_item, authenticator_text, authenticator_value}
use Rattle.rpc.specs.declared.reply.ReplyBody.{ReplyBody}
use Rattle.rpc.specs.declared.reply.ReplyBody.TheVariants.{ProcedureUnavailable}
use Rattle.peer_calls.specs.declared.call.TheConstants.{NODE_PROGRAM}
use Rattle.peer_calls.specs.declared.node.NodeRequest.{NodeRequest}
use Rattle.peer_calls.specs.declared.node.NodeRequest.TheVariants as code
use Rattle.peer_calls.specs.Arguments.{after_word, base_after_item, base_after_text, greeting_item, greeting_text}
use Rattle.peer_calls.specs.Arguments.{hyper_text, nothing_in, numbers_item, numbers_text, or_garbage}
use Rattle.peer_calls.specs.Calls.{call_text}

-- Nothing; whether it goes by this roster; to receive an envelope; to take an acknowledgement; its last
-- authenticator after a number; a segment of its log; whether an authenticator's pair stands in its log; the base of
-- a node at its last CHECK above a number.
pub data NodeAsk : Type 0 where
  Null : NodeAsk
  Greet : (digest : List ℕ) → (node : ℕ) → NodeAsk
  Deliver : (text : List ℕ) → NodeAsk
  Acknowledge : (text : List ℕ) → NodeAsk
  Signed : (after : ℕ) → NodeAsk
  Segment : (first : ℕ) → (last : ℕ) → NodeAsk
  Stands : (authenticator : Value authenticator_item) → NodeAsk
  Base : (node : ℕ) → (after : ℕ) → NodeAsk

-- the number of its procedure
abbrev pub node_procedure : NodeAsk → ℕ
node_procedure Null = 0
node_procedure (Greet digest n) = 1
node_procedure (Deliver text) = 2
node_procedure (Acknowledge text) = 3
node_procedure (Signed after) = 4
node_procedure (Segment first last) = 5
node_procedure (Stands a) = 6
node_procedure (Base n after) = 7

-- the one text of its arguments
abbrev pub node_arguments : NodeAsk → List ℕ
node_arguments Null = []
node_arguments (Greet digest n) = spelling greeting_item (digest, n)
node_arguments (Deliver text) = number_spelling 4 2 ++ text
node_arguments (Acknowledge text) = number_spelling 4 4 ++ text
node_arguments (Signed after) = spelling hyper after
node_arguments (Segment first last) = spelling numbers_item (first, last)
node_arguments (Stands a) = number_spelling 4 1 ++ spelling authenticator_item a
node_arguments (Base n after) = spelling base_after_item (n, after)

-- what has such a text
abbrev pub IsNodeAsk : NodeAsk → Type 0
IsNodeAsk Null = Unit {0}
IsNodeAsk (Greet digest n) = Fits greeting_item (digest, n)
IsNodeAsk (Deliver text) = Unit {0}
IsNodeAsk (Acknowledge text) = Unit {0}
IsNodeAsk (Signed after) = Fits hyper after
IsNodeAsk (Segment first last) = Fits numbers_item (first, last)
IsNodeAsk (Stands a) = Fits authenticator_item a
IsNodeAsk (Base n after) = Fits base_after_item (n, after)

-- the call that asks it
abbrev pub node_call : (xid : ℕ) → NodeAsk → List ℕ
node_call xid a = call_text xid NODE_PROGRAM (node_procedure a) ++ node_arguments a

-- the authenticator of a packet with one
abbrev pub shown_at : List ℕ → Option (Value authenticator_item)
shown_at bytes = option_and_then (text_at authenticator_text) (after_word 1 bytes)

-- what the arguments of a procedure ask, or the refusal
abbrev pub node_ask_at : (procedure : ℕ) → List ℕ → Result NodeAsk ReplyBody
node_ask_at procedure bytes =
    if procedure == 0 then or_garbage (option_map (λ _. Null) (nothing_in bytes))
    else if procedure == 1
    then or_garbage (option_map (λ v. Greet v.0 v.1) (text_at greeting_text bytes))
    else if procedure == 2 then or_garbage (option_map Deliver (after_word 2 bytes))
    else if procedure == 3 then or_garbage (option_map Acknowledge (after_word 4 bytes))
    else if procedure == 4 then or_garbage (option_map Signed (text_at hyper_text bytes))
    else if procedure == 5
    then or_garbage (option_map (λ v. Segment v.0 v.1) (text_at numbers_text bytes))
    else if procedure == 6 then or_garbage (option_map Stands (shown_at bytes))
    else if procedure == 7
    then or_garbage (option_map (λ v. Base v.0 v.1) (text_at base_after_text bytes))
    else Err ProcedureUnavailable

-- what the program's value asks
abbrev pub node_ask : NodeRequest → NodeAsk
node_ask code.Null = Null
node_ask (code.Greet g) = Greet g.digest g.node
node_ask (code.Deliver text) = Deliver text.now
node_ask (code.Acknowledge text) = Acknowledge text.now
node_ask (code.Signed a) = Signed a.number
node_ask (code.Segment n) = Segment n.first n.last
node_ask (code.Stands a) = Stands (authenticator_value a)
node_ask (code.Base b) = Base b.node b.after
