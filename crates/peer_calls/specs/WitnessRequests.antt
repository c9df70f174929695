-- What is asked of a witness.
use Rattle.std.specs.Prelude.{ℕ, ◌==◌, List, [], ◌++◌, Result, Ok, Err, option_map, if◌then◌else◌}
use Rattle.xdr.specs.Item.{Fits, spelling, word}
use Rattle.xdr.specs.Texts.Text.{text_at}
use Rattle.rpc.specs.declared.reply.ReplyBody.{ReplyBody}
use Rattle.rpc.specs.declared.reply.ReplyBody.TheVariants.{ProcedureUnavailable}
use Rattle.peer_calls.specs.declared.call.TheConstants.{WITNESS_PROGRAM}
use Rattle.peer_calls.specs.declared.witness.WitnessRequest.{WitnessRequest}
use Rattle.peer_calls.specs.declared.witness.WitnessRequest.TheVariants as code
use Rattle.peer_calls.specs.Arguments.{base_after_item, base_after_text, greeting_item, greeting_text, node_text}
use Rattle.peer_calls.specs.Arguments.{nothing_in, or_garbage}
use Rattle.peer_calls.specs.Calls.{call_text}

-- Nothing; whether it goes by this roster; to take a packet; what it awaits of a node; what it says of a node;
-- the last authenticator of a node that it was shown; its evidence of a node; the base above a number by which its
-- own books of a node began.
pub data WitnessAsk : Type 0 where
  Null : WitnessAsk
  Greet : (digest : List ℕ) → (node : ℕ) → WitnessAsk
  Deliver : (packet : List ℕ) → WitnessAsk
  Wanted : (node : ℕ) → WitnessAsk
  Told : (node : ℕ) → WitnessAsk
  Shown : (node : ℕ) → WitnessAsk
  Case : (node : ℕ) → WitnessAsk
  Base : (node : ℕ) → (after : ℕ) → WitnessAsk

-- the number of its procedure
abbrev pub witness_procedure : WitnessAsk → ℕ
witness_procedure Null = 0
witness_procedure (Greet digest n) = 1
witness_procedure (Deliver packet) = 2
witness_procedure (Wanted n) = 3
witness_procedure (Told n) = 4
witness_procedure (Shown n) = 5
witness_procedure (Case n) = 6
witness_procedure (Base n after) = 7

-- the one text of its arguments
abbrev pub witness_arguments : WitnessAsk → List ℕ
witness_arguments Null = []
witness_arguments (Greet digest n) = spelling greeting_item (digest, n)
witness_arguments (Deliver packet) = packet
witness_arguments (Wanted n) = spelling word n
witness_arguments (Told n) = spelling word n
witness_arguments (Shown n) = spelling word n
witness_arguments (Case n) = spelling word n
witness_arguments (Base n after) = spelling base_after_item (n, after)

-- what has such a text
abbrev pub IsWitnessAsk : WitnessAsk → Type 0
IsWitnessAsk Null = Unit {0}
IsWitnessAsk (Greet digest n) = Fits greeting_item (digest, n)
IsWitnessAsk (Deliver packet) = Unit {0}
IsWitnessAsk (Wanted n) = Fits word n
IsWitnessAsk (Told n) = Fits word n
IsWitnessAsk (Shown n) = Fits word n
IsWitnessAsk (Case n) = Fits word n
IsWitnessAsk (Base n after) = Fits base_after_item (n, after)

-- the call that asks it
abbrev pub witness_call : (xid : ℕ) → WitnessAsk → List ℕ
witness_call xid a = call_text xid WITNESS_PROGRAM (witness_procedure a) ++ witness_arguments a

-- what the arguments of a procedure ask, or the refusal
abbrev pub witness_ask_at : (procedure : ℕ) → List ℕ → Result WitnessAsk ReplyBody
witness_ask_at procedure bytes =
    if procedure == 0 then or_garbage (option_map (λ _. Null) (nothing_in bytes))
    else if procedure == 1
    then or_garbage (option_map (λ v. Greet v.0 v.1) (text_at greeting_text bytes))
    else if procedure == 2 then Ok (Deliver bytes)
    else if procedure == 3 then or_garbage (option_map Wanted (text_at node_text bytes))
    else if procedure == 4 then or_garbage (option_map Told (text_at node_text bytes))
    else if procedure == 5 then or_garbage (option_map Shown (text_at node_text bytes))
    else if procedure == 6 then or_garbage (option_map Case (text_at node_text bytes))
    else if procedure == 7
    then or_garbage (option_map (λ v. Base v.0 v.1) (text_at base_after_text bytes))
    else Err ProcedureUnavailable

-- what the program's value asks
abbrev pub witness_ask : WitnessRequest → WitnessAsk
witness_ask code.Null = Null
witness_ask (code.Greet g) = Greet g.digest g.node
witness_ask (code.Deliver packet) = Deliver packet.now
witness_ask (code.Wanted n) = Wanted n.node
witness_ask (code.Told n) = Told n.node
witness_ask (code.Shown n) = Shown n.node
witness_ask (code.Case n) = Case n.node
witness_ask (code.Base b) = Base b.node b.after
