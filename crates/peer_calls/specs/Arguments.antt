-- The arguments of calls (RFC 4506): numbers and digests, and what of a call is asked.
use Rattle.std.specs.Prelude.{◌≡◌, ◌⊎◌, ℕ, ◌==◌, true, List, [], ◌∷◌, Result, Ok, Err, Option, Some, None}
use Rattle.std.specs.Prelude.{option_and_then}
use Rattle.xdr.specs.Item.{Item, Value, fixed, hyper, pair, word, word_where}
use Rattle.xdr.specs.Reading.{Read, read_at}
use Rattle.xdr.specs.Texts.Text.{Text}
use Rattle.rpc.specs.declared.reply.ReplyBody.{ReplyBody}
use Rattle.rpc.specs.declared.reply.ReplyBody.TheVariants.{GarbageArguments, SystemError}
use Rattle.peer_calls.specs.declared.arguments.BaseAfter.{BaseAfter}
use Rattle.peer_calls.specs.declared.arguments.Greeting.{Greeting}
use Rattle.peer_calls.specs.declared.arguments.Numbers.{Numbers}

-- any value of an item, as a text
abbrev pub text_of : Item → Text
text_of a = record { item = a; test = λ _. true }

-- the digest of a roster's text, and the number of who asks
abbrev pub greeting_item : Item
greeting_item = pair (fixed 32) word

abbrev pub greeting_text : Text
greeting_text = text_of greeting_item

abbrev pub greeting_value : Greeting → Value greeting_item
greeting_value g = (g.digest, g.node)

-- a number of a log
abbrev pub hyper_text : Text
hyper_text = text_of hyper

-- two numbers of a log
abbrev pub numbers_item : Item
numbers_item = pair hyper hyper

abbrev pub numbers_text : Text
numbers_text = text_of numbers_item

abbrev pub numbers_value : Numbers → Value numbers_item
numbers_value n = (n.first, n.last)

-- the number of a node
abbrev pub node_text : Text
node_text = text_of word

-- a node, and the number of its log above which a base is asked for
abbrev pub base_after_item : Item
base_after_item = pair word hyper

abbrev pub base_after_text : Text
base_after_text = text_of base_after_item

abbrev pub base_after_value : BaseAfter → Value base_after_item
base_after_value b = (b.node, b.after)

-- what follows a word, where the bytes begin with it
abbrev pub rest_of : {A : Type 0} → Read A → Option (List ℕ)
rest_of (Ok x) = Some x.1
rest_of (Err e) = None

abbrev pub after_word : (n : ℕ) → List ℕ → Option (List ℕ)
after_word n bytes = rest_of (read_at (word_where (λ w. w == n)) bytes)

-- what follows two words
abbrev pub after_words : (first second : ℕ) → List ℕ → Option (List ℕ)
after_words first second bytes = option_and_then (after_word second) (after_word first bytes)

-- no bytes
abbrev pub nothing_in : List ℕ → Option (Unit {0})
nothing_in [] = Some tt
nothing_in (b ∷ bytes) = None

-- arguments, or the refusal of those that don't decode
abbrev pub or_garbage : {A : Type 0} → Option A → Result A ReplyBody
or_garbage (Some a) = Ok a
or_garbage None = Err GarbageArguments

-- A call gave what is asked, or the refusal; or memory was refused.
abbrev pub GivesAsk : {X A : Type 0} → (X → A) → Result A ReplyBody → Result X ReplyBody → Type 0
GivesAsk view asked (Ok x) = asked ≡ Ok (view x)
GivesAsk view asked (Err e) = (e ≡ SystemError) ⊎ (asked ≡ Err e)
