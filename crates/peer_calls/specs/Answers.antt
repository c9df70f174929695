-- What a node and a witness answer: the results of their procedures (RFC 4506).
use Rattle.std.specs.Prelude.{◌≡◌, ◌≢◌, ◌<◌, ◌-◌, ◌^◌, ℕ, ◌==◌, Bool, true, false, List, ◌++◌, length, map, take}
use Rattle.std.specs.Prelude.{Option, Some, None, Result, Ok, Err, nat_le, option_and_then, option_map, if◌then◌else◌}
use Rattle.xdr.specs.Item.{Fits, Item, Value, array, fixed, hyper, number_spelling, opaque, optional, pair}
use Rattle.xdr.specs.Item.{spelling, word, word_where}
use Rattle.xdr.specs.Reading.{Read, read_at}
use Rattle.xdr.specs.Texts.Text.{IsText, Text, text_at}
use Rattle.envelopes.specs.Acknowledgement.{ack_item, ack_text, ack_value}
use Rattle.envelopes.specs.Envelope.{envelope_item, envelope_text, envelope_value}
use Rattle.envelopes.specs.declared.acknowledgement.Ack.{Ack}
use Rattle.envelopes.specs.declared.envelope.Envelope.{Envelope}
use Rattle.peer_calls.specs.Arguments.{after_word, after_words, hyper_text, nothing_in, numbers_item, numbers_value}
use Rattle.peer_calls.specs.Arguments.{text_of}
use Rattle.peer_calls.specs.declared.arguments.Numbers.{Numbers}
use Rattle.peer_calls.specs.declared.answers.Greeted.{Greeted}
use Rattle.peer_calls.specs.declared.answers.Greeted.TheVariants.{Same, Other}
use Rattle.peer_calls.specs.declared.answers.ResultsFault.{ResultsFault}
use Rattle.peer_calls.specs.declared.answers.ResultsFault.TheVariants.{Garbage, NoMemory}
use Rattle.peer_calls.specs.declared.answers.Segment.{Segment}
use Rattle.peer_calls.specs.declared.answers.Segment.TheVariants as code
use Rattle.peer_calls.specs.declared.answers.Told.{Told}
use Rattle.peer_calls.specs.declared.bases.TheConstants.{MAX_BASE}
use Rattle.peer_calls.specs.declared.cases.Case.{Case}
use Rattle.peer_calls.specs.declared.cases.Case.TheVariants as cases
use Rattle.peer_calls.specs.declared.cases.TheConstants.{MAX_CASE}
use Rattle.peer_calls.specs.declared.wanted.Wanted.{Wanted}
use Rattle.peer_calls.specs.declared.delivered.Delivered.{Delivered}
use Rattle.peer_calls.specs.declared.delivered.Delivered.TheVariants as delivered

-- The bytes are the text of an acknowledgement, or of an envelope.
abbrev pub IsAnAck : List ℕ → Type 0
IsAnAck text = (a : Ack) × IsText ack_text (ack_value a) text

abbrev pub IsAnEnvelope : List ℕ → Type 0
IsAnEnvelope text = (e : Envelope) × IsText envelope_text (envelope_value e) text

-- FALSE, or TRUE and a packet with this number
abbrev pub optional_packet : (number : ℕ) → Option (List ℕ) → List ℕ
optional_packet number None = number_spelling 4 0
optional_packet number (Some text) = number_spelling 4 1 ++ (number_spelling 4 number ++ text)

-- what is read of the bytes after a word with which they begin, or else of all of them
abbrev pub after_or : {A : Type 0} → (rest : Option (List ℕ)) → (List ℕ → Option A) → (other : Option A) → Option A
after_or (Some rest) read other = read rest
after_or None read other = other

-- a value, where nothing follows
abbrev pub alone : {A : Type 0} → A → List ℕ → Option A
alone a rest = option_map (λ _. a) (nothing_in rest)

-- what a packet with this number is, if there is one
abbrev pub optional_packet_at : (number : ℕ) → List ℕ → Option (Option (List ℕ))
optional_packet_at number bytes =
    after_or (after_word 0 bytes) (alone None) (option_map Some (after_words 1 number bytes))

-- A call gave what the results say, or that they don't decode; or memory was refused.
abbrev pub GivesResults : {X A : Type 0} → (X → A) → Option A → Result X ResultsFault → Type 0
GivesResults view said (Ok x) = said ≡ Some (view x)
GivesResults view said (Err Garbage) = said ≡ None
GivesResults view said (Err NoMemory) = Unit {0}

-- ---- GREET

-- 0: the same roster; 1: another, with its digest
abbrev pub greeted_text : Greeted → List ℕ
greeted_text Same = number_spelling 4 0
greeted_text (Other digest) = number_spelling 4 1 ++ spelling (fixed 32) digest

abbrev pub greeted_at : List ℕ → Option Greeted
greeted_at bytes =
    after_or (after_word 0 bytes) (alone Same)
    (option_and_then (λ rest. option_map Other (text_at (text_of (fixed 32)) rest)) (after_word 1 bytes))

-- ---- DELIVER to a node

-- what a node answers to an envelope: the text of its acknowledgement, with that of the reply's envelope if one is
-- owed; or the number of its refusal
pub data NodeDelivered : Type 0 where
  Taken : (ack : List ℕ) → (reply : Option (List ℕ)) → NodeDelivered
  Refused : ℕ → NodeDelivered

-- its one text
abbrev pub delivered_text : NodeDelivered → List ℕ
delivered_text (Taken ack reply) = number_spelling 4 0 ++ (number_spelling 4 4 ++ (ack ++ optional_packet 2 reply))
delivered_text (Refused number) = number_spelling 4 number

-- what has such a text: what stands for the acknowledgement is the text of one, and 0 is no refusal
abbrev pub IsDelivered : NodeDelivered → Type 0
IsDelivered (Taken ack reply) = IsAnAck ack
IsDelivered (Refused number) = (number ≢ 0) × (number < 2 ^ 32)

-- the text of an acknowledgement with which the bytes begin, and what follows it
abbrev pub split_at : Read (Value ack_item) → List ℕ → Option (List ℕ × List ℕ)
split_at (Ok x) bytes = Some (take (length bytes - length x.1) bytes, x.1)
split_at (Err e) bytes = None

abbrev pub taken_at : List ℕ → Option NodeDelivered
taken_at bytes =
    option_and_then (λ rest.
    option_and_then (λ p. option_map (λ reply. Taken p.0 reply) (optional_packet_at 2 p.1))
    (split_at (read_at ack_item rest) rest)) (after_word 4 bytes)

abbrev pub delivered_at : List ℕ → Option NodeDelivered
delivered_at bytes =
    after_or (after_word 0 bytes) taken_at (option_map Refused (text_at (text_of word) bytes))

-- what the program's value says
abbrev pub delivered_of : Delivered → NodeDelivered
delivered_of (delivered.Taken ack reply) = Taken ack.now (option_map (λ r. r.now) reply)
delivered_of (delivered.Refused number) = Refused number

-- ---- SIGNED

-- the results: the packet of an authenticator, if there is one
abbrev pub signed_text : Option (List ℕ) → List ℕ
signed_text text = optional_packet 1 text

abbrev pub signed_at : List ℕ → Option (Option (List ℕ))
signed_at bytes = optional_packet_at 1 bytes

-- ---- SEGMENT

-- what a node answers to an audit: a packet with a segment, or why there is none
pub data NodeSegment : Type 0 where
  Answered : (packet : List ℕ) → NodeSegment
  OutOfRange : NodeSegment
  TooLong : NodeSegment

-- its one text
abbrev pub segment_text : NodeSegment → List ℕ
segment_text (Answered packet) = number_spelling 4 0 ++ packet
segment_text OutOfRange = number_spelling 4 1
segment_text TooLong = number_spelling 4 2

abbrev pub segment_at : List ℕ → Option NodeSegment
segment_at bytes =
    after_or (after_word 0 bytes) (λ packet. Some (Answered packet))
    (after_or (after_word 1 bytes) (alone OutOfRange)
    (option_and_then (alone TooLong) (after_word 2 bytes)))

-- what the program's value says
abbrev pub segment_of : Segment → NodeSegment
segment_of (code.Answered packet) = Answered packet.now
segment_of code.OutOfRange = OutOfRange
segment_of code.TooLong = TooLong

-- ---- STANDS

-- 0: the pair stands in the log; 1: it doesn't
abbrev pub stands_text : Bool → List ℕ
stands_text true = number_spelling 4 0
stands_text false = number_spelling 4 1

abbrev pub stands_at : List ℕ → Option Bool
stands_at bytes =
    after_or (after_word 0 bytes) (alone true) (option_and_then (alone false) (after_word 1 bytes))

-- ---- BASE, of a node and of a witness

-- the bytes of a base, as opaque data (RFC 4506, section 4.10)
abbrev pub base_bytes : Item
base_bytes = opaque MAX_BASE

-- 0 and the bytes of a base; 1: there is none
abbrev pub base_results : Option (List ℕ) → List ℕ
base_results (Some base) = number_spelling 4 0 ++ spelling base_bytes base
base_results None = number_spelling 4 1

-- what is sent of a base, if there is one: all of it, where it has at most MAX_BASE bytes
abbrev pub base_sent : Option (List ℕ) → Option (List ℕ)
base_sent None = None
base_sent (Some base) = if nat_le (length base) MAX_BASE then Some base else None

-- what has such a text
abbrev pub IsBaseAnswer : Option (List ℕ) → Type 0
IsBaseAnswer (Some base) = Fits base_bytes base
IsBaseAnswer None = Unit {0}

abbrev pub base_at : List ℕ → Option (Option (List ℕ))
base_at bytes =
    after_or (after_word 0 bytes) (λ rest. option_map Some (text_at (text_of base_bytes) rest))
    (option_and_then (alone None) (after_word 1 bytes))

-- ---- a witness's WANTED

-- the packet of a message whose acknowledgement is awaited
abbrev pub message_item : Item
message_item = pair (word_where (λ n. n == 2)) envelope_item

-- the first and the last number of the audit that is open, if one is; and the messages that are, at most 16
abbrev pub wanted_item : Item
wanted_item = pair (optional numbers_item) (array 16 message_item)

abbrev pub wanted_text : Text
wanted_text = text_of wanted_item

abbrev pub audit_value : Option Numbers → Option (ℕ × ℕ)
audit_value audit = option_map numbers_value audit

abbrev pub message_value : Envelope → Value message_item
message_value e = (2, envelope_value e)

abbrev pub wanted_value : Wanted → Value wanted_item
wanted_value w = (audit_value w.audit, map (λ m. message_value m.envelope) w.messages.items)

-- ---- a witness's TOLD

-- 0 no member, 1 trusted, 2 suspected, 3 exposed; the count of open challenges; the last number that was filed
-- sound; the seconds since the oldest open challenge was opened
abbrev pub told_item : Item
told_item = pair word (pair word (pair hyper hyper))

abbrev pub told_text : Text
told_text = text_of told_item

abbrev pub told_value : Told → Value told_item
told_value t = (t.standing, (t.open, (t.end, t.seconds)))

-- ---- a witness's SHOWN

-- the results, as those of SIGNED: the packet of an authenticator, if there is one
abbrev pub shown_text : Option (List ℕ) → List ℕ
shown_text text = optional_packet 1 text

-- ---- a witness's CASE

-- what a witness answers of its evidence of a node: that it has none; the bytes of the file; or how many bytes it
-- has, where these are too many
pub data NodeCase : Type 0 where
  NoCase : NodeCase
  Here : (file : List ℕ) → NodeCase
  TooLarge : (bytes : ℕ) → NodeCase

-- the bytes of a file, as opaque data (RFC 4506, section 4.10)
abbrev pub file_item : Item
file_item = opaque MAX_CASE

-- its one text
abbrev pub case_text : NodeCase → List ℕ
case_text NoCase = number_spelling 4 0
case_text (Here file) = number_spelling 4 1 ++ spelling file_item file
case_text (TooLarge bytes) = number_spelling 4 2 ++ spelling hyper bytes

-- what has such a text
abbrev pub IsCase : NodeCase → Type 0
IsCase NoCase = Unit {0}
IsCase (Here file) = Fits file_item file
IsCase (TooLarge bytes) = Fits hyper bytes

abbrev pub case_at : List ℕ → Option NodeCase
case_at bytes =
    after_or (after_word 0 bytes) (alone NoCase)
    (after_or (after_word 1 bytes) (λ rest. option_map Here (text_at (text_of file_item) rest))
    (option_and_then (λ rest. option_map TooLarge (text_at hyper_text rest)) (after_word 2 bytes)))

-- what the program's value says
abbrev pub case_of : Case → NodeCase
case_of cases.NoCase = NoCase
case_of (cases.Here file) = Here file.now
case_of (cases.TooLarge bytes) = TooLarge bytes
