-- What notes of a step say.
use Rattle.std.specs.Prelude.{◌≡◌, true, false, Option, Some, None}
use Rattle.node_book.specs.witness_spec.Events.{JobParts, Event}
use Rattle.node_book.specs.witness_spec.Refusals.{NoMemory}
use Rattle.node_book.specs.witness_spec.Replies.{Reply, Refused, FileRefused, PutBackRefused}
use Rattle.node_book.specs.witness_spec.Replies.{is_want_of_memory}
use Rattle.node_book.specs.Replies.{reply_in}
use Rattle.node_book.specs.declared.reply.ReplyOf.{ReplyOf}

-- ---- replies

-- the refusal of the same event as out of memory
abbrev pub for_memory : Reply → Reply
for_memory (FileRefused refusal d) = FileRefused NoMemory d
for_memory (PutBackRefused refusal j) = PutBackRefused NoMemory j
for_memory _ = Refused NoMemory

-- There are two notes of this reply, which doesn't say that memory ran out.
pub record AreOf (reply : Reply) (one two : ReplyOf JobParts JobParts) : Type 0 where
  -- it doesn't say so
  pub enough : is_want_of_memory reply ≡ false
  -- the first note says it
  pub is_one : reply_in one ≡ reply
  -- and the second
  pub is_two : reply_in two ≡ reply

-- There are notes of a reply, unless it says that memory ran out.
abbrev pub AreNotesOf : Reply → Option (ReplyOf JobParts JobParts × ReplyOf JobParts JobParts) → Type 0
AreNotesOf reply None = is_want_of_memory reply ≡ true
AreNotesOf reply (Some notes) = AreOf reply notes.0 notes.1

-- A refusal is given with notes of it; or as out of memory, without.
abbrev pub NotesRefusal : (refusal reply : Reply)
    → Option (ReplyOf JobParts JobParts × ReplyOf JobParts JobParts) → Type 0
NotesRefusal refusal reply None = reply ≡ for_memory refusal
NotesRefusal refusal reply (Some notes) = (reply ≡ refusal) × AreOf refusal notes.0 notes.1

-- ---- events with their replies

-- There are two notes of an event with its reply, that say every word of both; there are none exactly where
-- memory ran out.
abbrev pub AreNotes : Event → Reply → Option ((Event × Reply) × (Event × Reply)) → Type 0
AreNotes event reply None = is_want_of_memory reply ≡ true
AreNotes event reply (Some notes) =
    (is_want_of_memory reply ≡ false) × (notes.0 ≡ (event, reply)) × (notes.1 ≡ (event, reply))
