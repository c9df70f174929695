-- The line of what a witness said, which is that of any reply that says it.
use Rattle.std.specs.Prelude.{◌≡◌, ℕ, false, List, ◌++◌, codes, decimal}
use Rattle.witness_spec.specs.Refusals.{refusal_number}
use Rattle.witness_books.specs.node_book.Replies.{indication_in, refusal_in}
use Rattle.witness_calls.specs.declared.said.Said.{Said}
use Rattle.witness_calls.specs.declared.said.Said.TheVariants as s
use Rattle.witness_calls.specs.Telling.{wants_memory, word_of}
use Rattle.scripts.specs.Turns.{refused_line}

-- its line
abbrev pub said_line : Said → List ℕ
said_line s.Noted = codes "noted\n"
said_line s.Already = codes "already\n"
said_line s.Opened = codes "opened\n"
said_line s.Accepted = codes "accepted\n"
said_line s.Closed = codes "closed\n"
said_line (s.Asked first last) = codes "asked " ++ (decimal first ++ (codes " " ++ (decimal last ++ codes "\n")))
said_line s.Returned = codes "returned\n"
said_line (s.Forwarded x) =
    codes "forwarded " ++ (decimal x.node ++ (codes " " ++ (decimal x.word ++ codes "\n")))
said_line s.Empty = codes "empty\n"
said_line (s.Told i) = word_of (indication_in i) ++ codes "\n"
said_line (s.Open cs) = codes "open\n"
said_line (s.EvidenceIs e) = codes "evidence\n"
said_line (s.Refused f) = refused_line (refusal_number (refusal_in f))

-- A text is the line of what was said, which isn't that memory ran out.
pub record IsLineOf (said : Said) (text : List ℕ) : Type 0 where
  pub enough : wants_memory said ≡ false
  pub is : text ≡ said_line said
