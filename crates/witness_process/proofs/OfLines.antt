-- What is told of a node, and said at a time.
-- Serves: Account::ask, Row::take_due, whole_line.
use Rattle.std.proofs.Common.{◌≡◌, ◌<◌, ℕ, List, ◌++◌, arith, inl, inr, refl, subst, sym, ap, append_assoc, ◌∙◌}
use Rattle.std.specs.Prelude.{Option, Some, None, codes}
use Rattle.witness_process.specs.Histories.{StandForHistory}
use Rattle.witness_process.specs.Lines.{BeginsLine, HasWaited, IsDue, IsLineOf, IsSaidAt, MayFollow, WasTold, saying_of}
use Rattle.witness_process.specs.Lines.{seconds_open}
use Rattle.witness_process.specs.declared.due.Saying.{Saying}
use Rattle.witness_process.specs.declared.opened.OpenChallenge.{OpenChallenge}
use Rattle.witness_books.specs.Books.{BooksParts}
use Rattle.watching.specs.Telling.{Tells, told_line}
use Rattle.watching.specs.declared.told.NodeTold.{NodeTold}

-- books told it
pub was_told : (old new : BooksParts) (node : ℕ) (told : NodeTold) → StandForHistory old → Tells old node told new
    → WasTold told
was_told old new node told stand tells =
    (old, new, stand, subst (λ (n : ℕ). Tells old n told new) (sym tells.is_of) tells)

-- it is of the node that was asked for
pub is_of_node : (old new : BooksParts) (node : ℕ) (told : NodeTold) → Tells old node told new → told.node ≡ node
is_of_node old new node told tells = tells.is_of

-- where seconds have passed a challenge is open
waited : (oldest : Option OpenChallenge) (time patience : ℕ) → patience < seconds_open oldest time
    → HasWaited oldest time patience
waited None time patience late = absurd (omega (arith, late))
waited (Some c) time patience late = late

-- a line that is due may be said
pub said_at : (told : NodeTold) (oldest : Option OpenChallenge) (time patience : ℕ) (last : Option Saying)
    → WasTold told → IsDue told oldest (seconds_open oldest time) patience last
    → IsSaidAt time patience (saying_of told oldest)
said_at told oldest time patience last was due = record {
  told = was;
  late = λ is. rw is (waited oldest time patience (due.late is));
}

-- a line begins with what books told
pub begins : (saying : Saying) (text : List ℕ) → IsLineOf saying text → BeginsLine saying text
begins saying text line = record { rest = line.rest; is = line.is; follows = line.follows }

-- more may follow what may
followed : (rest more : List ℕ) → MayFollow rest → MayFollow (rest ++ (codes ": " ++ more))
followed rest more (inl none) = inr (more, ap (λ (r : List ℕ). r ++ (codes ": " ++ more)) none)
followed rest more (inr (front, is)) = inr (
  front ++ (codes ": " ++ more),
  ap (λ (r : List ℕ). r ++ (codes ": " ++ more)) is ∙ append_assoc (codes ": ") front (codes ": " ++ more),
)

-- so does one that goes on after a colon and a space
pub longer : (saying : Saying) (text colon more whole : List ℕ) → BeginsLine saying text → colon ≡ text ++ codes ": "
    → whole ≡ colon ++ more → BeginsLine saying whole
longer saying text colon more whole line is on = record {
  rest = line.rest ++ (codes ": " ++ more);
  is = on ∙ ap (λ (t : List ℕ). t ++ more) is ∙ append_assoc text (codes ": ") more
      ∙ ap (λ (t : List ℕ). t ++ (codes ": " ++ more)) line.is
      ∙ append_assoc (told_line saying.told) line.rest (codes ": " ++ more);
  follows = followed line.rest more line.follows;
}

-- a line with the oldest challenge
pub with_oldest : (saying : Saying) (text colon since whole : List ℕ) (oldest : OpenChallenge)
    → text ≡ told_line saying.told → saying.oldest ≡ Some oldest → colon ≡ text ++ codes ": " → whole ≡ colon ++ since
    → IsLineOf saying whole
with_oldest saying text colon since whole oldest line some is on = record {
  rest = codes ": " ++ since;
  is = on ∙ ap (λ (t : List ℕ). t ++ since) is ∙ append_assoc text (codes ": ") since
      ∙ ap (λ (t : List ℕ). t ++ (codes ": " ++ since)) line;
  follows = inr (since, refl);
  alone = λ none. absurd cc;
}
