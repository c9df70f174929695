-- Answers are read as what they are.
-- Serves: answers_are_read_as_written.
use Rattle.std.proofs.Common.{◌≡◌, ℕ, Bool, true, false, eqb, List, [], ◌++◌, Option, Some, None, refl, sym, ap, ◌∙◌}
use Rattle.std.proofs.Common.{arith}
use Rattle.std.specs.Prelude.{◌<◌, ◌^◌}
use Rattle.std.proofs.lemmas.List.{append-nil}
use Rattle.xdr.specs.Item.{hyper, number_spelling, spelling, word}
use Rattle.xdr.specs.Reading.{tested_at}
use Rattle.xdr.proofs.Exact.{again}
use Rattle.peer_calls.specs.Arguments.{after_word}
use Rattle.peer_calls.specs.Answers.{IsBaseAnswer, IsCase, NodeCase, NoCase, Here, TooLarge, base_at, base_bytes}
use Rattle.peer_calls.specs.Answers.{base_results, case_at, case_text, file_item, stands_at, stands_text}
use Rattle.peer_calls.proofs.Read.{text_again, word_again}

-- a word isn't another one
other_word : (n m : ℕ) (rest : List ℕ) → m < 2 ^ 32 → eqb m n ≡ false
    → after_word n (number_spelling 4 m ++ rest) ≡ None
unfolding tested_at
other_word n m rest small differs = rw (again word m rest small) (rw differs refl)

-- a word alone
word_alone : (n : ℕ) → n < 2 ^ 32 → after_word n (number_spelling 4 n) ≡ Some []
word_alone n small =
    ap (after_word n) (sym (append-nil (number_spelling 4 n))) ∙ word_again n [] small

other_alone : (n m : ℕ) → m < 2 ^ 32 → eqb m n ≡ false → after_word n (number_spelling 4 m) ≡ None
other_alone n m small differs =
    ap (after_word n) (sym (append-nil (number_spelling 4 m))) ∙ other_word n m [] small differs

pub stands_read : (b : Bool) → stands_at (stands_text b) ≡ Some b
stands_read true = rw (word_alone 0 (omega arith)) refl
stands_read false = rw (other_alone 0 1 (omega arith) refl, word_alone 1 (omega arith)) refl

pub case_read : (c : NodeCase) → IsCase c → case_at (case_text c) ≡ Some c
case_read NoCase fits = rw (word_alone 0 (omega arith)) refl
case_read (Here file) fits =
    rw (other_word 0 1 (spelling file_item file) (omega arith) refl, word_again 1 (spelling file_item file) (omega arith))
    (rw (text_again file_item file fits) refl)
case_read (TooLarge bytes) fits =
    rw (other_word 0 2 (spelling hyper bytes) (omega arith) refl, other_word 1 2 (spelling hyper bytes) (omega arith) refl)
    (rw (word_again 2 (spelling hyper bytes) (omega arith)) (rw (text_again hyper bytes fits) refl))

pub base_read : (b : Option (List ℕ)) → IsBaseAnswer b → base_at (base_results b) ≡ Some b
base_read (Some base) fits =
    rw (word_again 0 (spelling base_bytes base) (omega arith)) (rw (text_again base_bytes base fits) refl)
base_read None fits = rw (other_alone 0 1 (omega arith) refl, word_alone 1 (omega arith)) refl
