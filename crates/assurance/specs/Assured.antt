-- Up to which number a server's replies are assured.
use Rattle.std.specs.Prelude.{◌≡◌, ℕ, ◌<◌, ◌≤◌, ◌==◌, not, Bool, false, List, [], ◌∷◌, ◌++◌, filter, All}
use Rattle.std.specs.Prelude.{Option, Some, None, codes, decimal, option_map}
use Rattle.assurance.specs.Events.{HandedOut, Taken, Asked, Told, History}

-- the replies that were handed out, and whose signatures weren't taken since
abbrev pub waiting : History → List ℕ
waiting [] = []
waiting (HandedOut n ∷ h) = waiting h ++ n ∷ []
waiting (Taken n ∷ h) = filter (λ m. not (m == n)) (waiting h)
waiting (Asked ∷ h) = waiting h
waiting (Told exposed end ∷ h) = waiting h

-- the replies that an answer which comes now leaves out: those that were waiting when the witness was asked, and
-- those that were handed out since
abbrev pub left_out : History → List ℕ
left_out [] = []
left_out (HandedOut n ∷ h) = n ∷ left_out h
left_out (Taken n ∷ h) = left_out h
left_out (Asked ∷ h) = waiting h
left_out (Told exposed end ∷ h) = left_out h

-- what a witness told last, and the replies that it leaves out
pub record LastAnswer : Type 0 where
  pub exposed : Bool
  pub end : ℕ
  pub out : List ℕ

-- one reply more is left out
abbrev pub leaving_out : ℕ → LastAnswer → LastAnswer
leaving_out n a = record { exposed = a.exposed; end = a.end; out = n ∷ a.out }

-- the last answer, if one came
abbrev pub last_answer : History → Option LastAnswer
last_answer [] = None
last_answer (HandedOut n ∷ h) = option_map (leaving_out n) (last_answer h)
last_answer (Taken n ∷ h) = last_answer h
last_answer (Asked ∷ h) = last_answer h
last_answer (Told exposed end ∷ h) = Some (record { exposed = exposed; end = end; out = left_out h })

-- Replies are assured up to a number by an answer: it doesn't call the server exposed, the server's log was filed Sound
-- up to there, and no reply up to there is left out: the signature of each that was handed out had been taken when the
-- witness was asked.
pub record IsAssuredBy (a : LastAnswer) (k : ℕ) : Type 0 where
  pub trusted : a.exposed ≡ false
  pub filed : k ≤ a.end
  pub taken : All (λ n. k < n) a.out

-- By the last answer they are assured up to it.
abbrev pub IsAssured : History → ℕ → Type 0
IsAssured h k = (a : LastAnswer) × ((last_answer h ≡ Some a) × IsAssuredBy a k)

-- the greatest such number, if there is one
abbrev pub IsAssuredTo : History → Option ℕ → Type 0
IsAssuredTo h None = (k : ℕ) → ¬ IsAssured h k
IsAssuredTo h (Some k) = IsAssured h k × ((m : ℕ) → IsAssured h m → m ≤ k)

-- what is said of it
abbrev pub assured_words : Option ℕ → List ℕ
assured_words None = codes "assured of none"
assured_words (Some number) = codes "assured to " ++ decimal number
