-- A number for each member, one after the other.
-- Serves: put_end, end_of.
use Rattle.std.proofs.Common.{◌≡◌, ℕ, ◌+◌, ◌<◌, Bool, true, false, ◌==◌, List, [], ◌∷◌, ◌++◌, length, take}
use Rattle.std.proofs.Common.{drop}
use Rattle.std.proofs.Common.{get_or, refl, sym, ap, ap₂, ◌∙◌, append_assoc, arith, eqb-true, eq-eqb, add-one}
use Rattle.std.proofs.Common.{Some, set}
use Rattle.std.specs.Prelude.{if◌then◌else◌}
use Rattle.std.proofs.Math.Seq.{drop-cons, take-suc, take-suc-set}
use Rattle.std.proofs.lemmas.List.{drop-set-lt}
use Rattle.authenticator.specs.declared.member.Member.{Member}
use Rattle.watching.specs.Ends.{end_in, with_end}

-- the rest at a place, and behind it
rest_at : {X : Type 0} (xs : List X) (i : ℕ) (d : X) → i < length xs → drop i xs ≡ get_or xs i d ∷ drop
    (i + 1) xs
rest_at xs i d within = rw add-one (drop-cons xs i d within)

other_in : (m : Member) (ms : List Member) (e : ℕ) (ends : List ℕ) (node : ℕ) → (m.node ≡ node → ⊥)
    → end_in (m ∷ ms) node (e ∷ ends) ≡ end_in ms node ends
other_in m ms e ends node differs = by (m.node == node) refl
  where
    by : (t : Bool) → (m.node == node) ≡ t → (if t then Some e else end_in ms node ends) ≡ end_in ms node ends
    by true is = absurd (differs (eqb-true m.node node is))
    by false is = refl

-- a member that isn't the node's is passed
pub passed_end : (ms : List Member) (ends : List ℕ) (node i : ℕ) (d : Member) → i < length ms
    → length ends ≡ length ms → ((get_or ms i d).node ≡ node → ⊥)
    → end_in (drop (i + 1) ms) node (drop (i + 1) ends) ≡ end_in (drop i ms) node (drop i ends)
passed_end ms ends node i d within each differs =
    let more : i < length ends = omega arith in
    sym (ap₂ (λ (x : List Member) (y : List ℕ). end_in x node y) (rest_at ms i d within)
    (rest_at ends i 0 more)
    ∙ other_in (get_or ms i d) (drop (i + 1) ms) (get_or ends i 0) (drop (i + 1) ends) node differs)

-- the number at a place, put or kept, and those behind it
step_end : (ms : List Member) (ends ends' : List ℕ) (node number i : ℕ) (d : Member) → i < length ms
    → length ends ≡ length ms
    → take (i + 1) ends'
    ≡ take i ends ++ (if node == (get_or ms i d).node then number else get_or ends i 0) ∷ []
    → drop (i + 1) ends' ≡ drop (i + 1) ends
    → take (i + 1) ends' ++ with_end (drop (i + 1) ms) node number (drop (i + 1) ends')
    ≡ take i ends ++ with_end (drop i ms) node number (drop i ends)
step_end ms ends ends' node number i d within each front behind =
    let more : i < length ends = omega arith in
    let v : ℕ = if node == (get_or ms i d).node then number else get_or ends i 0 in
    let rest : List ℕ = with_end (drop (i + 1) ms) node number (drop (i + 1) ends) in
    ap₂ (λ (x y : List ℕ). x ++ with_end (drop (i + 1) ms) node number y) front behind
    ∙ (append_assoc (take i ends) (v ∷ []) rest
    ∙ sym (ap₂ (λ (x : List Member) (y : List ℕ). take i ends ++ with_end x node number y)
    (rest_at ms i d within)
    (rest_at ends i 0 more)))

-- it is the node's, and was put
pub put_one : (ms : List Member) (ends : List ℕ) (node number i : ℕ) (d : Member) → i < length ms
    → length ends ≡ length ms → node ≡ (get_or ms i d).node
    → take (i + 1) (set ends i number) ++ with_end (drop (i + 1) ms) node number
    (drop (i + 1) (set ends i number))
    ≡ take i ends ++ with_end (drop i ms) node number (drop i ends)
put_one ms ends node number i d within each same =
    let more : i < length ends = omega arith in
    let test : (node == (get_or ms i d).node) ≡ true = eq-eqb node (get_or ms i d).node same in
    step_end ms ends (set ends i number) node number i d within each
    (rw test (rw add-one (take-suc-set ends i number more))) (drop-set-lt (i + 1) ends i number (omega arith))

-- it is another's, and stays
pub kept_one : (ms : List Member) (ends : List ℕ) (node number i : ℕ) (d : Member) → i < length ms
    → length ends ≡ length ms → (node ≡ (get_or ms i d).node → ⊥)
    → take (i + 1) ends ++ with_end (drop (i + 1) ms) node number (drop (i + 1) ends)
    ≡ take i ends ++ with_end (drop i ms) node number (drop i ends)
kept_one ms ends node number i d within each differs =
    let more : i < length ends = omega arith in
    step_end ms ends ends node number i d within each
    (rw add-one (take-suc ends i 0 more)
    ∙ ap (λ v. take i ends ++ v ∷ []) (by (node == (get_or ms i d).node) refl)) refl
  where
    by : (t : Bool) → (node == (get_or ms i d).node) ≡ t → get_or ends i 0 ≡
        (if t then number else get_or ends i 0)
    by true is = absurd (differs (eqb-true node (get_or ms i d).node is))
    by false is = refl
