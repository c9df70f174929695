-- What each member showed last, one after the other.
-- Serves: note_shown, shown_of.
use Rattle.std.proofs.Common.{◌≡◌, ℕ, ◌+◌, ◌<◌, Bool, true, false, ◌==◌, List, [], ◌∷◌, ◌++◌, length, take, drop}
use Rattle.std.proofs.Common.{get_or, refl, sym, ap, ap₂, ◌∙◌, append_assoc, arith, eqb-true, eq-eqb, add-one, set}
use Rattle.std.specs.Prelude.{Option, None, if◌then◌else◌}
use Rattle.std.proofs.Math.Seq.{drop-cons, take-suc, take-suc-set}
use Rattle.std.proofs.lemmas.List.{drop-set-lt, take-append-drop}
use Rattle.authenticator.specs.declared.authenticator.Authenticator.{Authenticator}
use Rattle.authenticator.specs.declared.member.Member.{Member}
use Rattle.watching.specs.Shown.{later, shown_in, with_shown}

-- the rest at a place, and behind it
rest_at : {X : Type 0} (xs : List X) (i : ℕ) (d : X) → i < length xs
    → drop i xs ≡ get_or xs i d ∷ drop (i + 1) xs
rest_at xs i d within = rw add-one (drop-cons xs i d within)

-- a member that isn't the node's is passed
other_in : (m : Member) (ms : List Member) (s : Option Authenticator) (shown : List (Option Authenticator)) (node : ℕ)
    → (m.node ≡ node → ⊥) → shown_in (m ∷ ms) node (s ∷ shown) ≡ shown_in ms node shown
other_in m ms s shown node differs = by (m.node == node) refl
  where
    by : (t : Bool) → (m.node == node) ≡ t → (if t then s else shown_in ms node shown) ≡ shown_in ms node shown
    by true is = absurd (differs (eqb-true m.node node is))
    by false is = refl

pub passed_shown : (ms : List Member) (shown : List (Option Authenticator)) (node i : ℕ) (d : Member) → i < length ms
    → length shown ≡ length ms → ((get_or ms i d).node ≡ node → ⊥)
    → shown_in (drop (i + 1) ms) node (drop (i + 1) shown) ≡ shown_in (drop i ms) node (drop i shown)
passed_shown ms shown node i d within each differs =
    let more : i < length shown = omega arith in
    sym (ap₂ (λ (x : List Member) (y : List (Option Authenticator)). shown_in x node y) (rest_at ms i d within)
    (rest_at shown i None more)
    ∙ other_in (get_or ms i d) (drop (i + 1) ms) (get_or shown i None) (drop (i + 1) shown) node differs)

-- what follows a place, after one more authenticator
at_place : (ms : List Member) (shown : List (Option Authenticator)) (a : Authenticator) (i : ℕ) (d : Member)
    (e : Option Authenticator)
    → i < length ms → length shown ≡ length ms
    → with_shown (drop i ms) a (drop i shown)
    ≡ (if (get_or ms i d).node == a.node
    then later (get_or ms i d).log_version (get_or shown i e) a ∷ drop (i + 1) shown
    else get_or shown i e ∷ with_shown (drop (i + 1) ms) a (drop (i + 1) shown))
at_place ms shown a i d e within each =
    let more : i < length shown = omega arith in
    ap₂ (λ (x : List Member) (y : List (Option Authenticator)). with_shown x a y) (rest_at ms i d within)
    (rest_at shown i e more)

-- it is the node's, and is put
pub put_shown : (ms : List Member) (shown : List (Option Authenticator)) (a : Authenticator) (i : ℕ) (d : Member)
    (e : Option Authenticator)
    → i < length ms → length shown ≡ length ms → (get_or ms i d).node ≡ a.node
    → set shown i (later (get_or ms i d).log_version (get_or shown i e) a)
    ≡ take i shown ++ with_shown (drop i ms) a (drop i shown)
put_shown ms shown a i d e within each same =
    let more : i < length shown = omega arith in
    let new : Option Authenticator = later (get_or ms i d).log_version (get_or shown i e) a in
    let test : ((get_or ms i d).node == a.node) ≡ true = eq-eqb (get_or ms i d).node a.node same in
    let whole : take (i + 1) (set shown i new) ++ drop (i + 1) (set shown i new) ≡ set shown i new =
    take-append-drop (i + 1) (set shown i new) in
    let front : take (i + 1) (set shown i new) ≡ take i shown ++ new ∷ [] =
    rw add-one (take-suc-set shown i new more) in
    let behind : drop (i + 1) (set shown i new) ≡ drop (i + 1) shown =
    drop-set-lt (i + 1) shown i new (omega arith) in
    sym whole
    ∙ (ap₂ (λ (x y : List (Option Authenticator)). x ++ y) front behind
    ∙ (append_assoc (take i shown) (new ∷ []) (drop (i + 1) shown)
    ∙ sym (ap (λ (x : List (Option Authenticator)). take i shown ++ x)
    (at_place ms shown a i d e within each ∙ rw test refl))))

-- it is another's, and stays
pub kept_shown : (ms : List Member) (shown : List (Option Authenticator)) (a : Authenticator) (i : ℕ) (d : Member)
    → i < length ms → length shown ≡ length ms → ((get_or ms i d).node ≡ a.node → ⊥)
    → take (i + 1) shown ++ with_shown (drop (i + 1) ms) a (drop (i + 1) shown)
    ≡ take i shown ++ with_shown (drop i ms) a (drop i shown)
kept_shown ms shown a i d within each differs =
    let more : i < length shown = omega arith in
    let rest : List (Option Authenticator) = with_shown (drop (i + 1) ms) a (drop (i + 1) shown) in
    ap (λ (x : List (Option Authenticator)). x ++ rest) (rw add-one (take-suc shown i None more))
    ∙ (append_assoc (take i shown) (get_or shown i None ∷ []) rest
    ∙ sym (ap (λ (x : List (Option Authenticator)). take i shown ++ x)
    (at_place ms shown a i d None within each ∙ by ((get_or ms i d).node == a.node) refl)))
  where
    by : (t : Bool) → ((get_or ms i d).node == a.node) ≡ t
        → (if t then later (get_or ms i d).log_version (get_or shown i None) a ∷ drop (i + 1) shown
        else get_or shown i None ∷ with_shown (drop (i + 1) ms) a (drop (i + 1) shown))
        ≡ get_or shown i None ∷ with_shown (drop (i + 1) ms) a (drop (i + 1) shown)
    by true is = absurd (differs (eqb-true (get_or ms i d).node a.node is))
    by false is = refl
