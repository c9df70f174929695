-- A roster's members as a text, one after the other; the member with a number; and that members have no
-- fault exactly where they fit and rise.
-- Serves: Roster::write by the two forms of its text, Roster::new, Checked::vouch (authenticator).
use Rattle.std.proofs.Common.{◌≡◌, ◌==◌, ℕ, Bool, true, false, cond, List, [], ◌∷◌, ◌++◌, length, Result, Ok}
use Rattle.std.proofs.Common.{Err, Option, Some, None, refl, sym, ap, ◌∙◌, append_assoc}
use Rattle.std.specs.Prelude.{IsTrue, ◌&&◌, nat_lt}
use Rattle.std.proofs.lemmas.Bool.{eqb-true}
use Rattle.std.proofs.lemmas.List.{length-map}
use Rattle.std.specs.List.{flat_map}
use Rattle.xdr.specs.Item.{array, spelling, number_spelling}
use Rattle.xdr.specs.Writing.{Adds}
use Rattle.authenticator.specs.declared.member.Member.{Member}
use Rattle.authenticator.specs.declared.roster.TheConstants.{MAX_MEMBERS}
use Rattle.authenticator.specs.declared.refusal.RosterFault.{RosterFault}
use Rattle.authenticator.specs.declared.refusal.RosterFault.TheVariants.{BadNumber, BadHeight, NotRising}
use Rattle.authenticator.specs.Roster.{member_item, member_value, member_values, is_node}
use Rattle.authenticator.specs.Roster.{is_height, rises_above, EachFits, first_of, first_fault, member_of}

-- the members' texts
abbrev pub texts : List Member → List ℕ
texts ms = flat_map (λ m. spelling member_item (member_value m)) ms

-- the same over the members' values
pub members_text : (ms : List Member) → texts ms ≡ flat_map (spelling member_item) (member_values ms)
members_text [] = refl
members_text (m ∷ ms) = ap (λ x. spelling member_item (member_value m) ++ x) (members_text ms)

-- the member that is found has the number
pub member_node : (ms : List Member) (node : ℕ) (m : Member) → member_of ms node ≡ Some m → m.node ≡ node
member_node [] node m e = absurd cc
member_node (x ∷ ms) node m e = by_test (x.node == node) refl e (member_node ms node m)
  where
    by_test : (b : Bool) → (x.node == node) ≡ b → cond b (Some x) (member_of ms node) ≡ Some m
        → (member_of ms node ≡ Some m → m.node ≡ node) → m.node ≡ node
    by_test true h e rest = let same : x ≡ m = cc in
        sym (ap (λ (y : Member). y.node) same) ∙ eqb-true x.node node h
    by_test false h e rest = rest e

-- members without a fault rise
pub no_fault_rises : (low : ℕ) (ms : List Member) → first_fault low ms ≡ None
    → IsTrue (rises_above low (member_values ms))
no_fault_rises low [] e = refl
no_fault_rises low (m ∷ ms) e =
    by_tests (is_node m.node) (is_height m.height) (nat_lt low m.node) (first_fault m.node ms) e
    (no_fault_rises m.node ms)
  where
    by_tests : (node height above : Bool) (later : Option RosterFault) {rising : Bool}
        → first_of (cond node (cond height (cond above None (Some NotRising)) (Some BadHeight))
        (Some BadNumber)) later ≡ None
        → (later ≡ None → IsTrue rising) → IsTrue (above && rising)
    by_tests true true true later e rest = rest e
    by_tests true true false later e rest = absurd cc
    by_tests true false above later e rest = absurd cc
    by_tests false height above later e rest = absurd cc

-- members that fit and rise have no fault
pub rising_no_fault : (low : ℕ) (ms : List Member) → EachFits ms → IsTrue (rises_above low (member_values ms))
    → first_fault low ms ≡ None
rising_no_fault low [] fit rise = refl
rising_no_fault low (m ∷ ms) fit rise =
    by_tests (is_node m.node) (is_height m.height) (nat_lt low m.node) fit.0.0.1 fit.0.1.1.1.1 rise
    (rising_no_fault m.node ms fit.1)
  where
    by_tests : (node height above : Bool) {later : Option RosterFault} {rising : Bool} → IsTrue node
        → IsTrue height → IsTrue (above && rising)
        → (IsTrue rising → later ≡ None)
        → first_of (cond node (cond height (cond above None (Some NotRising)) (Some BadHeight))
        (Some BadNumber)) later ≡ None
    by_tests true true true n h r rest = rest r
    by_tests true true false n h r rest = absurd cc
    by_tests true false above n h r rest = absurd cc
    by_tests false height above n h r rest = absurd cc
