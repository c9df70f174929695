-- Member lines make rosters, and their epochs are found by rising numbers.
use Rattle.std.proofs.Common.{◌≡◌, ◌==◌, ◌<◌, ◌≤◌, ◌+◌, ◌-◌, ◌++◌, ℕ, zero, suc, Bool, true, false, ◌&&◌}
use Rattle.std.proofs.Common.{◌||◌, nat_lt, List, []}
use Rattle.std.proofs.Common.{◌∷◌, Option, Some, None, IfSome, IfNone, if◌then◌else◌, ◌⊎◌, inl, inr, IsTrue}
use Rattle.std.proofs.Common.{refl, sym, ap, subst}
use Rattle.std.proofs.Common.{◌∙◌, arith, rules, length, length-append, append-nil, option_to_list}
use Rattle.std.proofs.Common.{MatchResult, IsOk, Result, Ok, Err}
use Rattle.std.specs.List.{AllByRecursion, list_any}
use Rattle.std.proofs.lemmas.Bool.{and_parts, eqb-true, cases_lt}
use Rattle.std.proofs.lemmas.Bool.Decides.{nat_tests}
use Rattle.authenticator.specs.Roster.{first_fault, first_of, is_height, is_node, member_fault, roster_fault}
use Rattle.authenticator.specs.declared.member.Member.{Member}
use Rattle.authenticator.specs.declared.member.TheConstants.{MAX_NODE}
use Rattle.authenticator.specs.declared.refusal.RosterFault.{RosterFault}
use Rattle.merkle_keys.specs.declared.signature.TheConstants.{MAX_HEIGHT}
use Rattle.host_keys.specs.Lines.{IsWithin}
use Rattle.host_keys.specs.Members.{IsMemberLine}
use Rattle.host_keys.specs.Rosters.{HasEpoch, IsIn, epoch_from, has_node, is_nearer, member_at, members_of}
use Rattle.host_keys.specs.Rosters.{members_to}
use Rattle.host_keys.specs.declared.member_line.MemberLine.{MemberLine}
use Rattle.host_keys.proofs.SpentLaws.{same_some, some_none, true_false}

-- ---- the nearest epoch

or_left : (a b : Bool) → a ≡ true → IsTrue (a || b)
or_left a b h = rw h (search rules)

or_right : (a b : Bool) → IsTrue b → IsTrue (a || b)
or_right true b h = search rules
or_right false b h = h

here : (l : MemberLine) (ls : List MemberLine) → HasEpoch (l ∷ ls) l.epoch
here l ls = or_left (l.epoch == l.epoch) (list_any (λ x. x.epoch == l.epoch) ls) (search rules)

there : (l : MemberLine) (ls : List MemberLine) (e : ℕ) → HasEpoch ls e → HasEpoch (l ∷ ls) e
there l ls e h = or_right (l.epoch == e) (list_any (λ x. x.epoch == e) ls) h

nearer_after : (n e : ℕ) (best : Option ℕ) → is_nearer n e best ≡ true → n < e
nearer_after n e None h = grind (arith, nat_tests)
nearer_after n e (Some o) h = let parts = and_parts (nat_lt n e) (nat_lt e o) h in grind (arith, nat_tests)

nearer_before : (n m e : ℕ) (best : Option ℕ) → is_nearer n e best ≡ true → m ≤ e → IfSome best (λ b. m ≤ b)
nearer_before n m e None h below = tt
nearer_before n m e (Some o) h below =
    let parts = and_parts (nat_lt n e) (nat_lt e o) h in grind (arith, nat_tests)

not_nearer : (n m e : ℕ) (best : Option ℕ) → is_nearer n e best ≡ false → IfSome best (λ b. m ≤ b)
    → n < e → m ≤ e
not_nearer n m e None h below after =
    absurd (let bad : nat_lt n e ≡ true = grind (arith, nat_tests) in true_false (sym bad ∙ h))
not_nearer n m e (Some o) h below after = grind (arith, nat_tests)

-- what the nearest epoch of lines and another one is
pub record IsNearest (n : ℕ) (best : Option ℕ) (ls : List MemberLine) (e : ℕ) : Type 0 where
  pub known : (best ≡ Some e) ⊎ HasEpoch ls e
  pub after : n < e
  pub other : IfSome best (λ b. e ≤ b)
  pub least : AllByRecursion (λ l. n < l.epoch → e ≤ l.epoch) ls

known_later : (l : MemberLine) (e : ℕ) (best : Option ℕ) (ls : List MemberLine)
    → (best ≡ Some e) ⊎ HasEpoch ls e → (best ≡ Some e) ⊎ HasEpoch (l ∷ ls) e
known_later l e best ls (inl h) = inl h
known_later l e best ls (inr h) = inr (there l ls e h)

known_here : (l : MemberLine) (e : ℕ) (best : Option ℕ) (ls : List MemberLine)
    → (Some l.epoch ≡ Some e) ⊎ HasEpoch ls e → (best ≡ Some e) ⊎ HasEpoch (l ∷ ls) e
known_here l e best ls (inl h) = inr (subst (HasEpoch (l ∷ ls)) (same_some h) (here l ls))
known_here l e best ls (inr h) = inr (there l ls e h)

best_after : (n : ℕ) (best : Option ℕ) (e : ℕ) → IfSome best (λ b. n < b) → best ≡ Some e → n < e
best_after n None e h i = absurd (some_none (sym i))
best_after n (Some b) e h i = subst (λ x. n < x) (same_some i) h

best_best : (best : Option ℕ) (e : ℕ) → best ≡ Some e → IfSome best (λ b. e ≤ b)
best_best None e i = tt
best_best (Some b) e i = let same : b ≡ e = same_some i in omega arith

nearest_step : (n : ℕ) (best : Option ℕ) (l : MemberLine) (ls : List MemberLine) (e : ℕ)
    → IfSome best (λ b. n < b)
    → ((other : Option ℕ) → IfSome other (λ b. n < b) → epoch_from n other ls ≡ Some e
    → IsNearest n other ls e)
    → (t : Bool) → is_nearer n l.epoch best ≡ t → epoch_from n (if t then Some l.epoch else best) ls ≡ Some e
    → IsNearest n best (l ∷ ls) e
nearest_step n best l ls e h rest true t i =
    let is = rest (Some l.epoch) (nearer_after n l.epoch best t) i in record {
      known = known_here l e best ls is.known;
      after = is.after;
      other = nearer_before n e l.epoch best t is.other;
      least = (λ _. is.other, is.least);
    }
nearest_step n best l ls e h rest false t i =
    let is = rest best h i in record {
      known = known_later l e best ls is.known;
      after = is.after;
      other = is.other;
      least = (not_nearer n e l.epoch best t is.other, is.least);
    }

pub epoch_from_is : (n : ℕ) (best : Option ℕ) (ls : List MemberLine) (e : ℕ) → IfSome best (λ b. n < b)
    → epoch_from n best ls ≡ Some e → IsNearest n best ls e
epoch_from_is n best [] e h i = record {
  known = inl i;
  after = best_after n best e h i;
  other = best_best best e i;
  least = tt;
}
epoch_from_is n best (l ∷ ls) e h i =
    nearest_step n best l ls e h (λ other j f. epoch_from_is n other ls e j f)
    (is_nearer n l.epoch best) refl i

none_near : (n e : ℕ) (best : Option ℕ) → best ≡ None → is_nearer n e best ≡ false → e ≤ n
none_near n e None i h = grind (arith, nat_tests)
none_near n e (Some o) i h = absurd (some_none i)

none_step : (n : ℕ) (best : Option ℕ) (l : MemberLine) (ls : List MemberLine)
    → ((other : Option ℕ) → epoch_from n other ls ≡ None
    → (other ≡ None) × AllByRecursion (λ x. x.epoch ≤ n) ls)
    → (t : Bool) → is_nearer n l.epoch best ≡ t → epoch_from n (if t then Some l.epoch else best) ls ≡ None
    → (best ≡ None) × AllByRecursion (λ x. x.epoch ≤ n) (l ∷ ls)
none_step n best l ls rest true t i = absurd (some_none (rest (Some l.epoch) i).0)
none_step n best l ls rest false t i = let is = rest best i in (is.0, (none_near n l.epoch best is.0 t, is.1))

pub none_from : (n : ℕ) (best : Option ℕ) (ls : List MemberLine) → epoch_from n best ls ≡ None
    → (best ≡ None) × AllByRecursion (λ x. x.epoch ≤ n) ls
none_from n best [] i = (i, tt)
none_from n best (l ∷ ls) i =
    none_step n best l ls (λ other f. none_from n other ls f) (is_nearer n l.epoch best) refl i

-- what the answer of a search says
pub found_epoch : (n : ℕ) (ls : List MemberLine) (r : Option ℕ) → r ≡ epoch_from n None ls
    → IfSome r (IsNearest n None ls)
found_epoch n ls None h = tt
found_epoch n ls (Some e) h = epoch_from_is n None ls e tt (sym h)

pub found_none : (n : ℕ) (ls : List MemberLine) (r : Option ℕ) → r ≡ epoch_from n None ls
    → IfNone r (AllByRecursion (λ l. l.epoch ≤ n) ls)
found_none n ls None h = (none_from n None ls (sym h)).1
found_none n ls (Some e) h = tt

pub nearest_known : (n : ℕ) (ls : List MemberLine) (e : ℕ) → IsNearest n None ls e → HasEpoch ls e
nearest_known n ls e is = known e ls is.known
  where
    known : (e : ℕ) (ls : List MemberLine) → (None ≡ Some e) ⊎ HasEpoch ls e → HasEpoch ls e
    known e ls (inl h) = absurd (some_none (sym h))
    known e ls (inr h) = h

-- ---- which numbers are there

-- a number that a line says is a node's
pub node_within : (ls : List MemberLine) (n : ℕ) → AllByRecursion IsMemberLine ls → has_node ls n ≡ true
    → IsWithin 1 MAX_NODE n
node_within [] n h has = absurd (true_false (sym has))
node_within (l ∷ ls) n h has = tested (l.member.node == n) refl has (node_within ls n h.1)
  where
    tested : (t : Bool) → (l.member.node == n) ≡ t → (t || has_node ls n) ≡ true
        → (has_node ls n ≡ true → IsWithin 1 MAX_NODE n) → IsWithin 1 MAX_NODE n
    tested true t has rest = subst (IsWithin 1 MAX_NODE) (eqb-true l.member.node n t) h.0.node
    tested false t has rest = rest has

-- all epochs up to the next one are complete
pub complete_to : (all ls : List MemberLine) (low next : ℕ)
    → AllByRecursion (λ l. l.epoch ≤ low → (node : ℕ) → IsIn all l.epoch node) ls
    → AllByRecursion (λ l. low < l.epoch → next ≤ l.epoch) ls → ((node : ℕ) → IsIn all next node)
    → AllByRecursion (λ l. l.epoch ≤ next → (node : ℕ) → IsIn all l.epoch node) ls
complete_to all [] low next h least here = tt
complete_to all (l ∷ ls) low next h least here = (
  λ below. elim (cases_lt low l.epoch) [
    | inl after ↦ subst (λ e. (node : ℕ)
        → IsIn all e node) (let same : next ≡ l.epoch = omega (arith, least.0 after) in same) here
    | inr before ↦ h.0 before
  ],
  complete_to all ls low next h.1 least.1 here,
)

pub complete_all : (all ls : List MemberLine) (low : ℕ)
    → AllByRecursion (λ l. l.epoch ≤ low → (node : ℕ) → IsIn all l.epoch node) ls
    → AllByRecursion (λ l. l.epoch ≤ low) ls → AllByRecursion (λ l. (node : ℕ) → IsIn all l.epoch node) ls
complete_all all [] low h below = tt
complete_all all (l ∷ ls) low h below = (h.0 below.0, complete_all all ls low h.1 below.1)

-- ---- rosters

-- none has a number up to 0
pub members_none : (ls : List MemberLine) (e : ℕ) → members_to ls e 0 ≡ []
unfolding members_to
members_none ls e = refl

-- one number more
pub members_more : (ls : List MemberLine) (e n : ℕ) → 1 ≤ n
    → members_to ls e ((n + 1) - 1) ≡ members_to ls e (n - 1) ++ option_to_list (member_at ls e n)
unfolding members_to
members_more ls e zero h = absurd (omega arith)
members_more ls e (suc k) h =
    ap (members_to ls e) (let same : (suc k + 1) - 1 ≡ suc k = omega arith in same)
    ∙ ap (λ m. members_to ls e m ++ option_to_list (member_at ls e (suc k))) (let same : k
    ≡ suc k - 1 = omega arith in same)

-- the member that a line says has the number, and a height of a roster's member
pub member_at_is : (ls : List MemberLine) (e n : ℕ) (m : Member) → AllByRecursion IsMemberLine ls
    → member_at ls e n ≡ Some m → (m.node ≡ n) × IsWithin 1 MAX_HEIGHT m.height
member_at_is [] e n m h i = absurd (some_none (sym i))
member_at_is (l ∷ ls) e n m h i = tested ((l.epoch == e) && (l.member.node == n)) refl i
    (member_at_is ls e n m h.1)
  where
    tested : (t : Bool) → ((l.epoch == e) && (l.member.node == n)) ≡ t
        → (if t then Some l.member else member_at ls e n) ≡ Some m
        → (member_at ls e n ≡ Some m → (m.node ≡ n) × IsWithin 1 MAX_HEIGHT m.height)
        → (m.node ≡ n) × IsWithin 1 MAX_HEIGHT m.height
    tested true t j rest =
        let same : l.member ≡ m = same_some j in
        let parts = and_parts (l.epoch == e) (l.member.node == n) t in
        subst (λ x. (x.node ≡ n) × IsWithin 1 MAX_HEIGHT x.height) same
        (eqb-true l.member.node n parts.1, h.0.height)
    tested false t j rest = rest j

-- members whose numbers rise up to one
pub record RiseTo (most : ℕ) (ms : List Member) : Type 0 where
  pub rise : first_fault 0 ms ≡ None
  pub each : AllByRecursion (λ m. m.node ≤ most) ms
  pub few : length ms ≤ most

each_weaker : (n : ℕ) (ms : List Member) → AllByRecursion (λ m. m.node ≤ n) ms
    → AllByRecursion (λ m. m.node ≤ suc n) ms
each_weaker n [] h = tt
each_weaker n (m ∷ ms) h = (let more : m.node ≤ suc n = omega (arith, h.0) in more, each_weaker n ms h.1)

each_more : (n : ℕ) (ms : List Member) (m : Member) → AllByRecursion (λ x. x.node ≤ n) ms → m.node ≤ n
    → AllByRecursion (λ x. x.node ≤ n) (ms ++ (m ∷ []))
each_more n [] m h i = (i, tt)
each_more n (x ∷ ms) m h i = (h.0, each_more n ms m h.1 i)

no_fault : (low : ℕ) (m : Member) → low < m.node → m.node ≤ MAX_NODE → IsWithin 1 MAX_HEIGHT m.height
    → member_fault low m ≡ None
no_fault low m after below height =
    let node : is_node m.node ≡ true = grind (arith, nat_tests) in
    let tall : is_height m.height ≡ true = grind (arith, nat_tests) in
    let rises : nat_lt low m.node ≡ true = grind (arith, nat_tests) in rw (node, tall, rises) refl

faults_of : (x y : Option RosterFault) → first_of x y ≡ None → (x ≡ None) × (y ≡ None)
faults_of None y h = (refl, h)
faults_of (Some f) y h = absurd (some_none h)

rise_more : (low n : ℕ) (ms : List Member) (m : Member) → first_fault low ms ≡ None
    → AllByRecursion (λ x. x.node ≤ n) ms → low ≤ n → m.node ≡ suc n → suc n ≤ MAX_NODE
    → IsWithin 1 MAX_HEIGHT m.height → first_fault low (ms ++ (m ∷ [])) ≡ None
rise_more low n [] m h each below is most height =
    rw (no_fault low m (omega arith) (omega arith) height) refl
rise_more low n (x ∷ ms) m h each below is most height =
    let parts = faults_of (member_fault low x) (first_fault x.node ms) h in
    rw (parts.0, rise_more x.node n ms m parts.1 each.1 each.0 is most height) refl

rise_step : (ls : List MemberLine) (e n : ℕ) (ms : List Member) (o : Option Member)
    → AllByRecursion IsMemberLine ls
    → suc n ≤ MAX_NODE → member_at ls e (suc n) ≡ o → RiseTo n ms → RiseTo (suc n) (ms ++ option_to_list o)
rise_step ls e n ms None h most i is = rw append-nil (record {
  rise = is.rise;
  each = each_weaker n ms is.each;
  few = omega (arith, is.few);
})
rise_step ls e n ms (Some m) h most i is =
    let said = member_at_is ls e (suc n) m h i in record {
      rise = rise_more 0 n ms m is.rise is.each (omega arith) said.0 most said.1;
      each = each_more (suc n) ms m (each_weaker n ms is.each) (omega (arith, said.0));
      few = omega (arith, is.few, length-append {A = Member});
    }

members_rise : (ls : List MemberLine) (e most : ℕ) → AllByRecursion IsMemberLine ls → most ≤ MAX_NODE
    → RiseTo most (members_to ls e most)
unfolding members_to
members_rise ls e zero h m = record { rise = refl; each = tt; few = omega arith }
members_rise ls e (suc n) h m =
    rise_step ls e n (members_to ls e n) (member_at ls e (suc n)) h m refl (members_rise ls e n h
    (omega arith))

-- the members of an epoch are a roster
pub no_roster_fault : (ls : List MemberLine) (e : ℕ) → AllByRecursion IsMemberLine ls
    → roster_fault (members_of ls e) ≡ None
no_roster_fault ls e h =
    let is = members_rise ls e MAX_NODE h (omega arith) in
    let few : nat_lt 64 (length (members_of ls e))
    ≡ false = let size = is.few in grind (arith, nat_tests) in rw (few, is.rise) refl

-- so the roster is made
pub roster_is_made : {R : Type 0} (ms : List Member) (r : Result R RosterFault) → roster_fault ms ≡ None
    → MatchResult r (λ _. roster_fault ms ≡ None) (λ f. roster_fault ms ≡ Some f) → IsOk r
roster_is_made ms (Ok x) h m = search rules
roster_is_made ms (Err f) h m = absurd (some_none (sym m ∙ h))

-- no line is of epoch 0
pub none_before : (all ls : List MemberLine) → AllByRecursion IsMemberLine ls
    → AllByRecursion (λ l. l.epoch ≤ 0 → (node : ℕ) → IsIn all l.epoch node) ls
none_before all [] h = tt
none_before all (l ∷ ls) h = (λ below. absurd (let is = h.0.epoch in omega arith), none_before all ls h.1)
