-- What was begun shares no key, and what is chosen comes after it.
use Rattle.std.proofs.Common.{◌≡◌, ◌==◌, ◌<◌, ◌≤◌, ◌+◌, ◌++◌, ℕ, suc, Bool, true, false, ◌&&◌, ◌||◌, not}
use Rattle.std.proofs.Common.{nat_lt, max, List, []}
use Rattle.std.proofs.Common.{◌∷◌, Option, Some, None, IfSome, if◌then◌else◌, ◌⊎◌, inl, inr, refl, sym}
use Rattle.std.proofs.Common.{subst, ◌∙◌, arith, rules}
use Rattle.std.specs.List.{AllByRecursion, Contains, list_all, list_any}
use Rattle.std.specs.Str.{bytes_eq}
use Rattle.std.proofs.lemmas.Bool.{and_parts, cases_lt}
use Rattle.std.proofs.lemmas.Bool.Decides.{nat_tests}
use Rattle.host_keys.specs.Beginnings.{IsBegun, ShareNoKey, may_follow, number_begun}
use Rattle.host_keys.specs.Spent.{AreSpent, IsFresh, MayBegin, UseNoKeyTwice, fault_after, fault_after_node}
use Rattle.host_keys.specs.Spent.{fault_after_run, first_fault}
use Rattle.host_keys.specs.Spent.{RefusesLife, first_of, follow, greatest, has_begun, is_begun, is_nearer}
use Rattle.host_keys.specs.Spent.{least_from}
use Rattle.host_keys.specs.declared.begun.Begun.{Begun}
use Rattle.host_keys.specs.declared.begun.Begun.TheVariants.{Node, Run}
use Rattle.host_keys.specs.declared.choice.EpochRoster.{EpochRoster}
use Rattle.host_keys.specs.declared.choice.LifeFault.{LifeFault}
use Rattle.host_keys.specs.declared.choice.LifeFault.TheVariants.{NoneLeft, OtherRoster, Over, TakenByRun}

pub some_none : {X : Type 0} {x : X} → Some x ≡ None → ⊥
some_none h = cc

pub same_some : {X : Type 0} {x y : X} → Some x ≡ Some y → x ≡ y
same_some h = cc

pub true_false : true ≡ false → ⊥
true_false h = cc

-- two tests that hold
both : {a b : Bool} → a ≡ true → b ≡ true → (a && b) ≡ true
both h i = rw (h, i) refl

max_right : (m n : ℕ) → n ≤ max m n
max_right m n = search rules

-- ---- keys

-- of two where one may be begun after the other no key is used twice
pub follow_shares_none : (a b : Begun) → may_follow a b ≡ true → ShareNoKey a b
follow_shares_none (Node e n r) (Node e' n' r') h node epoch u v =
    let same_epoch : e ≡ e' = u.1 ∙ sym v.1 in
    let same_node : n ≡ n' = u.0 ∙ sym v.0 in grind (arith, nat_tests)
follow_shares_none (Node e n r) (Run run) h node epoch u v =
    let same : e ≡ run = u.1 ∙ sym v in grind (arith, nat_tests)
follow_shares_none (Run run) (Node e n r) h node epoch u v =
    let same : run ≡ e = u ∙ sym v.1 in grind (arith, nat_tests)
follow_shares_none (Run run) (Run run') h node epoch u v =
    let same : run ≡ run' = u ∙ sym v in grind (arith, nat_tests)

-- what may be begun is fresh
pub fresh : (bs : List Begun) (b : Begun) → list_all (λ a. may_follow a b) bs ≡ true → IsFresh bs b
fresh [] b h = tt
fresh (a ∷ bs) b h =
    let parts = and_parts (may_follow a b) (list_all (λ x. may_follow x b) bs) h in
    (follow_shares_none a b parts.0, fresh bs b parts.1)

later_share_none : (b : Begun) (bs : List Begun) → list_all (λ later. may_follow b later) bs ≡ true
    → AllByRecursion (ShareNoKey b) bs
later_share_none b [] h = tt
later_share_none b (a ∷ bs) h =
    let parts = and_parts (may_follow b a) (list_all (λ x. may_follow b x) bs) h in
    (follow_shares_none b a parts.0, later_share_none b bs parts.1)

-- no key is used twice
pub no_key_twice : (bs : List Begun) → follow bs ≡ true → UseNoKeyTwice bs
no_key_twice [] h = tt
no_key_twice (b ∷ bs) h =
    let parts = and_parts (list_all (λ later. may_follow b later) bs) (follow bs) h in
    (later_share_none b bs parts.0, no_key_twice bs parts.1)

-- ---- one more

each_of_more : (bs : List Begun) (b : Begun) → AllByRecursion IsBegun bs → IsBegun b
    → AllByRecursion IsBegun (bs ++ (b ∷ []))
each_of_more [] b h is = (is, tt)
each_of_more (a ∷ bs) b h is = (h.0, each_of_more bs b h.1 is)

all_of_more : (a : Begun) (bs : List Begun) (b : Begun) → list_all (λ later. may_follow a later) bs ≡ true
    → may_follow a b ≡ true → list_all (λ later. may_follow a later) (bs ++ (b ∷ [])) ≡ true
all_of_more a [] b h m = grind (arith, nat_tests)
all_of_more a (x ∷ bs) b h m =
    let parts = and_parts (may_follow a x) (list_all (λ later. may_follow a later) bs) h in
    let more = all_of_more a bs b parts.1 m in both parts.0 more

follow_of_more : (bs : List Begun) (b : Begun) → follow bs ≡ true → list_all (λ a. may_follow a b) bs ≡ true
    → follow (bs ++ (b ∷ [])) ≡ true
follow_of_more [] b h m = refl
follow_of_more (a ∷ bs) b h m =
    let parts = and_parts (list_all (λ later. may_follow a later) bs) (follow bs) h in
    let ends = and_parts (may_follow a b) (list_all (λ x. may_follow x b) bs) m in
    both (all_of_more a bs b parts.0 ends.0) (follow_of_more bs b parts.1 ends.1)

-- what may be begun may stand after what was begun
pub one_more : (bs : List Begun) (b : Begun) → AreSpent bs → MayBegin bs b → AreSpent (bs ++ (b ∷ []))
one_more bs b h may = record {
  each = each_of_more bs b h.each may.is;
  in_order = follow_of_more bs b h.in_order may.after;
}

-- ---- what comes after all

-- one of a greater number than all may be begun after each
pub after_all : (bs : List Begun) (b : Begun) → greatest bs < number_begun b
    → list_all (λ a. may_follow a b) bs ≡ true
after_all [] b h = refl
after_all (a ∷ bs) b h =
    both (grind (arith, nat_tests)) (after_all bs b (omega (arith, max_right (number_begun a) (greatest bs))))

beside_run : (epoch run : ℕ) → fault_after_run epoch run ≡ None → nat_lt run epoch ≡ true
beside_run epoch run h = tested (nat_lt epoch run) (epoch == run) refl refl h
  where
    tested : (more same : Bool) → nat_lt epoch run ≡ more → (epoch == run) ≡ same
        → (if more then Some Over else if same then Some TakenByRun else None) ≡ None
        → nat_lt run epoch ≡ true
    tested true same m s h = absurd (some_none h)
    tested false true m s h = absurd (some_none h)
    tested false false m s h = grind (arith, nat_tests)

beside_node : (r : EpochRoster) (node epoch n : ℕ) (digest : List ℕ) → fault_after_node r epoch digest ≡ None
    → is_begun r.epoch node (Node epoch n digest) ≡ false
    → may_follow (Node epoch n digest) (Node r.epoch node r.digest) ≡ true
beside_node r node epoch n digest h i =
    tested (nat_lt r.epoch epoch) (r.epoch == epoch) (bytes_eq digest r.digest) refl refl refl h
  where
    tested : (more same equal : Bool) → nat_lt r.epoch epoch ≡ more → (r.epoch == epoch) ≡ same
        → bytes_eq digest r.digest ≡ equal
        → (if more then Some Over else if (same && not equal) then Some OtherRoster else None) ≡ None
        → may_follow (Node epoch n digest) (Node r.epoch node r.digest) ≡ true
    tested true same equal m s e h = absurd (some_none h)
    tested false true false m s e h = absurd (some_none h)
    tested false true true m s e h = grind (arith, nat_tests)
    tested false false equal m s e h = grind (arith, nat_tests)

-- another node of an epoch that isn't over may be begun after one
beside : (r : EpochRoster) (node : ℕ) (a : Begun) → fault_after r a ≡ None → is_begun r.epoch node a ≡ false
    → may_follow a (Node r.epoch node r.digest) ≡ true
beside r node (Run run) h i = rw (beside_run r.epoch run h) refl
beside r node (Node e n d) h i = beside_node r node e n d h i

neither_fault : (x y : Option LifeFault) → first_of x y ≡ None → (x ≡ None) × (y ≡ None)
neither_fault (Some f) y h = absurd (some_none h)
neither_fault None y h = (refl, h)

neither : (x y : Bool) → (x || y) ≡ false → (x ≡ false) × (y ≡ false)
neither true y h = absurd (true_false h)
neither false y h = (refl, h)

-- and so after all of them
pub beside_all : (r : EpochRoster) (node : ℕ) (bs : List Begun) → first_fault r bs ≡ None
    → has_begun bs r.epoch node ≡ false → list_all (λ a. may_follow a (Node r.epoch node r.digest)) bs ≡ true
beside_all r node [] h i = refl
beside_all r node (a ∷ bs) h i =
    let faults = neither_fault (fault_after r a) (first_fault r bs) h in
    let tests = neither (is_begun r.epoch node a) (list_any (is_begun r.epoch node) bs) i in
    both (beside r node a faults.0 tests.0) (beside_all r node bs faults.1 tests.1)

-- ---- the nearest roster

-- a roster is among others, by their places
here : (r : EpochRoster) (rs : List EpochRoster) → Contains (r ∷ rs) r
here r rs = (0, omega arith, refl)

there : (s r : EpochRoster) (rs : List EpochRoster) → Contains rs r → Contains (s ∷ rs) r
there s r rs h = (suc h.0, omega arith, h.2)

nearer_after : (n : ℕ) (s : EpochRoster) (best : Option EpochRoster) → is_nearer n s best ≡ true → n < s.epoch
nearer_after n s None h = grind (arith, nat_tests)
nearer_after n s (Some o) h =
    let parts = and_parts (nat_lt n s.epoch) (nat_lt s.epoch o.epoch) h in grind (arith, nat_tests)

nearer_before : (n m : ℕ) (s : EpochRoster) (best : Option EpochRoster) → is_nearer n s best ≡ true
    → m ≤ s.epoch
    → IfSome best (λ b. m ≤ b.epoch)
nearer_before n m s None h below = tt
nearer_before n m s (Some o) h below =
    let parts = and_parts (nat_lt n s.epoch) (nat_lt s.epoch o.epoch) h in grind (arith, nat_tests)

not_nearer : (n m : ℕ) (s : EpochRoster) (best : Option EpochRoster) → is_nearer n s best ≡ false
    → IfSome best (λ b. m ≤ b.epoch) → n < s.epoch → m ≤ s.epoch
not_nearer n m s None h below after = absurd (let bad : nat_lt n s.epoch
    ≡ true = grind (arith, nat_tests) in true_false (sym bad ∙ h))
not_nearer n m s (Some o) h below after = grind (arith, nat_tests)

-- what the nearest of rosters and another one is: that one or one of them, after the number, and no later
-- than any
-- that is after the number
pub record IsLeast (n : ℕ) (best : Option EpochRoster) (rs : List EpochRoster)
    (r : EpochRoster) : Type 0 where
  pub known : (best ≡ Some r) ⊎ Contains rs r
  pub after : n < r.epoch
  pub other : IfSome best (λ b. r.epoch ≤ b.epoch)
  pub least : AllByRecursion (λ s. n < s.epoch → r.epoch ≤ s.epoch) rs

known_later : (s r : EpochRoster) (best : Option EpochRoster) (rs : List EpochRoster)
    → (best ≡ Some r) ⊎ Contains rs r → (best ≡ Some r) ⊎ Contains (s ∷ rs) r
known_later s r best rs (inl e) = inl e
known_later s r best rs (inr h) = inr (there s r rs h)

known_here : (s r : EpochRoster) (best : Option EpochRoster) (rs : List EpochRoster)
    → (Some s ≡ Some r) ⊎ Contains rs r → (best ≡ Some r) ⊎ Contains (s ∷ rs) r
known_here s r best rs (inl e) = inr (subst (λ x. Contains (x ∷ rs) r) (same_some (sym e)) (here r rs))
known_here s r best rs (inr h) = inr (there s r rs h)

best_after : (n : ℕ) (best : Option EpochRoster) (r : EpochRoster) → IfSome best (λ b. n < b.epoch)
    → best ≡ Some r
    → n < r.epoch
best_after n None r h e = absurd (some_none (sym e))
best_after n (Some b) r h e = subst (λ x. n < x.epoch) (same_some e) h

best_best : (best : Option EpochRoster) (r : EpochRoster) → best ≡ Some r
    → IfSome best (λ b. r.epoch ≤ b.epoch)
best_best None r e = tt
best_best (Some b) r e = subst (λ x. r.epoch ≤ x.epoch) (same_some (sym e)) (omega arith)

-- one roster more before others
least_step : (n : ℕ) (best : Option EpochRoster) (s : EpochRoster) (rs : List EpochRoster) (r : EpochRoster)
    → IfSome best (λ b. n < b.epoch)
    → ((other : Option EpochRoster) → IfSome other (λ b. n < b.epoch) → least_from n other rs ≡ Some r
    → IsLeast n other rs r)
    → (t : Bool) → is_nearer n s best ≡ t → least_from n (if t then Some s else best) rs ≡ Some r
    → IsLeast n best (s ∷ rs) r
least_step n best s rs r h rest true t e =
    let is = rest (Some s) (nearer_after n s best t) e in record {
      known = known_here s r best rs is.known;
      after = is.after;
      other = nearer_before n r.epoch s best t is.other;
      least = (λ _. is.other, is.least);
    }
least_step n best s rs r h rest false t e =
    let is = rest best h e in record {
      known = known_later s r best rs is.known;
      after = is.after;
      other = is.other;
      least = (not_nearer n r.epoch s best t is.other, is.least);
    }

pub least_from_is : (n : ℕ) (best : Option EpochRoster) (rs : List EpochRoster) (r : EpochRoster)
    → IfSome best (λ b. n < b.epoch) → least_from n best rs ≡ Some r → IsLeast n best rs r
least_from_is n best [] r h e = record {
  known = inl e;
  after = best_after n best r h e;
  other = best_best best r e;
  least = tt;
}
least_from_is n best (s ∷ rs) r h e =
    least_step n best s rs r h (λ other i f. least_from_is n other rs r i f) (is_nearer n s best) refl e

none_near : (n : ℕ) (s : EpochRoster) (best : Option EpochRoster) → best ≡ None → is_nearer n s best ≡ false
    → s.epoch ≤ n
none_near n s None e h = grind (arith, nat_tests)
none_near n s (Some o) e h = absurd (some_none e)

none_step : (n : ℕ) (best : Option EpochRoster) (s : EpochRoster) (rs : List EpochRoster)
    → ((other : Option EpochRoster) → least_from n other rs ≡ None
    → (other ≡ None) × AllByRecursion (λ x. x.epoch ≤ n) rs)
    → (t : Bool) → is_nearer n s best ≡ t → least_from n (if t then Some s else best) rs ≡ None
    → (best ≡ None) × AllByRecursion (λ x. x.epoch ≤ n) (s ∷ rs)
none_step n best s rs rest true t e = absurd (some_none (rest (Some s) e).0)
none_step n best s rs rest false t e = let is = rest best e in (is.0, (none_near n s best is.0 t, is.1))

pub none_from : (n : ℕ) (best : Option EpochRoster) (rs : List EpochRoster) → least_from n best rs ≡ None
    → (best ≡ None) × AllByRecursion (λ s. s.epoch ≤ n) rs
none_from n best [] e = (e, tt)
none_from n best (s ∷ rs) e =
    none_step n best s rs (λ other f. none_from n other rs f) (is_nearer n s best) refl e

-- ---- what the functions say of them

pub nearest_known : (n : ℕ) (rs : List EpochRoster) (r : EpochRoster) → IsLeast n None rs r → Contains rs r
nearest_known n rs r is = not_none r rs is.known
  where
    not_none : (r : EpochRoster) (rs : List EpochRoster) → (None ≡ Some r) ⊎ Contains rs r → Contains rs r
    not_none r rs (inl e) = absurd (some_none (sym e))
    not_none r rs (inr h) = h

-- what holds of each number below one, and of that one
pub up_to : (P : ℕ → Type 0) (first n : ℕ) → ((k : ℕ) → first ≤ k → k < n → P k) → P n
    → (k : ℕ) → first ≤ k → k < n + 1 → P k
up_to P first n each here k low below = elim (cases_lt k n) [
  | inl less ↦ each k low less
  | inr more ↦ subst P (let same : n ≡ k = omega arith in same) here
]

pub none_if : {X : Type 0} (o : Option X) → ((x : X) → o ≡ Some x → ⊥) → o ≡ None
none_if None h = refl
none_if (Some x) h = absurd (h x refl)

not_left : (t u : Bool) (x : LifeFault) → (x ≡ NoneLeft → ⊥)
    → (if t then Some Over else if u then Some x else None) ≡ Some NoneLeft → ⊥
not_left true u x other h = cc
not_left false true x other h = other (same_some h)
not_left false false x other h = some_none (sym h)

fault_is_other : (r : EpochRoster) (b : Begun) → fault_after r b ≡ Some NoneLeft → ⊥
fault_is_other r (Run run) h = not_left (nat_lt r.epoch run) (r.epoch == run) TakenByRun (λ e. cc) h
fault_is_other r (Node e n d) h =
    not_left (nat_lt r.epoch e) ((r.epoch == e) && not (bytes_eq d r.digest)) OtherRoster (λ e. cc) h

first_is_other : (x y : Option LifeFault) → (x ≡ Some NoneLeft → ⊥) → (y ≡ Some NoneLeft → ⊥)
    → first_of x y ≡ Some NoneLeft → ⊥
first_is_other (Some f) y h i e = h e
first_is_other None y h i e = i e

none_left_is_none : (r : EpochRoster) (bs : List Begun) → first_fault r bs ≡ Some NoneLeft → ⊥
none_left_is_none r [] h = some_none (sym h)
none_left_is_none r (b ∷ bs) h =
    first_is_other (fault_after r b) (first_fault r bs) (fault_is_other r b) (none_left_is_none r bs) h

-- the first fault refuses
pub refuses : (bs : List Begun) (first last : ℕ) (r : EpochRoster) (f : LifeFault) → first_fault r bs ≡ Some f
    → RefusesLife bs first last r f
refuses bs first last r NoneLeft h = absurd (none_left_is_none r bs h)
refuses bs first last r Over h = h
refuses bs first last r TakenByRun h = h
refuses bs first last r OtherRoster h = h

-- the roster that was found is the nearest after all that were begun
pub next_is : (bs : List Begun) (rs : List EpochRoster) (n : ℕ) (found : Option EpochRoster) (r : EpochRoster)
    → n ≡ greatest bs → found ≡ least_from n None rs → found ≡ Some r → IsLeast (greatest bs) None rs r
next_is bs rs n found r same is some =
    least_from_is (greatest bs) None rs r tt
    (subst (λ m. least_from m None rs ≡ Some r) same (sym is ∙ some))

-- one of a greater number may be begun
pub may_begin : (bs : List Begun) (b : Begun) → IsBegun b → greatest bs < number_begun b → MayBegin bs b
may_begin bs b is below = record { is = is; after = after_all bs b below }

-- and a node beside others
pub may_begin_beside : (bs : List Begun) (r : EpochRoster) (node : ℕ) (b : Begun)
    → b ≡ Node r.epoch node r.digest
    → IsBegun b → first_fault r bs ≡ None → has_begun bs r.epoch node ≡ false → MayBegin bs b
may_begin_beside bs r node b same is fault free = record {
  is = is;
  after = subst (λ x. list_all (λ a. may_follow a x) bs ≡ true) (sym same) (beside_all r node bs fault free);
}
