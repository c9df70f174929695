-- What exposes a node, and that it stays exposed.
-- Serves: exposed_exactly_if, exposed_stays.
use Rattle.std.proofs.Common.{◌≡◌, ◌≢◌, ◌⊎◌, ◌↔◌, inl, inr, ℕ, Bool, true, false, cond, not, ◌==◌, List}
use Rattle.std.proofs.Common.{[], ◌∷◌, ◌++◌, Option, Some, None, refl, sym, ap, subst, ◌∙◌, eqb-true, eq-eqb}
use Rattle.std.proofs.Common.{append_assoc}
use Rattle.std.proofs.lemmas.Bool.{and_parts, and_from, or_cases, or_left, or_right, true≢false}
use Rattle.authenticator.specs.declared.member.Member.{Member}
use Rattle.witness_spec.specs.state_spec.State.{State}
use Rattle.authenticator.specs.Signing.{is_same}
use Rattle.witness_spec.specs.replay_spec.Placed.{places_in}
use Rattle.witness_spec.specs.replay_spec.Replay.{Honest, Verdict, Sound, Fault, verdict_of}
use Rattle.authenticator.proofs.Signed.{same_list, list_same}
use Rattle.witness_spec.proofs.replay_spec.Runs.{sound, is_sound}
use Rattle.secure_log.specs.LogEntries.Chain.{IsAmong}
use Rattle.secure_log.specs.Versioned.{VersionedParts}
use Rattle.witness_spec.specs.Events.{JobParts}
use Rattle.witness_spec.specs.Replies.{Reply, Challenge, Suspected, Exposed}
use Rattle.witness_spec.specs.Watched.{Watched}
use Rattle.witness_spec.specs.Steps.{Step, Past}
use Rattle.witness_spec.specs.Pairs.{Pair, differ, is_fork, has_fork}
use Rattle.witness_spec.specs.Done.{noted, accepted, filed}
use Rattle.witness_spec.specs.Standing.{end_of, is_fault, finds_fault, has_fault, pairs_noted, pairs_accepted}
use Rattle.witness_spec.specs.Standing.{shown}
use Rattle.witness_spec.specs.Standing.{is_exposed, open_challenges, without_evidence, indication}
use Rattle.witness_spec.specs.Histories.{History, own_one, own, own_of}
use Rattle.witness_spec.specs.Laws.{HasTwoHashes, IsFaultyFile, HasFaultyFile}

-- ---- forks

not_same : (x y : List ℕ) → not (is_same x y) ≡ true → x ≢ y
not_same x y h e = by (is_same x y) (list_same x y e) h
  where
    by : (b : Bool) → b ≡ true → not b ≡ true → ⊥
    by true e h = true≢false (sym h)
    by false e h = true≢false (sym e)

is_other : (x y : List ℕ) → x ≢ y → not (is_same x y) ≡ true
is_other x y h = by (is_same x y) refl
  where
    by : (b : Bool) → is_same x y ≡ b → not b ≡ true
    by true e = absurd (h (same_list x y e))
    by false e = refl

-- another hash at a pair's number is among pairs
record Other (p : Pair) (pairs : List Pair) : Type 0 where
  hash : List ℕ
  there : IsAmong (p.0, hash) pairs
  differs : p.1 ≢ hash

other_of : (p : Pair) (pairs : List Pair) → is_fork p pairs ≡ true → Other p pairs
other_of p [] h = absurd (true≢false (sym h))
other_of p (q ∷ pairs) h = by (or_cases (differ p q) (is_fork p pairs) h) (λ f. other_of p pairs f)
  where
    by : (differ p q ≡ true) ⊎ (is_fork p pairs ≡ true) → (is_fork p pairs ≡ true → Other p pairs)
        → Other p (q ∷ pairs)
    by (inl d) rest =
        let both = and_parts (p.0 == q.0) (not (is_same p.1 q.1)) d in
        record {
          hash = q.1;
          there = inl (ap (λ (n : ℕ). (n, q.1)) (eqb-true p.0 q.0 both.0));
          differs = not_same p.1 q.1 both.1;
        }
    by (inr f) rest =
        let g = rest f in record { hash = g.hash; there = inr g.there; differs = g.differs }

two_of : (pairs : List Pair) → has_fork pairs ≡ true → HasTwoHashes pairs
two_of [] h = absurd (true≢false (sym h))
two_of (p ∷ pairs) h = by (or_cases (is_fork p pairs) (has_fork pairs) h) (λ k. two_of pairs k)
  where
    by : (is_fork p pairs ≡ true) ⊎ (has_fork pairs ≡ true) → (has_fork pairs ≡ true → HasTwoHashes pairs)
        → HasTwoHashes (p ∷ pairs)
    by (inl f) rest =
        let g = other_of p pairs f in
        record {
          number = p.0;
          one = p.1;
          other = g.hash;
          one_shown = inl refl;
          other_shown = inr g.there;
          differ = g.differs;
        }
    by (inr k) rest =
        let g = rest k in
        record {
          number = g.number;
          one = g.one;
          other = g.other;
          one_shown = inr g.one_shown;
          other_shown = inr g.other_shown;
          differ = g.differ;
        }

-- a pair is a fork where another hash is shown at its number
pub fork_at : (n : ℕ) (x y : List ℕ) (pairs : List Pair) → x ≢ y → IsAmong (n, y) pairs
    → is_fork (n, x) pairs ≡ true
fork_at n x y [] h i = absurd i
fork_at n x y (q ∷ pairs) h (inl e) =
    or_left (differ (n, x) q) (is_fork (n, x) pairs)
    (subst (λ r. differ (n, x) r ≡ true) e
    (and_from (n == n) (not (is_same x y)) (eq-eqb n n refl) (is_other x y h)))
fork_at n x y (q ∷ pairs) h (inr i) =
    or_right (differ (n, x) q) (is_fork (n, x) pairs) (fork_at n x y pairs h i)

fork_of : (pairs : List Pair) (n : ℕ) (x y : List ℕ) → IsAmong (n, x) pairs → IsAmong (n, y) pairs → x ≢ y
    → has_fork pairs ≡ true
fork_of [] n x y i j h = absurd i
fork_of (p ∷ pairs) n x y (inl e) (inl f) h = absurd (h (ap (λ (q : Pair). q.1) (e ∙ sym f)))
fork_of (p ∷ pairs) n x y (inl e) (inr j) h =
    or_left (is_fork p pairs) (has_fork pairs)
    (subst (λ q. is_fork q pairs ≡ true) e (fork_at n x y pairs h j))
fork_of (p ∷ pairs) n x y (inr i) (inl f) h =
    or_left (is_fork p pairs) (has_fork pairs)
    (subst (λ q. is_fork q pairs ≡ true) f (fork_at n y x pairs (λ e. h (sym e)) i))
fork_of (p ∷ pairs) n x y (inr i) (inr j) h =
    or_right (is_fork p pairs) (has_fork pairs) (fork_of pairs n x y i j h)

-- ---- faults

-- a verdict is a fault exactly where no list of states is honest
pub no_states : (ms : List Member) (s : State) (g : VersionedParts)
    → is_fault (verdict_of ms s (places_in g)) ≡ true
    → (states : List State) → ¬ Honest ms s (places_in g) states
no_states ms s g h states honest =
    true≢false (sym h ∙ ap is_fault (sound ms s (places_in g) states honest))

-- the verdict on a segment that no list of states makes honest is a fault
pub fault_of : (ms : List Member) (s : State) (g : VersionedParts)
    → ((states : List State) → ¬ Honest ms s (places_in g) states)
    → is_fault (verdict_of ms s (places_in g)) ≡ true
fault_of ms s g h = by (verdict_of ms s (places_in g)) refl
  where
    by : (v : Verdict) → verdict_of ms s (places_in g) ≡ v → is_fault v ≡ true
    by (Sound t found) e = let k = is_sound ms s (places_in g) t found e in absurd (h k.states k.honest)
    by (Fault fault number) e = refl

faulty_of : (w : Watched) (past : Past) (p : Step × Reply) (job : Option JobParts)
    → filed p.0 p.1 ≡ job → finds_fault w.roster (end_of w past).state job ≡ true → IsFaultyFile w past p
faulty_of w past p None is h = absurd (true≢false (sym h))
faulty_of w past p (Some j) is h = record {
  job = j;
  filed = is;
  none = no_states w.roster (end_of w past).state j.segment.segment h;
}

file_of : (w : Watched) (past : Past) → has_fault w past ≡ true → HasFaultyFile w past
file_of w [] h = absurd (true≢false (sym h))
file_of w (p ∷ past) h =
    by (or_cases (finds_fault w.roster (end_of w past).state (filed p.0 p.1)) (has_fault w past) h)
    (λ g. file_of w past g)
  where
    by : (finds_fault w.roster (end_of w past).state (filed p.0 p.1) ≡ true) ⊎ (has_fault w past ≡ true)
        → (has_fault w past ≡ true → HasFaultyFile w past) → HasFaultyFile w (p ∷ past)
    by (inl f) rest = inl (faulty_of w past p (filed p.0 p.1) refl f)
    by (inr g) rest = inr (rest g)

-- the test finds the fault of a segment that was filed and isn't honest
pub of_file : (w : Watched) (past : Past) → HasFaultyFile w past
    → has_fault w past ≡ true
of_file w [] h = absurd h
of_file w (p ∷ past) (inl f) =
    or_left (finds_fault w.roster (end_of w past).state (filed p.0 p.1)) (has_fault w past)
    (ap (finds_fault w.roster (end_of w past).state) f.filed
    ∙ fault_of w.roster (end_of w past).state f.job.segment.segment f.none)
of_file w (p ∷ past) (inr g) =
    or_right (finds_fault w.roster (end_of w past).state (filed p.0 p.1)) (has_fault w past)
    (of_file w past g)

-- ---- the indication

told_exposed : (b : Bool) (xs : List Challenge) → cond b Exposed (without_evidence xs) ≡ Exposed → b ≡ true
told_exposed true xs h = refl
told_exposed false [] h = absurd (cc)
told_exposed false (x ∷ xs) h = absurd (cc)

-- it is Exposed where the test says so
pub exposed_is : (w : Watched) (past : Past) → indication w past ≡ Exposed
    → is_exposed w past ≡ true
exposed_is w past h = told_exposed (is_exposed w past) (open_challenges past) h

-- where the test says that a node is exposed, the indication is Exposed
pub is_exposed_told : (w : Watched) (past : Past) → is_exposed w past ≡ true
    → indication w past ≡ Exposed
is_exposed_told w past h = ap (λ b. cond b Exposed (without_evidence (open_challenges past))) h

-- a node that is Exposed showed two hashes at a number, or a segment was filed that isn't honest
pub exposed_why : (w : Watched) (past : Past) → indication w past ≡ Exposed
    → HasTwoHashes (shown w past) ⊎ HasFaultyFile w past
exposed_why w past h =
    by (or_cases (has_fork (shown w past)) (has_fault w past) (exposed_is w past h))
  where
    by : (has_fork (shown w past) ≡ true) ⊎ (has_fault w past ≡ true)
        → HasTwoHashes (shown w past) ⊎ HasFaultyFile w past
    by (inl f) = inl (two_of (shown w past) f)
    by (inr g) = inr (file_of w past g)

-- a node that showed two hashes at a number, or of which a segment was filed that isn't honest, is Exposed
pub why_exposed : (w : Watched) (past : Past)
    → HasTwoHashes (shown w past) ⊎ HasFaultyFile w past → indication w past ≡ Exposed
why_exposed w past (inl g) =
    is_exposed_told w past
    (or_left (has_fork (shown w past)) (has_fault w past)
    (fork_of (shown w past) g.number g.one g.other g.one_shown g.other_shown g.differ))
why_exposed w past (inr g) =
    is_exposed_told w past
    (or_right (has_fork (shown w past)) (has_fault w past) (of_file w past g))

suspected_of : (b : Bool) (xs : List Challenge) → cond b Exposed (without_evidence xs) ≡ Suspected
    → (cond b Exposed (without_evidence xs) ≢ Exposed) × (xs ≢ [])
suspected_of true xs h = absurd (cc)
suspected_of false [] h = absurd (cc)
suspected_of false (x ∷ xs) h = (λ e. absurd (cc), λ e. absurd (cc))

of_suspected : (b : Bool) (xs : List Challenge)
    → (cond b Exposed (without_evidence xs) ≢ Exposed) × (xs ≢ [])
    → cond b Exposed (without_evidence xs) ≡ Suspected
of_suspected true xs h = absurd (h.0 refl)
of_suspected false [] h = absurd (h.1 refl)
of_suspected false (x ∷ xs) h = refl

-- a node that isn't Exposed is Suspected exactly where a challenge is open
pub suspected : (w : Watched) (past : Past)
    → (indication w past ≡ Suspected) ↔ ((indication w past ≢ Exposed) × (open_challenges past ≢ []))
suspected w past = (
  suspected_of (is_exposed w past) (open_challenges past),
  of_suspected (is_exposed w past) (open_challenges past),
)

-- ---- it stays

fork_stays : (new old : List Pair) → has_fork old ≡ true → has_fork (new ++ old) ≡ true
fork_stays [] old h = h
fork_stays (p ∷ new) old h = or_right (is_fork p (new ++ old)) (has_fork (new ++ old)) (fork_stays new old h)

exposed_on : (w : Watched) (p : Step × Reply) (past : Past) → is_exposed w past ≡ true
    → is_exposed w (p ∷ past) ≡ true
exposed_on w p past h = by (or_cases (has_fork (shown w past)) (has_fault w past) h)
  where
    by : (has_fork (shown w past) ≡ true) ⊎ (has_fault w past ≡ true)
        → is_exposed w (p ∷ past) ≡ true
    by (inl f) =
        or_left (has_fork (shown w (p ∷ past))) (has_fault w (p ∷ past))
        (fork_stays (pairs_noted w.member.log_version (is_exposed w past) (noted p.0 p.1))
        (pairs_accepted (accepted p.0 p.1) ++ shown w past)
        (fork_stays (pairs_accepted (accepted p.0 p.1)) (shown w past) f))
    by (inr g) =
        or_right (has_fork (shown w (p ∷ past))) (has_fault w (p ∷ past))
        (or_right (finds_fault w.roster (end_of w past).state (filed p.0 p.1)) (has_fault w past) g)

-- a node that was exposed is so after further steps
pub exposed_further : (w : Watched) (more past : Past) → is_exposed w past ≡ true
    → is_exposed w (more ++ past) ≡ true
exposed_further w [] past h = h
exposed_further w (p ∷ more) past h = exposed_on w p (more ++ past) (exposed_further w more past h)

-- the own steps of two histories one after the other
pub own_joined : (ms : List Member) (node : ℕ) (later earlier : History)
    → own ms node (later ++ earlier) ≡ own ms node later ++ own ms node earlier
own_joined ms node [] earlier = refl
own_joined ms node (p ∷ later) earlier =
    ap (λ x. own_one ms node p ++ x) (own_joined ms node later earlier)
    ∙ sym (append_assoc (own_one ms node p) (own ms node later) (own ms node earlier))

-- a node that was Exposed after a history is so after every longer one
pub exposed_stays : (w : Watched) (later earlier : History)
    → indication w (own_of w earlier) ≡ Exposed
    → indication w (own_of w (later ++ earlier)) ≡ Exposed
exposed_stays w later earlier h =
    is_exposed_told w (own_of w (later ++ earlier))
    (ap (is_exposed w) (own_joined w.roster w.member.node later earlier)
    ∙ exposed_further w (own_of w later) (own_of w earlier)
    (exposed_is w (own_of w earlier) h))

-- a node of which a segment was filed that isn't honest is Exposed after every longer history
pub fault_stays : (w : Watched) (later earlier : History)
    → HasFaultyFile w (own_of w earlier)
    → indication w (own_of w (later ++ earlier)) ≡ Exposed
fault_stays w later earlier h =
    exposed_stays w later earlier (why_exposed w (own_of w earlier) (inr h))
