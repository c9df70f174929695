-- What so many learned authenticators are told.
-- Serves: as_many_as_are_kept, after_as_many_as_are_kept.
use Rattle.std.proofs.Common.{◌≡◌, ℕ, zero, suc, ◌<◌, ◌≤◌, ◌||◌, sym, Bool, true, false, cond, not, ◌==◌}
use Rattle.std.proofs.Common.{◌&&◌, nat_lt}
use Rattle.std.proofs.Common.{nat_le, List, [], ◌∷◌, ◌++◌, length, filter, Option, Some, None}
use Rattle.std.proofs.Common.{refl, ap, ap₂, ◌∙◌, arith, lt-ltb}
use Rattle.std.specs.Prelude.{option_map, option_and_then}
use Rattle.std.proofs.lemmas.Bool.{and_left, or_from, true≢false}
use Rattle.std.proofs.lemmas.Bool.Decides.{nat_tests}
use Rattle.authenticator.specs.declared.authenticator.Authenticator.{Authenticator}
use Rattle.authenticator.specs.declared.member.LogVersion.TheVariants.{One}
use Rattle.witness_spec.specs.Refusals.{LearnedFull}
use Rattle.witness_spec.specs.Replies.{Reply, Noted, Already, Refused}
use Rattle.witness_spec.specs.Pairs.{Pair, first_pair, pair_of, first_fork, same_pair, differ, is_shown}
use Rattle.witness_spec.specs.Pairs.{is_fork, has_fork}
use Rattle.witness_spec.specs.Standing.{end_of, has_fault, pairs_noted, shown, is_exposed, unless_exposed}
use Rattle.witness_spec.specs.Standing.{noted_before, kept, all_accepted}
use Rattle.witness_spec.specs.Owing.{learn_reply, Owes}
use Rattle.witness_spec.specs.Exposing.{fork_of, new_charge, evidence}
use Rattle.witness_spec.specs.Histories.{AreOwed}
use Rattle.witness_spec.specs.evidence_spec.Evidence.{Charge, EvidenceParts}
use Rattle.witness_spec.specs.evidence_spec.Showing.{authenticator_showing}
use Rattle.secure_log.specs.Versioned.{VersionedParts}
use Rattle.witness_spec.specs.Steps.{Learn, Past}
use Rattle.witness_examples.specs.Worked.{node_five, learned, one_hash, other_hash, learned_to}
use Rattle.witness_examples.specs.Forks.{forked, full_forked}

-- the pairs that they show, and they themselves
pairs_to : ℕ → List Pair
pairs_to zero = first_pair ∷ []
pairs_to (suc n) = (suc n, one_hash) ∷ pairs_to n

list_to : ℕ → List Authenticator
list_to zero = []
list_to (suc n) = learned (suc n) one_hash ∷ list_to n

other : (a b : ℕ) → b < a → (a == b) ≡ false
other a b h = grind (arith, nat_tests)

no_fork_at : (k n : ℕ) → n < k → is_fork (k, one_hash) (pairs_to n) ≡ false
unfolding pairs_to
no_fork_at k zero h = or_from (differ (k, one_hash) first_pair) false (and_left (k == 0) _ (other k 0 h)) refl
no_fork_at k (suc n) h =
    or_from (differ (k, one_hash) (suc n, one_hash)) (is_fork (k, one_hash) (pairs_to n))
    (and_left (k == suc n) _ (other k (suc n) h)) (no_fork_at k n (omega (arith, h)))

not_shown : (k n : ℕ) → n < k → is_shown (k, one_hash) (pairs_to n) ≡ false
unfolding pairs_to
not_shown k zero h = or_from (same_pair (k, one_hash) first_pair) false (and_left (k == 0) _ (other k 0 h))
    refl
not_shown k (suc n) h =
    or_from (same_pair (k, one_hash) (suc n, one_hash)) (is_shown (k, one_hash) (pairs_to n))
    (and_left (k == suc n) _ (other k (suc n) h)) (not_shown k n (omega (arith, h)))

no_fork : (n : ℕ) → has_fork (pairs_to n) ≡ false
unfolding pairs_to
no_fork zero = refl
no_fork (suc n) =
    or_from (is_fork (suc n, one_hash) (pairs_to n)) (has_fork (pairs_to n))
    (no_fork_at (suc n) n (omega arith)) (no_fork n)

no_fault : (n : ℕ) → has_fault node_five (learned_to n) ≡ false
no_fault zero = refl
no_fault (suc n) = no_fault n

shown_is : (n : ℕ) → shown node_five (learned_to n) ≡ pairs_to n
unfolding pairs_to
shown_is zero = refl
shown_is (suc n) =
    let none : is_exposed node_five (learned_to n) ≡ false =
    or_from (has_fork (shown node_five (learned_to n))) (has_fault node_five (learned_to n))
    (ap has_fork (shown_is n) ∙ no_fork n) (no_fault n) in
    ap₂ (λ b s. pairs_noted One b (Some (learned (suc n) one_hash)) ++ ([] ++ s)) none (shown_is n)

not_exposed : (n : ℕ) → is_exposed node_five (learned_to n) ≡ false
not_exposed n =
    or_from (has_fork (shown node_five (learned_to n))) (has_fault node_five (learned_to n))
    (ap has_fork (shown_is n) ∙ no_fork n) (no_fault n)

end_is : (n : ℕ) → (end_of node_five (learned_to n)).number ≡ 0
end_is zero = refl
end_is (suc n) = end_is n

noted_is : (n : ℕ) → noted_before node_five (learned_to n) ≡ list_to n
unfolding list_to
noted_is zero = refl
noted_is (suc n) =
    ap₂ (λ b s. unless_exposed b (Some (learned (suc n) one_hash)) ++ s) (not_exposed (suc n)) (noted_is n)

all_above : (n : ℕ) → filter (λ a. nat_lt 0 a.word) (list_to n) ≡ list_to n
unfolding list_to
all_above zero = refl
all_above (suc n) =
    let front = learned (suc n) one_hash in
    ap (λ b. cond b (front ∷ filter (λ a. nat_lt 0 a.word) (list_to n))
    (filter (λ a. nat_lt 0 a.word) (list_to n)))
    (lt-ltb 0 (suc n) (omega arith))
    ∙ ap (λ s. front ∷ s) (all_above n)

length_list : (n : ℕ) → length (list_to n) ≡ n
unfolding list_to
length_list zero = refl
length_list (suc n) = ap suc (length_list n)

kept_count : (n : ℕ) → length (kept node_five (learned_to n)) ≡ n
kept_count n =
    ap₂ (λ (e : ℕ) (s : List Authenticator). length (filter (λ a. nat_lt e a.word) s)) (end_is n)
    (noted_is n)
    ∙ (ap length (all_above n) ∙ length_list n)

told_learn : (past : Past) (a : Authenticator) (r : Reply) → learn_reply node_five past a ≡ r
    → Owes node_five past (Learn a) r
told_learn past a r e = record {
  is_out = false;
  decides = (λ h. absurd (true≢false (sym h)), λ h. absurd h);
  told = sym e;
}

-- the reply by the tests
abbrev told : (exposed shown_there fork above full : Bool) → Reply
told exposed shown_there fork above full =
    cond exposed Noted (cond shown_there Already
    (cond (not fork && (above && full)) (Refused LearnedFull) Noted))

-- the next is refused where 256 are kept
pub reply_is : (n : ℕ)
    → learn_reply node_five (learned_to n) (learned (suc n) one_hash) ≡ cond (nat_le 256 n)
    (Refused LearnedFull) Noted
reply_is n =
    let s = shown_is n in
    let p : Pair = (suc n, one_hash) in
    let at_end : nat_lt (end_of node_five (learned_to n)).number (suc n) ≡ true =
    ap (λ e. nat_lt e (suc n)) (end_is n) ∙ lt-ltb 0 (suc n) (omega arith) in
    ap₂ (λ a b. told a b (is_fork p (shown node_five (learned_to n)))
    (nat_lt (end_of node_five (learned_to n)).number (suc n))
    (nat_le 256 (length (kept node_five (learned_to n)))))
    (not_exposed n) (ap (is_shown p) s ∙ not_shown (suc n) n (omega arith))
    ∙ (ap₂ (λ a b. told false false a b (nat_le 256 (length (kept node_five (learned_to n)))))
    (ap (is_fork p) s ∙ no_fork_at (suc n) n (omega arith)) at_end
    ∙ ap (λ k. told false false false true (nat_le 256 k)) (kept_count n))

owed : (n : ℕ) (r : Reply) → learn_reply node_five (learned_to n) (learned (suc n) one_hash) ≡ r
    → Owes node_five (learned_to n) (Learn (learned (suc n) one_hash)) r
owed n r e = told_learn (learned_to n) (learned (suc n) one_hash) r e

few : (n : ℕ) → n < 256 → nat_le 256 n ≡ false
few n h = grind (arith, nat_tests)

-- up to 256 each is noted
pub each_noted : (n : ℕ) → n < 256 → Owes node_five (learned_to n) (Learn (learned (suc n) one_hash)) Noted
each_noted n h = owed n Noted (reply_is n ∙ ap (λ b. cond b (Refused LearnedFull) Noted) (few n h))

-- so each of so many has the reply that is owed to it
pub each_owed : (n : ℕ) → n ≤ 256 → AreOwed node_five (learned_to n)
each_owed zero low = tt
each_owed (suc n) low = (each_noted n (omega arith), each_owed n (omega arith))

-- and the next is refused
pub full_refused : Owes node_five (learned_to 256) (Learn (learned 257 one_hash)) (Refused LearnedFull)
full_refused = owed 256 (Refused LearnedFull) (reply_is 256)

-- ---- a number of theirs

abbrev above_end : Bool
above_end = nat_lt (end_of node_five (learned_to 256)).number 3

abbrev is_full : Bool
is_full = nat_le 256 (length (kept node_five (learned_to 256)))

-- one of them is there already
pub there_already : Owes node_five (learned_to 256) (Learn (learned 3 one_hash)) Already
unfolding pairs_to
there_already =
    let p : Pair = (3, one_hash) in
    told_learn (learned_to 256) (learned 3 one_hash) Already
    (ap₂ (λ a s. told a (is_shown p s) (is_fork p s) above_end is_full) (not_exposed 256) (shown_is 256))

-- another hash is noted
pub fork_noted : Owes node_five (learned_to 256) (Learn (learned 3 other_hash)) Noted
unfolding pairs_to
fork_noted =
    let p : Pair = (3, other_hash) in
    told_learn (learned_to 256) (learned 3 other_hash) Noted
    (ap₂ (λ a s. told a (is_shown p s) (is_fork p s) above_end is_full) (not_exposed 256) (shown_is 256))

-- and exposes
pub fork_exposes : is_exposed node_five full_forked ≡ true
unfolding pairs_to
fork_exposes =
    ap₂ (λ a s. has_fork (pairs_noted One a (Some (learned 3 other_hash)) ++ ([] ++ s)) || has_fault node_five
    full_forked)
    (not_exposed 256) (shown_is 256)

-- whatever is learned of an exposed node is noted
pub exposed_noted : (past : Past) (a : Authenticator) → is_exposed node_five past ≡ true
    → Owes node_five past (Learn a) Noted
exposed_noted past a h = told_learn past a Noted (rw h refl)

abbrev against : Option Charge → Option EvidenceParts
against o = option_map (λ g. record { node = 5; charge = g }) o

-- the evidence, where the step exposes
evidence_after : (past : Past) (a : Authenticator) (k : List Authenticator) (s : List Pair)
    → is_exposed node_five past ≡ false → kept node_five past ≡ k → shown node_five past ≡ s
    → evidence node_five ((Learn a, Noted) ∷ past)
    ≡ against (option_and_then (fork_of None One k (all_accepted past) (authenticator_showing One a))
    (first_fork (pair_of One a ∷ []) s))
evidence_after past a k s hidden is there =
    ap (λ b. cond b (evidence node_five past) (against (new_charge node_five past (Learn a) Noted))) hidden
    ∙ ap₂ (λ l ps. against (option_and_then (fork_of None One l (all_accepted past) (authenticator_showing One a))
    (first_fork (pair_of One a ∷ []) ps))) is there

kept_is : kept node_five (learned_to 256) ≡ list_to 256
kept_is =
    ap₂ (λ (e : ℕ) (s : List Authenticator). filter (λ a. nat_lt e a.word) s) (end_is 256) (noted_is 256)
    ∙ all_above 256

abbrev two_at_three : EvidenceParts
two_at_three =
    forked 3 (authenticator_showing One (learned 3 one_hash))
    (Some (authenticator_showing One (learned 3 other_hash)))

worked_out : (segments : List VersionedParts)
    → against (option_and_then
    (fork_of None One (list_to 256) segments (authenticator_showing One (learned 3 other_hash)))
    (first_fork (pair_of One (learned 3 other_hash) ∷ []) (pairs_to 256))) ≡ Some two_at_three
unfolding pairs_to list_to
worked_out segments = refl

-- by the one that is kept there
pub fork_evidence : evidence node_five full_forked ≡ Some two_at_three
fork_evidence =
    evidence_after (learned_to 256) (learned 3 other_hash) (list_to 256) (pairs_to 256) (not_exposed 256)
    kept_is
    (shown_is 256)
    ∙ worked_out (all_accepted (learned_to 256))
