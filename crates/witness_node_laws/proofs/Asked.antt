-- What an audit asks for, a node that signed at the last number can answer.
-- Serves: what_is_asked_can_be_answered.
use Rattle.std.proofs.Common.{◌≡◌, inl, inr, ℕ, zero, suc, ◌+◌, ◌-◌, ◌<◌, ◌≤◌, Bool, true, false, List, [], ◌∷◌}
use Rattle.std.proofs.Common.{◌++◌, length, eqb, eqb-true, eq-eqb, Option, Some, None, refl, sym, ap, subst, arith}
use Rattle.std.specs.Prelude.{IsSome}
use Rattle.std.specs.List.{AllByRecursion}
use Rattle.std.proofs.lemmas.Bool.{true≢false}
use Rattle.secure_log.specs.declared.fault.SegmentFault.{SegmentFault}
use Rattle.secure_log.specs.declared.fault.SegmentFault.TheVariants.{OutOfRange, TooLong, BrokenChain}
use Rattle.secure_log.specs.declared.fault.SegmentFault.TheVariants.{Garbage, UnknownNode, BadSignature}
use Rattle.secure_log.specs.declared.fault.SegmentFault.TheVariants.{NoMemory}
use Rattle.authenticator.specs.declared.member.LogVersion.{LogVersion}
use Rattle.authenticator.specs.declared.member.LogVersion.TheVariants.{One, Two}
use Rattle.secure_log.specs.LogEntries.Chain.{Logged, logged_links, span}
use Rattle.secure_log.specs.LogEntries.Words.{MaySkip}
use Rattle.secure_log.specs.Log.{HasEntry, hash_at}
use Rattle.secure_log.specs.Part.{HasPlaces}
use Rattle.commitment.specs.Signings.Signings.{Signing, logged_of}
use Rattle.commitment.specs.Senders.Sender.{SenderParts, IsSender, signed_at}
use Rattle.commitment.proofs.OfSenders.Lasts.{entry_within}
use Rattle.commitment.proofs.OfSenders.Meanings.{signing_is}
use Rattle.node_logs.specs.Steps.Nodes.{NodeParts, log_of, sender_of}
use Rattle.node_logs.specs.Challenges.{RefusesChallenge}
use Rattle.witness_laws.specs.witness_spec.Replies.{Reply}
use Rattle.witness_laws.specs.witness_spec.Starting.{Beginning}
use Rattle.witness_laws.specs.witness_spec.Watched.{Watched, IsInRoster, IsWatchedFrom}
use Rattle.witness_laws.specs.witness_spec.Steps.{Step, Past}
use Rattle.witness_laws.specs.witness_spec.Standing.{Stage, NoAudit, Wanted, Given, Out, stage_of}
use Rattle.witness_laws.specs.witness_spec.Histories.{AreOwed, History, IsHistory, own_of}
use Rattle.witness_node_laws.specs.Logs.{MayBegin}
use Rattle.witness_node_laws.proofs.Pairs.{entry_hash, zero_hash}
use Rattle.witness_laws.proofs.OwnSteps.{own_owed}
use Rattle.witness_laws.proofs.Reach.{IsInReach}
use Rattle.witness_laws.proofs.Doing.{Doing, Nothing, Notes, Accepts, Asks, Begins, Files, PutsBack, doing}

-- numbers that are asked for are in order, from 1 on, and at most as many as may be
abbrev StageIsInReach : Stage → Type 0
StageIsInReach NoAudit = Unit {0}
StageIsInReach (Wanted first last) = (1 ≤ first) × IsInReach first last
StageIsInReach (Given c) = Unit {0}
StageIsInReach (Out c) = Unit {0}

one_step : (w : Watched) (past : Past) (p : Step × Reply) → Doing w past p
    → StageIsInReach (stage_of past) → StageIsInReach (stage_of (p ∷ past))
one_step w past p (Nothing did) k = subst StageIsInReach (sym did.stage) k
one_step w past p (Notes a is low did) k = subst StageIsInReach (sym did.stage) k
one_step w past p (Accepts c is wanted did) k = subst StageIsInReach (sym did.stage) tt
one_step w past p (Asks first last is few did) k =
    subst StageIsInReach (sym did.stage) (omega (arith, is), few.1)
one_step w past p (Begins c is did) k = subst StageIsInReach (sym did.stage) tt
one_step w past p (Files j is did) k = subst StageIsInReach (sym did.stage) tt
one_step w past p (PutsBack c is did) k = subst StageIsInReach (sym did.stage) tt

stage_in_reach : (w : Watched) (past : Past) → AreOwed w past
    → StageIsInReach (stage_of past)
stage_in_reach w [] owed = tt
stage_in_reach w (p ∷ past) owed =
    one_step w past p (doing w past p.0 p.1 owed.0) (stage_in_reach w past owed.1)

-- ---- which numbers a log has

-- an entry of those after a number has this one
record FromEntry (b : ℕ) (log : List Logged) (k : ℕ) : Type 0 where
  entry : Logged
  before : List Logged
  rest : List Logged
  whole : log ≡ before ++ entry ∷ rest
  place : b + span before + 1 + entry.skipped ≡ k

-- where nothing is skipped each number up to the last has one
each_number : (b : ℕ) (log : List Logged) (k : ℕ) → AllByRecursion (MaySkip One) (logged_links b log) → b < k
    → k ≤ b + span log → FromEntry b log k
each_number b [] k may past low = absurd (omega (arith, past, low))
each_number b (l ∷ log) k may past low = by (eqb (b + 1) k) refl (each_number n log k may.1)
  where
    n : ℕ
    n = b + 1 + l.skipped

    none : l.skipped ≡ 0
    none = may.0

    by : (t : Bool) → eqb (b + 1) k ≡ t → (n < k → k ≤ n + span log → FromEntry n log k)
        → FromEntry b (l ∷ log) k
    by true is behind =
        let same = eqb-true (b + 1) k is in
        record { entry = l; before = []; rest = log; whole = refl; place = omega (arith, same, none) }
    by false is behind =
        let apart : b + 1 ≡ k → ⊥ = λ same. let t = eq-eqb (b + 1) k same in absurd (cc) in
        let later : n < k = omega (arith, past, none, apart) in
        let found = behind later (omega (arith, low)) in
        let place = found.place in
        record {
          entry = found.entry;
          before = l ∷ found.before;
          rest = found.rest;
          whole = ap (λ ls. l ∷ ls) found.whole;
          place = omega (arith, place);
        }

-- a log of version 1 has a hash at each number up to its last
hash_up_to : (log : List Logged) (k : ℕ) → AllByRecursion (MaySkip One) (logged_links 0 log) → k ≤ span log
    → IsSome (hash_at log k)
hash_up_to log zero may low = zero_hash log
hash_up_to log (suc k) may low =
    let found = each_number 0 log (suc k) may (omega arith) (omega (arith, low)) in
    let place = found.place in
    entry_hash log (suc k) found.entry (record {
      before = found.before;
      rest = found.rest;
      whole = found.whole;
      place = omega (arith, place);
    })

-- the number before the first of those that are asked for has a hash
has_before : (v : LogVersion) (log : List Logged) (first : ℕ) → AllByRecursion (MaySkip v) (logged_links 0 log)
    → MayBegin v log first → first - 1 ≤ span log → IsSome (hash_at log (first - 1))
has_before One log first may begins low = hash_up_to log (first - 1) may low
has_before Two log first may begins low = begins

signed_there : (s : SenderParts) (number : ℕ) → IsSender s → IsSome (signed_at s number)
    → (l : Logged) × HasEntry s.log.entries number l
signed_there s number is some = by (signed_at s number) refl some
  where
    by : (o : Option Signing) → signed_at s number ≡ o → IsSome o → (l : Logged) × HasEntry s.log.entries number l
    by None at h = absurd (true≢false (sym h))
    by (Some g) at h = (logged_of g, (signing_is s number g is at).there)

few_in_span : (log : List Logged) → length log ≤ span log
few_in_span [] = omega arith
few_in_span (l ∷ log) = let few = few_in_span log in omega (arith, few)

refused_for : (n : NodeParts) (first last : ℕ) (fault : SegmentFault) → 1 ≤ first → IsInReach first last
    → HasPlaces (log_of n) first last → IsSome (signed_at (sender_of n) last)
    → RefusesChallenge n first last fault → fault ≡ NoMemory
refused_for n first last OutOfRange low reach there signed (inl far) = absurd (far there)
refused_for n first last OutOfRange low reach there signed (inr none) =
    absurd (true≢false (sym (subst IsSome none signed)))
refused_for n first last TooLong low reach there signed long =
    let of = long.0.1.1.0 in
    let more = long.0.1.1.1 in
    let few = few_in_span long.0.1.0 in
    let place = of.place in
    let count = of.count in
    let reached = reach.few in
    absurd (omega (arith, more, few, place, count, reached))
refused_for n first last NoMemory low reach there signed h = refl
refused_for n first last BrokenChain low reach there signed h = absurd h
refused_for n first last Garbage low reach there signed h = absurd h
refused_for n first last UnknownNode low reach there signed h = absurd h
refused_for n first last BadSignature low reach there signed h = absurd h

-- The challenge with the numbers that are asked for is refused only where memory runs out.
pub can_be_answered : (g : Beginning) (w : Watched) (history : History) (n : NodeParts) (first last : ℕ)
    (fault : SegmentFault) → IsInRoster w → IsWatchedFrom g w → IsHistory g history
    → stage_of (own_of w history) ≡ Wanted first last → IsSender (sender_of n)
    → IsSome (signed_at (sender_of n) last) → MayBegin n.log_version n.entries first
    → RefusesChallenge n first last fault → fault ≡ NoMemory
can_be_answered g w history n first last fault member from h stage sender signed begins refused =
    let at : StageIsInReach (Wanted first last) =
    subst StageIsInReach stage (stage_in_reach w (own_of w history) (own_owed g w member from history h)) in
    let there = signed_there (sender_of n) last sender signed in
    let within = entry_within n.entries last there.0 there.1 in
    let order = at.1.order in
    let places : HasPlaces (log_of n) first last = record {
      some = at.0;
      order = order;
      after = has_before n.log_version n.entries first sender.skips begins (omega (arith, within, order));
      there = entry_hash n.entries last there.0 there.1;
    } in
    refused_for n first last fault at.0 at.1 places signed refused
