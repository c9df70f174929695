-- What stands after whole audits of one log.
-- Serves: sixteen_audits, the_last_number, findings_wait.
use Rattle.std.proofs.Common.{◌≡◌, ℕ, suc, ◌<◌, ◌≤◌, ◌+◌, ◌-◌, Bool, true, false, cond, not, ◌==◌, ◌&&◌}
use Rattle.std.proofs.Common.{fold, max, le-leb, nat_lt, nat_le, List, [], ◌∷◌, ◌++◌, length, filter, drop}
use Rattle.std.proofs.Common.{Some, None}
use Rattle.std.proofs.Common.{refl, sym, ap, ap₂, subst, ◌∙◌, arith, lt-ltb, eqb-true, eq-eqb, append-nil}
use Rattle.std.proofs.Common.{append_assoc}
use Rattle.std.proofs.lemmas.Bool.{and_left, or_from}
use Rattle.std.proofs.lemmas.Bool.Decides.{nat_tests}
use Rattle.std.proofs.lemmas.List.Sums.{sum_by-cons}
use Rattle.authenticator.specs.declared.authenticator.Authenticator.{Authenticator}
use Rattle.authenticator.specs.declared.member.LogVersion.TheVariants.{One}
use Rattle.authenticator.proofs.Signed.{list_same}
use Rattle.secure_log.specs.Versioned.{ClosedParts, segment_marks}
use Rattle.state_spec.specs.State.{State}
use Rattle.replay_spec.specs.Replay.{Sound}
use Rattle.witness_spec.specs.Events.{JobParts, DoneParts}
use Rattle.witness_spec.specs.Refusals.{WrongJob, NoJob}
use Rattle.witness_spec.specs.Replies.{Reply, Noted, Accepted, Asked, Job, Filed, FileRefused, Forwarded}
use Rattle.witness_spec.specs.Watched.{Watched}
use Rattle.witness_spec.specs.Steps.{Learn, Answer, Audit, Begin, File, Forward, Past}
use Rattle.authenticator.specs.Signing.{is_same}
use Rattle.witness_spec.specs.Pairs.{Pair, pair_of, same_pair, differ, is_shown, is_fork, has_fork}
use Rattle.witness_spec.specs.Pairs.{last_of}
use Rattle.witness_spec.specs.Standing.{End, end_of, moved_by, verdict_on, is_fault, has_fault, pairs_noted}
use Rattle.witness_spec.specs.Standing.{shown}
use Rattle.witness_spec.specs.Standing.{is_exposed, unless_exposed, noted_before, kept, NoAudit, stage_of}
use Rattle.witness_spec.specs.Standing.{begins}
use Rattle.witness_spec.specs.Standing.{job_out, sound_found, all_found, forwards, outbox}
use Rattle.witness_spec.specs.Owing.{has_no_room, last_in_reach, ask_up_to, ask_reply, audit_reply}
use Rattle.witness_spec.specs.Owing.{forward_reply}
use Rattle.witness_spec.specs.Owing.{next_job, back_reply, Owes}
use Rattle.witness_spec.specs.Histories.{AreOwed}
use Rattle.witness_examples.specs.Reaching.{Reaches}
use Rattle.witness_examples.proofs.Computed.{drop_more}
use Rattle.witness_examples.proofs.Telling.{told}

-- ---- pairs of one log

-- the hashes of pairs are a log's at their numbers, none of which lies above an end
abbrev pub OnLog : (ℕ → List ℕ) → (end : ℕ) → List Pair → Type 0
OnLog h end [] = Unit {0}
OnLog h end (p ∷ ps) = (p.0 ≤ end) × (p.1 ≡ h p.0) × OnLog h end ps

unlike : (a b : ℕ) → b < a → (a == b) ≡ false
unlike a b h = grind (arith, nat_tests)

no_difference : (h : ℕ → List ℕ) (p q : Pair) → p.1 ≡ h p.0 → q.1 ≡ h q.0 → differ p q ≡ false
no_difference h p q i j = by (p.0 == q.0) refl
  where
    by : (b : Bool) → (p.0 == q.0) ≡ b → (b && not (is_same p.1 q.1)) ≡ false
    by false e = refl
    by true e = ap not (list_same p.1 q.1 (i ∙ ap h (eqb-true p.0 q.0 e) ∙ sym j))

no_fork_at : (h : ℕ → List ℕ) (end : ℕ) (p : Pair) (ps : List Pair) → p.1 ≡ h p.0 → OnLog h end ps
    → is_fork p ps ≡ false
no_fork_at h end p [] i on = refl
no_fork_at h end p (q ∷ qs) i on =
    or_from (differ p q) (is_fork p qs) (no_difference h p q i on.1) (no_fork_at h end p qs i on.2)

no_fork : (h : ℕ → List ℕ) (end : ℕ) (ps : List Pair) → OnLog h end ps → has_fork ps ≡ false
no_fork h end [] on = refl
no_fork h end (p ∷ ps) on =
    or_from (is_fork p ps) (has_fork ps) (no_fork_at h end p ps on.1 on.2) (no_fork h end ps on.2)

-- none has a number above the end
not_there : (h : ℕ → List ℕ) (end : ℕ) (p : Pair) (ps : List Pair) → end < p.0 → OnLog h end ps
    → is_shown p ps ≡ false
not_there h end p [] above on = refl
not_there h end p (q ∷ qs) above on =
    or_from (same_pair p q) (is_shown p qs) (and_left (p.0 == q.0) _ (unlike p.0 q.0 (omega (arith, on.0))))
    (not_there h end p qs above on.2)

-- a log that goes on has them too
pub grown : (h k : ℕ → List ℕ) (end next : ℕ) (ps : List Pair) → ((n : ℕ) → n ≤ end → k n ≡ h n)
    → end ≤ next → OnLog h end ps → OnLog k next ps
grown h k end next [] same low on = tt
grown h k end next (p ∷ ps) same low on =
    (omega (arith, on.0), on.1 ∙ sym (same p.0 on.0), grown h k end next ps same low on.2)

both : (h : ℕ → List ℕ) (end : ℕ) (ps qs : List Pair) → OnLog h end ps → OnLog h end qs → OnLog h end
    (ps ++ qs)
both h end [] qs i j = j
both h end (p ∷ ps) qs i j = (i.0, i.1, both h end ps qs i.2 j)

-- ---- authenticators up to an end

-- none of these has a number above an end
abbrev pub Low : (end : ℕ) → List Authenticator → Type 0
Low end [] = Unit {0}
Low end (a ∷ xs) = (a.word ≤ end) × Low end xs

lower : (end next : ℕ) (xs : List Authenticator) → end ≤ next → Low end xs → Low next xs
lower end next [] low h = tt
lower end next (a ∷ xs) low h = (omega (arith, h.0), lower end next xs low h.1)

none_above : (end : ℕ) (xs : List Authenticator) → Low end xs → filter (λ a. nat_lt end a.word) xs ≡ []
none_above end [] h = refl
none_above end (a ∷ xs) h =
    let at : nat_lt end a.word ≡ false = grind (arith, nat_tests, h.0) in
    ap (λ b. cond b (a ∷ filter (λ x. nat_lt end x.word) xs) (filter (λ x. nat_lt end x.word) xs)) at
    ∙ none_above end xs h.1

-- ---- after whole audits

-- a node under a roster that gives it a log of version 1, without a base
abbrev pub of_one : Watched → Watched
of_one node =
    record { roster = node.roster; member = record node.member { log_version = One }; base = None }

-- Own steps with the replies owed to them: a node whose log has the hashes `h` was audited up to an end, with
-- the state there; nothing is under way, and this was found and not yet forwarded.
pub record Quiet (w : Watched) (past : Past) (h : ℕ → List ℕ) (end begun : ℕ) (s : State)
    (found : List Authenticator) : Type 0 where
  -- the replies are those owed
  pub owed : AreOwed w past
  -- the audit is at the end, with the state there
  pub at_end : end_of w past ≡ record { number = end; state = s }
  -- no segment had a fault
  pub sound : has_fault w past ≡ false
  -- all pairs that were shown are of the log
  pub on_log : OnLog h end (shown w past)
  -- no authenticator that was learned is above the end
  pub low : Low end (noted_before w past)
  -- no audit is under way
  pub free : stage_of past ≡ NoAudit
  -- so many audits have begun
  pub count : begins past ≡ begun
  -- however much is found later, after what was forwarded this stands first
  pub rest : (later : List Authenticator)
      → drop (forwards past) (all_found w past ++ later) ≡ found ++ later

-- a number above the end makes no fork
new_pair : (h : ℕ → List ℕ) (end : ℕ) (p : Pair) (ps : List Pair) → end < p.0 → OnLog h end ps
    → is_fork p ps ≡ false
new_pair h end p [] above on = refl
new_pair h end p (q ∷ qs) above on =
    or_from (differ p q) (is_fork p qs) (and_left (p.0 == q.0) _ (unlike p.0 q.0 (omega (arith, on.0))))
    (new_pair h end p qs above on.2)

max_zero : (n : ℕ) → max 0 n ≡ n
max_zero n = grind (arith, nat_tests)

module _ (node : Watched) (past : Past) (h : ℕ → List ℕ) (end begun : ℕ) (s : State)
    (found : List Authenticator) (q : Quiet (of_one node) past h end begun s found) where
  abbrev w : Watched
  w = of_one node

  -- it isn't exposed
  pub hidden : is_exposed w past ≡ false
  hidden =
      or_from (has_fork (shown w past)) (has_fault w past) (no_fork h end (shown w past) q.on_log)
      q.sound

  kept_none : kept w past ≡ []
  kept_none =
      ap (λ (e : End). filter (λ a. nat_lt e.number a.word) (noted_before w past)) q.at_end
      ∙ none_above end (noted_before w past) q.low

  module _ (a : Authenticator) (above : end < a.word) where
    above_end : nat_lt (end_of w past).number a.word ≡ true
    above_end = ap (λ (e : End). nat_lt e.number a.word) q.at_end ∙ lt-ltb end a.word above

    room : has_no_room w past a ≡ false
    room =
        rw (new_pair h end (pair_of One a) (shown w past) above q.on_log, above_end, kept_none) refl

    -- it is noted
    pub learned_new : Owes w past (Learn a) Noted
    learned_new =
        told w past (Learn a) Noted (λ x. x)
        (rw (hidden, not_there h end (pair_of One a) (shown w past) above q.on_log, room) refl)

    abbrev then_learned : Past
    then_learned = (Learn a, Noted) ∷ past

    -- the log's hashes up to the end, and the new one after it
    abbrev pub with_it : ℕ → List ℕ
    with_it n = cond (nat_le n end) (h n) a.hash

    low_same : (n : ℕ) → n ≤ end → with_it n ≡ h n
    low_same n low = ap (λ b. cond b (h n) a.hash) (le-leb n end low)

    high_same : a.hash ≡ with_it a.word
    high_same =
        let out : nat_le a.word end ≡ false = grind (arith, nat_tests) in
        sym (ap (λ b. cond b (h a.word) a.hash) out)

    shown_is : shown w then_learned ≡ pair_of One a ∷ shown w past
    shown_is = ap (λ b. pairs_noted One b (Some a) ++ ([] ++ shown w past)) hidden

    still_hidden : is_exposed w then_learned ≡ false
    still_hidden =
        let on : OnLog with_it a.word (pair_of One a ∷ shown w past) = (
          omega arith,
          high_same,
          grown h with_it end a.word (shown w past) low_same (omega arith)
              q.on_log,
        ) in
        or_from (has_fork (shown w then_learned)) (has_fault w then_learned)
        (ap has_fork shown_is ∙ no_fork with_it a.word (pair_of One a ∷ shown w past) on) q.sound

    noted_is : noted_before w then_learned ≡ a ∷ noted_before w past
    noted_is = ap (λ b. unless_exposed b (Some a) ++ noted_before w past) still_hidden

    kept_is : kept w then_learned ≡ a ∷ []
    kept_is =
        let rest = filter (λ x. nat_lt end x.word) (noted_before w past) in
        ap₂ (λ (e : End) xs. filter (λ x. nat_lt e.number x.word) xs) q.at_end noted_is
        ∙ (ap (λ b. cond b (a ∷ rest) rest) (lt-ltb end a.word above)
        ∙ ap (λ xs. a ∷ xs) (none_above end (noted_before w past) q.low))

    waiting : outbox w then_learned ≡ found
    waiting =
        let same : forwards then_learned ≡ forwards past = omega (arith, sum_by-cons) in
        ap (λ k. drop k (all_found w past ++ [])) same ∙ (q.rest [] ∙ append-nil found)

    -- what is then owed to an audit
    pub audit_told : audit_reply w then_learned (stage_of then_learned)
        ≡ ask_up_to 0 end (length found) (last_in_reach One end (a ∷ []))
    audit_told =
        let waits = outbox w then_learned in
        let keeps = kept w then_learned in
        ap (audit_reply w then_learned) q.free
        ∙ (ap₂ (λ b (e : End). ask_reply One b 0 e.number (length waits) keeps) still_hidden q.at_end
        ∙ ap₂ (λ (o k : List Authenticator). ask_reply One false 0 end (length o) k) waiting kept_is)

  -- A segment after the end that an audit may ask for: it holds the hashes of the log `k`, and a replay of
  -- it from the state there is sound.
  pub record Follows (j : JobParts) (k : ℕ → List ℕ) (t : State) (new : List Authenticator) : Type 0 where
    -- the job is the next one, of the node, from the state at the end
    pub job : j ≡ record { node = w.member.node; number = begun + 1; state = s; segment = j.segment }
    -- the segment begins after the end
    pub first : j.segment.segment.first ≡ end + 1
    -- it ends where its closing's word says, as in a log of version 1
    pub last : last_of j.segment.segment ≡ j.segment.segment.closing.word
    -- it closes above the end
    pub above : end < j.segment.segment.closing.word
    -- at most 4,096 numbers later
    pub near : j.segment.segment.closing.word ≤ end + 4_096
    -- and at a number of at most 65,536
    pub few : j.segment.segment.closing.word ≤ 65_536
    -- there is room to keep what it may show
    pub fits : length found + (j.segment.segment.closing.word - end) ≤ 4_096
    -- its pairs are of the log `k`
    pub pairs : OnLog k j.segment.segment.closing.word (segment_marks j.segment.segment)
    -- so is its closing hash
    pub closing : j.segment.segment.closing.hash ≡ k j.segment.segment.closing.word
    -- up to the end `k` has the hashes of `h`
    pub same : (n : ℕ) → n ≤ end → k n ≡ h n
    -- the verdict on it is sound, with this state and what it shows
    pub verdict : verdict_on w.roster s j ≡ Sound t new

  module _ (j : JobParts) (k : ℕ → List ℕ) (t : State) (new : List Authenticator) (f : Follows j k t new)
    where
      abbrev c : ClosedParts
      c = j.segment

      abbrev a : Authenticator
      a = j.segment.segment.closing

      abbrev first : ℕ
      first = j.segment.segment.first

      abbrev known : Past
      known = (Learn a, Noted) ∷ past

      abbrev wanted : Past
      wanted = (Audit, Asked first a.word) ∷ known

      abbrev given : Past
      given = (Answer c, Accepted) ∷ wanted

      abbrev out : Past
      out = (Begin, Job j) ∷ given

      abbrev done : DoneParts
      done = record { job = j; verdict = Sound t new }

      abbrev behind : Past
      behind = (File done, Filed) ∷ out

      -- ---- the replies

      reached : last_in_reach One end (a ∷ []) ≡ a.word
      reached =
          ap (λ b. fold max 0 (cond b (a.word ∷ []) [])) (le-leb a.word (end + 4_096) f.near) ∙ max_zero
          a.word

      asked : ask_up_to 0 end (length found) a.word ≡ Asked first a.word
      asked =
          let some : (a.word == 0) ≡ false = unlike a.word 0 (omega (arith, f.above)) in
          let few : nat_lt 65_536 a.word ≡ false = grind (arith, nat_tests, f.few) in
          let fits : nat_lt 4_096 (length found + (a.word - end)) ≡ false = grind
          (arith, nat_tests, f.fits) in
          rw (some, few, fits, f.first) refl

      audits : Owes w known Audit (Asked first a.word)
      audits =
          told w known Audit (Asked first a.word) (λ x. x)
          (audit_told a f.above ∙ (ap (ask_up_to 0 end (length found)) reached ∙ asked))

      answers : Owes w wanted (Answer c) Accepted
      answers =
          told w wanted (Answer c) Accepted (λ x. x)
          (rw (eq-eqb first first refl, eq-eqb (last_of c.segment) a.word f.last) refl)

      on_given : OnLog k a.word (shown w given)
      on_given =
          let known_pairs : OnLog k a.word (shown w known) =
          subst (OnLog k a.word) (sym (shown_is a f.above)) (
            omega arith,
            f.closing,
            grown h k end a.word (shown w past) f.same (omega (arith, f.above))
                q.on_log,
          ) in
          both k a.word (segment_marks j.segment.segment) (shown w known) f.pairs known_pairs

      given_hidden : is_exposed w given ≡ false
      given_hidden =
          or_from (has_fork (shown w given)) (has_fault w given)
          (no_fork k a.word (shown w given) on_given) q.sound

      begins_given : begins given ≡ begun
      begins_given = omega (arith, sum_by-cons, q.count)

      next : next_job w given c ≡ j
      next =
          ap₂ (λ (b : ℕ) (e : End). record {
            node = w.member.node;
            number = b + 1;
            state = e.state;
            segment =
                c;
          })
          begins_given
          q.at_end ∙ sym f.job

      begins_it : Owes w given Begin (Job j)
      begins_it =
          told w given Begin (Job j) (λ x. x) (rw given_hidden (ap Job next))

      begins_out : begins out ≡ begun + 1
      begins_out = omega (arith, sum_by-cons, q.count)

      is_out : job_out w out ≡ Some j
      is_out =
          ap₂ (λ (b : ℕ) (e : End). Some
          (record { node = w.member.node; number = b; state = e.state; segment = c }))
          begins_out
          q.at_end ∙ ap Some (sym f.job)

      files : Owes w out (File done) Filed
      files = record {
        is_out = true;
        decides = (λ e. is_out, λ e. refl);
        told = sym (ap (λ o. back_reply true o Filed (FileRefused WrongJob done) (FileRefused NoJob done))
            is_out);
      }

      -- ---- what stands after it

      verdict_there : verdict_on w.roster (end_of w out).state j ≡ Sound t new
      verdict_there = ap (λ (e : End). verdict_on w.roster e.state j) q.at_end ∙ f.verdict

      found_is : all_found w behind ≡ all_found w past ++ new
      found_is =
          let before : all_found w out ≡ all_found w past =
          append-nil (all_found w given) ∙ (append-nil (all_found w wanted)
          ∙ (append-nil (all_found w known)
          ∙ append-nil (all_found w past))) in
          ap₂ (λ xs v. xs ++ sound_found v) before verdict_there

      rest_is : (later : List Authenticator)
          → drop (forwards behind) (all_found w behind ++ later) ≡ (found ++ new) ++ later
      rest_is later =
          let same : forwards behind ≡ forwards past = omega (arith, sum_by-cons) in
          ap₂ (λ k xs. drop k (xs ++ later)) same found_is
          ∙ (ap (drop (forwards past)) (append_assoc (all_found w past) new later)
          ∙ (q.rest (new ++ later) ∙ sym (append_assoc found new later)))

      noted_low : Low a.word (noted_before w known)
      noted_low =
          subst (Low a.word) (sym (noted_is a f.above))
          (omega arith, lower end a.word (noted_before w past) (omega (arith, f.above)) q.low)

      -- the audit of such a segment is owed, and the same holds after it
      pub goes_on : Quiet w behind k a.word (begun + 1) t (found ++ new)
      goes_on = record {
        owed = (files, (begins_it, (answers, (audits, (learned_new a f.above, q.owed)))));
        at_end = ap₂ (λ (e : End) v. moved_by e (last_of c.segment) v) q.at_end verdict_there
            ∙ ap (λ (n : ℕ). record { number = n; state = t }) f.last;
        sound = or_from (is_fault (verdict_on w.roster (end_of w out).state j)) (has_fault w out)
            (ap is_fault verdict_there) q.sound;
        on_log = on_given;
        low = noted_low;
        free = refl;
        count = omega (arith, sum_by-cons, begins_out);
        rest = rest_is;
      }

  -- ---- what an audit is told where one more is learned

  -- an audit after one more authenticator is told this, and the steps before it are owed
  pub then_asked : (a : Authenticator) → end < a.word → (r : Reply)
      → ask_up_to 0 end (length found) (last_in_reach One end (a ∷ [])) ≡ r
      → Reaches w ((Learn a, Noted) ∷ past) Audit r
  then_asked a above r e = record {
    steps = (learned_new a above, q.owed);
    next = told w ((Learn a, Noted) ∷ past) Audit r (λ x. x) (audit_told a above ∙ e);
  }

  -- this waits in the outbox
  pub is_waiting : outbox w past ≡ found
  is_waiting =
      ap (drop (forwards past)) (sym (append-nil (all_found w past))) ∙ (q.rest [] ∙ append-nil found)

  -- what is then owed to a Forward
  pub then_forward : Reaches w past Forward (forward_reply found)
  then_forward = record {
    steps = q.owed;
    next = told w past Forward (forward_reply found) (λ x. x) (ap forward_reply is_waiting);
  }

-- the oldest of what was found is forwarded
pub forwarded : (node : Watched) (past : Past) (h : ℕ → List ℕ) (end begun : ℕ) (s : State)
    (a : Authenticator) (found : List Authenticator) → Quiet (of_one node) past h end begun s (a ∷ found)
    → Quiet (of_one node) ((Forward, Forwarded a) ∷ past) h end begun s found
forwarded node past h end begun s a found q =
    let more : forwards ((Forward, Forwarded a) ∷ past) ≡ suc (forwards past) = omega (arith, sum_by-cons) in
    record {
      owed = ((then_forward node past h end begun s (a ∷ found) q).next, q.owed);
      at_end = q.at_end;
      sound = q.sound;
      on_log = q.on_log;
      low = q.low;
      free = q.free;
      count = omega (arith, sum_by-cons, q.count);
      rest = λ later.
          ap₂ (λ k xs. drop k (xs ++ later)) more (append-nil (all_found (of_one node) past))
          ∙ drop_more (forwards past) (all_found (of_one node) past ++ later) a (found ++ later)
          (q.rest later);
    }
