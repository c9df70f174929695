-- How a replay goes through entries: what it found so far, and the verdict on the rest.
-- Serves: run, replay_entries, replay.
use Rattle.std.proofs.Common.{◌≡◌, ℕ, suc, ◌+◌, ◌-◌, ◌<◌, ◌≤◌, ◌^◌, List, [], ◌∷◌, ◌++◌, length, drop, get_or}
use Rattle.std.proofs.Common.{Ok, Err, IfOk}
use Rattle.std.proofs.Common.{Option, Some, None, Result, refl, sym, ap, subst, ◌∙◌, arith}
use Rattle.std.specs.FinMap as finite
use Rattle.std.specs.List.{AllByRecursion}
use Rattle.authenticator.specs.Numbers.{word_of}
use Rattle.replay.proofs.LoggedPlaces.{logged_rest}
use Rattle.authenticator.specs.declared.member.Member.{Member}
use Rattle.authenticator.specs.declared.authenticator.Authenticator.{Authenticator}
use Rattle.secure_log.specs.LogEntries.Chain.{Logged, hash_after, logged_link}
use Rattle.secure_log.specs.LogEntries.Words.{logged}
use Rattle.secure_log.specs.declared.log_entries.entry.Entry.{Entry}
use Rattle.checkpoint.specs.state_machine.declared.states.received.TheConstants.{MAX_RECEIVED}
use Rattle.checkpoint.specs.state_machine.declared.states.sends.TheConstants.{MAX_SENDS}
use Rattle.checkpoint.specs.state_spec.State.{State}
use Rattle.replay.specs.Verdicts.{verdict_in, IsSoundWhereHonest}
use Rattle.replay.specs.declared.verdict.Verdict as memory
use Rattle.replay_spec.specs.Placed.{HasWord, Placed, logged_place, places_from}
use Rattle.replay.specs.Steps.{worded_place}
use Rattle.replay_spec.specs.Stepping.{ReplayFault, step, shown_by}
use Rattle.replay_spec.specs.Replay.{with_shown, Verdict, Sound, Fault, behind, verdict_of}
use Rattle.replay_spec.specs.Steps.{Takes}
use Rattle.replay_spec.specs.LogLaws.LoggedMessages.{is_recv, recv_count, send_count}
use Rattle.replay_spec.proofs.OfLogLaws.Counts.{counted_by}
use Rattle.replay_spec.proofs.Runs.{verdict_after, first_step}
use Rattle.replay_spec.proofs.OfLogLaws.Counts.{one_if}
use Rattle.std.proofs.lemmas.List.Sums.{sum_by-cons}
use Rattle.std.proofs.Math.Seq.{drop-cons}
use Rattle.std.specs.Prelude.{Bool, true, false, ◌↔◌}
use Rattle.replay_spec.specs.Stepping.{is_send}

-- the verdict on entries after those that showed these
abbrev pub after_all : List Authenticator → Verdict → Verdict
after_all [] v = v
after_all (a ∷ found) v = behind (Some a) (after_all found v)

at_most : (b : Bool) → one_if b ≤ 1
at_most true = omega arith
at_most false = omega arith

-- an entry brings one message at most
one_received : (e : Entry) → recv_count (e ∷ []) ≤ 1
one_received e =
    let low = at_most (is_recv e) in
    let sum = sum_by-cons (λ x. one_if (is_recv x)) e [] in
    omega (arith, low, sum)

one_sent : (e : Entry) → send_count (e ∷ []) ≤ 1
one_sent e =
    let low = at_most (is_send e) in
    let sum = sum_by-cons (λ x. one_if (is_send x)) e [] in
    omega (arith, low, sum)

-- the places of the entries from an index on
abbrev pub to_come : (skips : List ℕ) (entries : List Entry) (next : ℕ) (before : List ℕ) (index : ℕ)
    → List Placed
to_come skips entries next before index =
    places_from next before (logged (drop index skips) (drop index entries))

-- What is known between two entries: those to come have words, there is room for their messages, and the
-- verdict on all is that on the rest, after what was found.
pub record IsRun (ms : List Member) (start : State) (first : ℕ) (opening : List ℕ) (skips : List ℕ)
    (entries : List Entry) (s : State) (shown : List Authenticator) (next : ℕ) (before : List ℕ) (index : ℕ)
    : Type 0 where
  -- each entry to come has a word
  pub words : AllByRecursion HasWord (to_come skips entries next before index)
  -- there is room for a received message of each entry to come
  pub received : finite.len s.received + length (drop index entries) ≤ MAX_RECEIVED
  -- there is room for a sent message of each entry to come
  pub sends : finite.len s.sends + length (drop index entries) ≤ MAX_SENDS
  -- the verdict on all entries is the one on the rest, after what was found
  pub verdict : verdict_of ms start (places_from first opening (logged skips entries))
      ≡ after_all shown (verdict_of ms s (to_come skips entries next before index))

-- more is found after the rest
after_more : (shown : List Authenticator) (more : Option Authenticator) (v : Verdict)
    → after_all (shown ++ with_shown more []) v ≡ after_all shown (behind more v)
after_more [] None (Sound s found) = refl
after_more [] None (Fault fault number) = refl
after_more [] (Some a) v = refl
after_more (b ∷ shown) more v = ap (behind (Some b)) (after_more shown more v)

-- at the end all is found
pub all_found : (shown : List Authenticator) (s : State) → after_all shown (Sound s []) ≡ Sound s shown
all_found [] s = refl
all_found (a ∷ shown) s = ap (behind (Some a)) (all_found shown s)

-- a fault stays one after what was found
pub fault_found : (shown : List Authenticator) (fault : ReplayFault) (number : ℕ)
    → after_all shown (Fault fault number) ≡ Fault fault number
fault_found [] fault number = refl
fault_found (a ∷ shown) fault number = ap (behind (Some a)) (fault_found shown fault number)

-- ---- one step

-- a step is told by what it takes
abbrev StepsTake : Type 0
StepsTake = (ms : List Member) (s t : State) (p : Placed) → (step ms s p ≡ Ok t) ↔ Takes ms s p t

-- by a step each kind of message is one more at most
more_received : StepsTake → (ms : List Member) (s t : State) (entry_word : ℕ) (before : List ℕ) (e : Entry)
    → step ms s (worded_place entry_word before e) ≡ Ok t → finite.len t.received ≤ finite.len s.received + 1
more_received law ms s t entry_word before e h =
    let p = worded_place entry_word before e in
    let few = (counted_by ms s t p ((law ms s t p).0 h)).received in
    let one = one_received e in
    omega (arith, few, one)

more_sent : StepsTake → (ms : List Member) (s t : State) (entry_word : ℕ) (before : List ℕ) (e : Entry)
    → step ms s (worded_place entry_word before e) ≡ Ok t → finite.len t.sends ≤ finite.len s.sends + 1
more_sent law ms s t entry_word before e h =
    let p = worded_place entry_word before e in
    let few = (counted_by ms s t p ((law ms s t p).0 h)).sends in
    let one = one_sent e in
    omega (arith, few, one)

-- ---- a run from an entry to the next

-- the entries from one on are it and those after it
pub rest_of : (entries : List Entry) (index : ℕ) (e : Entry) → index < length entries
    → e ≡ get_or entries index e → drop index entries ≡ e ∷ drop (index + 1) entries
rest_of entries index e inside is =
    let next : suc index ≡ index + 1 = omega arith in
    drop-cons entries index e inside
    ∙ ap (λ (x : Entry). x ∷ drop (suc index) entries) (sym is)
    ∙ ap (λ n. e ∷ drop n entries) next

-- a step at a place is that of an entry with the word there
step_at : (ms : List Member) (s : State) (number : ℕ) (before : List ℕ) (l : Logged)
    → step ms s (logged_place number before l) ≡ step ms s (worded_place (word_of l.skipped number) before l.entry)
unfolding step
step_at ms s number before l = refl

module _ (ms : List Member) (start : State) (first : ℕ) (opening : List ℕ) (skips : List ℕ)
    (entries : List Entry) where
  -- before the first entry nothing is found
  pub begins : (next : ℕ) → next ≡ first
      → AllByRecursion HasWord (places_from first opening (logged skips entries))
      → finite.len start.received + length entries ≤ MAX_RECEIVED
      → finite.len start.sends + length entries ≤ MAX_SENDS
      → IsRun ms start first opening skips entries start [] next opening 0
  begins next same words received sends = record {
    words =
        subst (λ n. AllByRecursion HasWord (places_from n opening (logged skips entries))) (sym same) words;
    received = received;
    sends = sends;
    verdict = ap (λ n. verdict_of ms start (places_from n opening (logged skips entries))) (sym same);
  }

  module _ (s : State) (shown : List Authenticator) (next : ℕ) (before : List ℕ) (index : ℕ)
      (run : IsRun ms start first opening skips entries s shown next before index) where
    -- the verdict on all
    abbrev verdict : Verdict
    verdict = verdict_of ms start (places_from first opening (logged skips entries))

    module _ (skipped : ℕ) (e : Entry) (is : skipped ≡ get_or skips index 0)
        (rest : drop index entries ≡ e ∷ drop (index + 1) entries) where
      abbrev here : Logged
      here = record { skipped = skipped; entry = e }

      abbrev others : List Logged
      others = logged (drop (index + 1) skips) (drop (index + 1) entries)

      abbrev at : ℕ → Placed
      at number = logged_place number before here

      abbrev later : ℕ → List Placed
      later number = places_from (number + 1) (hash_after before (logged_link number here)) others

      -- it and those after it have words
      all_words : AllByRecursion HasWord (places_from next before (here ∷ others))
      all_words = subst (λ ls. AllByRecursion HasWord (places_from next before ls))
          (logged_rest skips entries index skipped e rest is) run.words

      -- there is room for what the entry brings
      pub room_received : finite.len s.received < MAX_RECEIVED
      room_received =
          let few = subst (λ (es : List Entry). finite.len s.received + length es ≤ MAX_RECEIVED) rest
          run.received in
          omega (arith, few)

      -- and room for what it sends
      pub room_sends : finite.len s.sends < MAX_SENDS
      room_sends =
          let few = subst (λ (es : List Entry). finite.len s.sends + length es ≤ MAX_SENDS) rest
          run.sends in
          omega (arith, few)

      module _ (number : ℕ) (counted : number ≡ next + skipped) where
        -- it has a word
        pub has_word : word_of skipped number < 2 ^ 64 - 1
        has_word = subst (λ n. word_of skipped n < 2 ^ 64 - 1) (sym counted) all_words.0

        -- the verdict on all is that on this entry and the rest
        whole : verdict ≡ after_all shown (verdict_of ms s (at number ∷ later number))
        whole =
            run.verdict
            ∙ ap (λ ls. after_all shown (verdict_of ms s (places_from next before ls)))
            (logged_rest skips entries index skipped e rest is)
            ∙ ap (λ n. after_all shown (verdict_of ms s (at n ∷ later n))) (sym counted)

        -- by what its step gives
        by_step : (r : Result State ReplayFault)
            → step ms s (worded_place (word_of skipped number) before e) ≡ r
            → verdict ≡ after_all shown (verdict_after ms s (at number) (later number) r)
        by_step r h =
            whole
            ∙ ap (after_all shown) (first_step ms s (at number) (later number)
            ∙ ap (verdict_after ms s (at number) (later number)) (step_at ms s number before here ∙ h))

        -- its fault is that of the verdict
        pub faults : (fault : ReplayFault) → step ms s (worded_place (word_of skipped number) before e) ≡ Err fault
            → verdict ≡ Fault fault number
        faults fault h = by_step (Err fault) h ∙ fault_found shown fault number

        -- after it the run goes on
        pub goes_on : StepsTake → (t : State) → step ms s (worded_place (word_of skipped number) before e) ≡ Ok t
            → (after : List ℕ) → after ≡ hash_after before (logged_link number here)
            → IsRun ms start first opening skips entries t (shown ++ with_shown (shown_by s e) [])
            (number + 1) after (index + 1)
        goes_on law t h after hash = record {
          words =
              let next_words = subst (λ n. AllByRecursion HasWord (later n)) (sym counted) all_words.1 in
              subst (λ b. AllByRecursion HasWord (places_from (number + 1) b others)) (sym hash) next_words;
          received =
              let few = subst (λ (es : List Entry). finite.len s.received + length es ≤ MAX_RECEIVED) rest
              run.received in
              let one = more_received law ms s t (word_of skipped number) before e h in
              omega (arith, few, one);
          sends =
              let few = subst (λ (es : List Entry). finite.len s.sends + length es ≤ MAX_SENDS) rest
              run.sends in
              let one = more_sent law ms s t (word_of skipped number) before e h in
              omega (arith, few, one);
          verdict =
              by_step (Ok t) h
              ∙ sym (after_more shown (shown_by s e) (verdict_of ms t (later number)))
              ∙ ap (λ b. after_all (shown ++ with_shown (shown_by s e) [])
              (verdict_of ms t (places_from (number + 1) b others))) (sym hash);
        }

    -- after the last entry all is found
    pub ends : drop index entries ≡ [] → verdict ≡ Sound s shown
    ends none =
        run.verdict
        ∙ ap (λ es. after_all shown
        (verdict_of ms s (places_from next before (logged (drop index skips) es)))) none
        ∙ all_found shown s

-- ---- the verdict on all

-- a verdict that is that on entries is Sound as the law says
pub sound_by : (ms : List Member) (s : State) (ps : List Placed)
    → IsSoundWhereHonest ms s ps (verdict_of ms s ps) → (v : Verdict) → verdict_of ms s ps ≡ v
    → IsSoundWhereHonest ms s ps v
sound_by ms s ps law v e = subst (IsSoundWhereHonest ms s ps) e law

-- so is the one that a call gives, if it gives one
pub sound_as : {E : Type 0} (ms : List Member) (s : State) (ps : List Placed)
    → IsSoundWhereHonest ms s ps (verdict_of ms s ps) → (v : Verdict) → v ≡ verdict_of ms s ps
    → (r : Result memory.Verdict E)
    → IfOk r (λ x. verdict_in x ≡ v) → IfOk r (λ x. IsSoundWhereHonest ms s ps (verdict_in x))
sound_as ms s ps law v e (Ok x) h = sound_by ms s ps law (verdict_in x) (sym (h ∙ e))
sound_as ms s ps law v e (Err x) h = tt
