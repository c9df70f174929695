-- Where a member's log is audited up to, after a step.
-- Serves: steps_move_ends.
use Rattle.std.proofs.Common.{◌≡◌, ◌⊎◌, inl, inr, ℕ, Bool, true, false, ◌==◌, List, [], ◌∷◌, ◌++◌}
use Rattle.std.proofs.Common.{Option, Some, None, Result, Ok, Err, refl, sym, ap, ap₂, subst, ◌∙◌, eqb-true}
use Rattle.std.specs.Prelude.{if◌then◌else◌}
use Rattle.std.proofs.lemmas.Option.{same_Some}
use Rattle.authenticator.specs.Roster.{IsRoster, member_of}
use Rattle.authenticator.specs.declared.member.Member.{Member}
use Rattle.authenticator.proofs.Members.{member_node}
use Rattle.authenticator.specs.declared.refusal.Refusal as checks
use Rattle.secure_log.specs.LogEntries.Chain.{IsAmong}
use Rattle.authenticator.specs.declared.authenticator.Authenticator.{Authenticator}
use Rattle.witness_spec.specs.evidence_spec.replay_spec.Replay.{Verdict, Sound, Fault, verdict_of}
use Rattle.witness_spec.specs.evidence_spec.replay_spec.Stepping.{ReplayFault}
use Rattle.witness_spec.specs.evidence_spec.replay_spec.Placed.{places_in}
use Rattle.witness_spec.specs.packets.Packet.{Delivery}
use Rattle.witness_spec.specs.packets.Packet as packets
use Rattle.witness_spec.specs.packets.Judging.{judged}
use Rattle.witness_spec.specs.state_spec.State.{State}
use Rattle.witness_spec.specs.Refusals.{Refusal}
use Rattle.witness_spec.specs.Refusals as refusals
use Rattle.witness_spec.specs.Events.{Event, DoneParts, JobParts, PublicKey, IsEvent}
use Rattle.witness_spec.specs.Events as events
use Rattle.witness_spec.specs.Replies.{Reply, Filed, FileRefused, is_want_of_memory}
use Rattle.witness_spec.specs.Starting.{Beginning, IsBeginning}
use Rattle.witness_spec.specs.Watched.{Watched, watched, IsInRoster}
use Rattle.witness_spec.specs.Steps.{Step, OwnStep, Past}
use Rattle.witness_spec.specs.Steps as steps
use Rattle.witness_spec.specs.Whose.{whose, step_of, signed_step, sent_step, closed_step, judged_step}
use Rattle.witness_spec.specs.Whose.{is_key_of}
use Rattle.witness_spec.specs.Whose.{same_roster}
use Rattle.witness_spec.specs.Done.{filed}
use Rattle.witness_spec.specs.Pairs.{last_of}
use Rattle.witness_spec.specs.Standing.{End, end_of, end_after, moved_by, verdict_on, Stage, NoAudit, Wanted}
use Rattle.witness_spec.specs.Standing.{Given}
use Rattle.witness_spec.specs.Standing.{Out, stage_of, job_of, out_at, job_out}
use Rattle.witness_spec.specs.Owing.{Owes, back_reply}
use Rattle.witness_spec.specs.Histories.{History, own_of, own_step, IsHistory, IsOwed, OwesTo}
use Rattle.witness_spec.specs.Histories.{BookParts}
use Rattle.witness_spec.specs.Histories.{StandEach, StandsFor, AreOwed, IsWanting}
use Rattle.witness_book_laws.proofs.witness_laws.Doing.{Doing, Nothing, Notes, Accepts, Asks, Begins, Files, PutsBack, doing}
use Rattle.witness_book_laws.proofs.witness_laws.Checked.{IsCheckedStep, AreChecked, IsGiven, own_checked}
use Rattle.witness_book_laws.proofs.witness_laws.OwnSteps.{own_owed}
use Rattle.witness_book_laws.proofs.Known.{RosterAt}
use Rattle.witness_book_laws.proofs.AllBooks.{all_watched, its_beginning}
use Rattle.watching.specs.Ends.{ends_of, with_end, sound_to, end_filed, moved_ends, ends_after, StepsMoveEnds}

-- ---- steps that file nothing

-- a step that is given so files nothing
abbrev IsQuiet : Result OwnStep Refusal → Reply → Type 0
IsQuiet (Ok o) reply = filed o.step reply ≡ None
IsQuiet (Err refusal) reply = Unit {0}

quiet_if : (b : Bool) (one other : Result OwnStep Refusal) (reply : Reply) → IsQuiet one reply
    → IsQuiet other reply
    → IsQuiet (if b then one else other) reply
quiet_if true one other reply h k = h
quiet_if false one other reply h k = k

quiet_step : (x : Option Member) (step : Step) (reply : Reply) → filed step reply ≡ None
    → IsQuiet (step_of x step) reply
quiet_step None step reply h = tt
quiet_step (Some m) step reply h = h

quiet_signed : (x : Option Member) (key : PublicKey) (step : Step) (reply : Reply) → filed step reply ≡ None
    → IsQuiet (signed_step x key step) reply
quiet_signed None key step reply h = tt
quiet_signed (Some m) key step reply h = quiet_if (is_key_of m key) _ _ reply h tt

quiet_sent : (x y : Option Member) (key : PublicKey) (step : Step) (reply : Reply) → filed step reply ≡ None
    → IsQuiet (sent_step x y key step) reply
quiet_sent None y key step reply h = tt
quiet_sent (Some m) None key step reply h = tt
quiet_sent (Some m) (Some n) key step reply h = quiet_if (is_key_of m key) _ _ reply h tt

quiet_closed : (x : Option Member) (same : Bool) (step : Step) (reply : Reply) → filed step reply ≡ None
    → IsQuiet (closed_step x same step) reply
quiet_closed None same step reply h = tt
quiet_closed (Some m) same step reply h = quiet_if same _ _ reply h tt

quiet_judged : (ms : List Member) (r : Result Delivery checks.Refusal) (reply : Reply)
    → IsQuiet (judged_step ms r) reply
quiet_judged ms (Ok (packets.Learn a)) reply = quiet_step (member_of ms a.node) _ reply refl
quiet_judged ms (Ok (packets.SendChallenge e)) reply = quiet_step (member_of ms e.to) _ reply refl
quiet_judged ms (Ok (packets.Answer s)) reply = quiet_step (member_of ms s.closing.node) _ reply refl
quiet_judged ms (Ok (packets.AckIn a)) reply = quiet_step (member_of ms a.by) _ reply refl
quiet_judged ms (Err refusal) reply = tt

-- the replay that an event with its reply files
abbrev filing : Event → Reply → Option DoneParts
filing (events.File d) Filed = Some d
filing _ _ = None

quiet_file : (x : Option Member) (d : DoneParts) (reply : Reply) → filing (events.File d) reply ≡ None
    → IsQuiet (step_of x (steps.File d)) reply
quiet_file x d Filed h = absurd (cc)
quiet_file x d reply h = quiet_step x (steps.File d) reply refl

quiet_whose : (ms : List Member) (event : Event) (reply : Reply) → filing event reply ≡ None
    → IsQuiet (whose ms event) reply
quiet_whose ms (events.Deliver bytes) reply h = quiet_judged ms (judged ms bytes) reply
quiet_whose ms (events.Learn a key) reply h = quiet_signed (member_of ms a.node) key _ reply refl
quiet_whose ms (events.SendChallenge e key) reply h =
    quiet_sent (member_of ms e.from) (member_of ms e.to) key _ reply refl
quiet_whose ms (events.Answer c) reply h =
    quiet_closed (member_of ms c.segment.closing.node) (same_roster c.roster ms) _ reply refl
quiet_whose ms (events.AckIn a key) reply h = quiet_signed (member_of ms a.by) key _ reply refl
quiet_whose ms (events.Audit node) reply h = quiet_step (member_of ms node) _ reply refl
quiet_whose ms (events.Begin node) reply h = quiet_step (member_of ms node) _ reply refl
quiet_whose ms (events.File d) reply h = quiet_file (member_of ms d.job.node) d reply h
quiet_whose ms (events.PutBack j) reply h = quiet_step (member_of ms j.node) _ reply refl
quiet_whose ms (events.Forward node) reply h = quiet_step (member_of ms node) _ reply refl
quiet_whose ms (events.Ask node question) reply h = quiet_step (member_of ms node) _ reply refl

-- such a step leaves a member's end
quiet_end : (w : Watched) (past : Past) (node : ℕ) (its : Result OwnStep Refusal) (reply : Reply)
    (want : Bool)
    → IsQuiet its reply → end_of w ((if want then [] else own_step node its reply) ++ past) ≡ end_of w past
quiet_end w past node its reply true h = refl
quiet_end w past node (Err refusal) reply false h = refl
quiet_end w past node (Ok o) reply false h = by (o.member.node == node)
  where
    by : (b : Bool) → end_of w ((if b then (o.step, reply) ∷ [] else []) ++ past) ≡ end_of w past
    by true = ap (end_after w.roster (end_of w past)) h
    by false = refl

-- and the ends of all
quiet_ends : (g : Beginning) (history : History) (event : Event) (reply : Reply) → filing event reply ≡ None
    → (ms : List Member) (old new : List BookParts) → StandEach g history ms old
    → StandEach g ((event, reply) ∷ history) ms new → ends_of new ≡ ends_of old
quiet_ends g history event reply h [] [] [] is to = refl
quiet_ends g history event reply h [] (b ∷ old) new is to = absurd is
quiet_ends g history event reply h [] [] (c ∷ new) is to = absurd to
quiet_ends g history event reply h (m ∷ ms) [] new is to = absurd is
quiet_ends g history event reply h (m ∷ ms) (b ∷ old) [] is to = absurd to
quiet_ends g history event reply h (m ∷ ms) (b ∷ old) (c ∷ new) is to =
    let w : Watched = watched g m in
    let same : end_of w (own_of w ((event, reply) ∷ history)) ≡ end_of w (own_of w history) =
    quiet_end w (own_of w history) m.node (whose g.roster event) reply (is_want_of_memory reply)
    (quiet_whose g.roster event reply h) in
    let one : c.end.number ≡ b.end.number = ap (λ (e : End). e.number) (to.0.end ∙ same ∙ sym is.0.end) in
    ap₂ (λ (n : ℕ) (ns : List ℕ). n ∷ ns) one (quiet_ends g history event reply h ms old new is.1 to.1)

-- ---- the roster under which an audit's segment is closed

module _ (w : Watched) where
  roster_on : (past : Past) (p : Step × Reply) → Doing w past p → IsCheckedStep w p.0
      → RosterAt w.roster (stage_of past) → RosterAt w.roster (stage_of (p ∷ past))
  roster_on past p (Nothing did) checked at = subst (RosterAt w.roster) (sym did.stage) at
  roster_on past p (Notes a same above did) checked at = subst (RosterAt w.roster) (sym did.stage) at
  roster_on past p (Accepts c same wanted did) checked at =
      let given : IsGiven w c = subst (IsCheckedStep w) same checked in
      subst (RosterAt w.roster) (sym did.stage) given.roster
  roster_on past p (Asks first last is few did) checked at = subst (RosterAt w.roster) (sym did.stage) tt
  roster_on past p (Begins c is did) checked at =
      subst (RosterAt w.roster) (sym did.stage) (subst (RosterAt w.roster) is at)
  roster_on past p (Files j is did) checked at = subst (RosterAt w.roster) (sym did.stage) tt
  roster_on past p (PutsBack c is did) checked at =
      subst (RosterAt w.roster) (sym did.stage) (subst (RosterAt w.roster) is at)

  roster_at : (past : Past) → AreOwed w past → AreChecked w past → RosterAt w.roster (stage_of past)
  roster_at [] owed checked = tt
  roster_at (p ∷ past) owed checked =
      roster_on past p (doing w past p.0 p.1 owed.0) checked.0 (roster_at past owed.1 checked.1)

-- ---- a replay is filed

true_is : (b : Bool) (x : Option JobParts) (d : DoneParts)
    → Filed ≡ back_reply b x Filed (FileRefused refusals.WrongJob d) (FileRefused refusals.NoJob d) → b ≡ true
true_is true x d h = refl
true_is false None d h = absurd (cc)
true_is false (Some j) d h = absurd (cc)

module _ (w : Watched) (past : Past) where
  -- the job that is out is of the audit's segment and the end's state
  out_parts : (j : JobParts) (s : Stage) → out_at w past s ≡ Some j
      → (s ≡ Out j.segment) × (j.state ≡ (end_of w past).state)
  out_parts j NoAudit h = absurd (cc)
  out_parts j (Wanted first last) h = absurd (cc)
  out_parts j (Given c) h = absurd (cc)
  out_parts j (Out c) h =
      let same = same_Some (job_of w past c) j h in
      (ap (λ (x : JobParts). Out x.segment) same, sym (ap (λ (x : JobParts). x.state) same))

  -- its verdict is that of the member's own roster and end
  verdict_is : (d : DoneParts) → Owes w past (steps.File d) Filed → RosterAt w.roster (stage_of past)
      → d.verdict ≡ verdict_of d.job.segment.roster d.job.state (places_in d.job.segment.segment)
      → verdict_on w.roster (end_of w past).state d.job ≡ d.verdict
  verdict_is d o at told =
      let out : job_out w past ≡ Some d.job = o.decides.0 (true_is o.is_out (job_out w past) d o.told) in
      let parts = out_parts d.job (stage_of past) out in
      let roster : d.job.segment.roster ≡ w.roster = subst (RosterAt w.roster) parts.0 at in
      sym (told ∙ ap₂
      (λ (ms : List Member) (s : State). verdict_of ms s (places_in d.job.segment.segment)) roster
      parts.1)

module _ (g : Beginning) (history : History) (d : DoneParts)
    (is : IsHistory g ((events.File d, Filed) ∷ history)) where
  -- where a member's audit ends after it
  abbrev EndIs : Member → Type 0
  EndIs m =
      let w : Watched = watched g m in
      let end : End = end_of w (own_of w history) in
      end_of w (own_of w ((events.File d, Filed) ∷ history))
      ≡ (if d.job.node == m.node then moved_by end (last_of d.job.segment.segment) d.verdict else end)

  -- of the member whose replay it is
  own_end : (m k : Member) → IsInRoster (watched g m) → k ≡ m
      → Owes (watched g k) (own_of (watched g k) history) (steps.File d) Filed
      → end_of (watched g m) ((steps.File d, Filed) ∷ own_of (watched g m) history)
      ≡ moved_by (end_of (watched g m) (own_of (watched g m) history))
      (last_of d.job.segment.segment) d.verdict
  own_end m k known same owed =
      let w : Watched = watched g m in
      let past : Past = own_of w history in
      let owes : Owes w past (steps.File d) Filed =
      subst (λ (n : Member). Owes (watched g n) (own_of (watched g n) history)
      (steps.File d) Filed) same owed in
      let at : RosterAt w.roster (stage_of past) =
      roster_at w past (own_owed g w known (its_beginning g m) history is.2)
      (own_checked g w known (its_beginning g m) history is.2) in
      ap (moved_by (end_of w past) (last_of d.job.segment.segment)) (verdict_is w past d owes at is.0.1)

  end_by : (m : Member) → IsInRoster (watched g m) → (x : Option Member) → member_of g.roster d.job.node ≡ x
      → OwesTo g history (events.File d) Filed (step_of x (steps.File d))
      → (let w : Watched = watched g m in
      let end : End = end_of w (own_of w history) in
      end_of w (own_step m.node (step_of x (steps.File d)) Filed ++ own_of w history)
      ≡ (if d.job.node == m.node then moved_by end (last_of d.job.segment.segment) d.verdict else end))
  end_by m known None is_x owed = absurd (cc)
  end_by m known (Some k) is_x owed =
      let node : k.node ≡ d.job.node = member_node g.roster d.job.node k is_x in
      by (k.node == m.node) refl
      ∙ ap (λ n. if n == m.node then moved_by end (last_of d.job.segment.segment) d.verdict else end) node
    where
      w : Watched
      w = watched g m

      end : End
      end = end_of w (own_of w history)

      by : (t : Bool) → (k.node == m.node) ≡ t
          → end_of w ((if t then (steps.File d, Filed) ∷ [] else []) ++ own_of w history)
          ≡ (if t then moved_by end (last_of d.job.segment.segment) d.verdict else end)
      by true e =
          let nodes : d.job.node ≡ m.node =
          sym (member_node g.roster d.job.node k is_x) ∙ eqb-true k.node m.node e in
          own_end m k known
          (same_Some k m (sym is_x ∙ (ap (member_of g.roster) nodes ∙ known.is_member))) owed
      by false e = refl

  end_is : (m : Member) → IsInRoster (watched g m) → EndIs m
  end_is m known = by is.1
    where
      by : IsOwed g history (events.File d) Filed ⊎ IsWanting (events.File d) Filed → EndIs m
      by (inl owed) = end_by m known (member_of g.roster d.job.node) refl owed
      by (inr wanting) = absurd (let e = wanting.is in cc)

  -- the number that a verdict leaves there
  abbrev number_by : ℕ → Verdict → ℕ
  number_by n (Sound state found) = last_of d.job.segment.segment
  number_by n (Fault fault number) = n

  moved_number : (end : End) (t : Bool) (v : Verdict)
      → (if t then moved_by end (last_of d.job.segment.segment) v else end).number
      ≡ (if t then number_by end.number v else end.number)
  moved_number end true (Sound state found) = refl
  moved_number end true (Fault fault number) = refl
  moved_number end false v = refl

  -- the number in a member's book
  number_is : (v : Verdict) → d.verdict ≡ v → (m : Member) → IsInRoster (watched g m) → (b c : BookParts)
      → StandsFor (watched g m) (own_of (watched g m) history) b
      → StandsFor (watched g m) (own_of (watched g m) ((events.File d, Filed) ∷ history)) c
      → c.end.number ≡ (if d.job.node == m.node then number_by b.end.number v else b.end.number)
  number_is v is_v m known b c before after =
      let number : End → ℕ = λ end. end.number in
      ap number (after.end ∙ end_is m known)
      ∙ (moved_number (end_of (watched g m) (own_of (watched g m) history)) (d.job.node == m.node) d.verdict
      ∙ ap₂ (λ (x : Verdict) (n : ℕ). if d.job.node == m.node then number_by n x else n) is_v
      (sym (ap number before.end)))

  -- the numbers of all, where the segment is sound
  sound_each : (s : State) (found : List Authenticator) → d.verdict ≡ Sound s found → (ms : List Member)
      → ((m : Member) → IsAmong m ms → IsInRoster (watched g m))
      → (old new : List BookParts) → StandEach g history ms old
      → StandEach g ((events.File d, Filed) ∷ history) ms new
      → ends_of new ≡ with_end ms d.job.node (last_of d.job.segment.segment) (ends_of old)
  sound_each s found is_v [] known [] [] before after = refl
  sound_each s found is_v [] known (b ∷ old) new before after = absurd before
  sound_each s found is_v [] known [] (c ∷ new) before after = absurd after
  sound_each s found is_v (m ∷ ms) known [] new before after = absurd before
  sound_each s found is_v (m ∷ ms) known (b ∷ old) [] before after = absurd after
  sound_each s found is_v (m ∷ ms) known (b ∷ old) (c ∷ new) before after =
      ap₂ (λ (n : ℕ) (ns : List ℕ). n ∷ ns)
      (number_is (Sound s found) is_v m (known m (inl refl)) b c before.0 after.0)
      (sound_each s found is_v ms (λ n i. known n (inr i)) old new before.1 after.1)

  -- where it has a fault
  fault_each : (fault : ReplayFault) (number : ℕ) → d.verdict ≡ Fault fault number → (ms : List Member)
      → ((m : Member) → IsAmong m ms → IsInRoster (watched g m))
      → (old new : List BookParts) → StandEach g history ms old
      → StandEach g ((events.File d, Filed) ∷ history) ms new → ends_of new ≡ ends_of old
  fault_each fault number is_v [] known [] [] before after = refl
  fault_each fault number is_v [] known (b ∷ old) new before after = absurd before
  fault_each fault number is_v [] known [] (c ∷ new) before after = absurd after
  fault_each fault number is_v (m ∷ ms) known [] new before after = absurd before
  fault_each fault number is_v (m ∷ ms) known (b ∷ old) [] before after = absurd after
  fault_each fault number is_v (m ∷ ms) known (b ∷ old) (c ∷ new) before after =
      ap₂ (λ (n : ℕ) (ns : List ℕ). n ∷ ns)
      (number_is (Fault fault number) is_v m (known m (inl refl)) b c before.0 after.0
      ∙ either (d.job.node == m.node) b.end.number)
      (fault_each fault number is_v ms (λ n i. known n (inr i)) old new before.1 after.1)
    where
      either : (t : Bool) (n : ℕ) → (if t then n else n) ≡ n
      either true n = refl
      either false n = refl

  filed_each : (v : Verdict) → d.verdict ≡ v → ((m : Member) → IsAmong m g.roster → IsInRoster (watched g m))
      → (old new : List BookParts) → StandEach g history g.roster old
      → StandEach g ((events.File d, Filed) ∷ history) g.roster new
      → ends_of new ≡ moved_ends g.roster (sound_to d.job v) (ends_of old)
  filed_each (Sound s found) is_v known old new before after =
      sound_each s found is_v g.roster known old new before after
  filed_each (Fault fault number) is_v known old new before after =
      fault_each fault number is_v g.roster known old new before after

-- ---- all steps

-- where nothing was filed nothing is moved
unmoved : (ms : List Member) (event : Event) (reply : Reply) (ends : List ℕ) → end_filed event ≡ None
    → ends_after ms event reply ends ≡ ends
unmoved ms event Filed ends h = ap (λ x. moved_ends ms x ends) h
unmoved ms event reply ends h = refl

module _ (g : Beginning) (old new : List BookParts) (history : History) (roster : IsRoster g.roster)
    (begins : IsBeginning g) where
  -- an event that files nothing
  stay : (event : Event) (reply : Reply) → filing event reply ≡ None → end_filed event ≡ None
      → StandEach g history g.roster old → StandEach g ((event, reply) ∷ history) g.roster new
      → ends_of new ≡ ends_after g.roster event reply (ends_of old)
  stay event reply h k before after =
      quiet_ends g history event reply h g.roster old new before after
      ∙ sym (unmoved g.roster event reply (ends_of old) k)

  -- an event with its reply
  move_by : (event : Event) (reply : Reply) → IsHistory g ((event, reply) ∷ history)
      → StandEach g history g.roster old → StandEach g ((event, reply) ∷ history) g.roster new
      → ends_of new ≡ ends_after g.roster event reply (ends_of old)
  move_by (events.File d) Filed is before after =
      filed_each g history d is d.verdict refl (all_watched g roster begins) old new before after
  move_by (events.File d) reply is before after =
      quiet_ends g history (events.File d) reply refl g.roster old new before after
  move_by (events.Deliver bytes) reply is before after = stay
      (events.Deliver bytes) reply refl refl before after
  move_by (events.Learn a key) reply is before after = stay (events.Learn a key) reply refl refl before after
  move_by (events.SendChallenge e key) reply is before after =
      stay (events.SendChallenge e key) reply refl refl before after
  move_by (events.Answer c) reply is before after = stay (events.Answer c) reply refl refl before after
  move_by (events.AckIn a key) reply is before after = stay (events.AckIn a key) reply refl refl before after
  move_by (events.Audit node) reply is before after = stay (events.Audit node) reply refl refl before after
  move_by (events.Begin node) reply is before after = stay (events.Begin node) reply refl refl before after
  move_by (events.PutBack j) reply is before after = stay (events.PutBack j) reply refl refl before after
  move_by (events.Forward node) reply is before after = stay
      (events.Forward node) reply refl refl before after
  move_by (events.Ask node question) reply is before after =
      stay (events.Ask node question) reply refl refl before after

-- every step moves the ends so
pub moves_ends : StepsMoveEnds
moves_ends g old new event reply roster begins are steps =
    let after = steps are.history are.is are.stands in
    move_by g old new are.history roster begins event reply after.0 are.stands after.1
