-- The states of honest logs can be spelled.
-- Serves: honest_states_are_spelled.
use Rattle.std.proofs.Common.{◌≡◌, ℕ, ◌+◌, ◌<◌, ◌^◌, List, [], ◌∷◌, ◌++◌, refl, sym, subst, ◌∙◌}
use Rattle.std.proofs.Common.{arith}
use Rattle.std.specs.List.{AllByRecursion}
use Rattle.nfs_items.specs.xdr.Item.{Fits}
use Rattle.secure_log.specs.authenticator.declared.member.Kind.{Kind}
use Rattle.secure_log.specs.authenticator.declared.member.Kind.TheVariants as kinds
use Rattle.secure_log.specs.authenticator.declared.member.Member.{Member}
use Rattle.secure_log.specs.authenticator.declared.member.LogVersion.{LogVersion}
use Rattle.secure_log.specs.authenticator.Numbers.{word_of}
use Rattle.secure_log.specs.LogEntries.Chain.{Logged, span}
use Rattle.secure_log.specs.LogEntries.Entry.{entry_item, entry_value}
use Rattle.secure_log.specs.Log.{HasNumbers, log_hash}
use Rattle.state_spec.specs.State.{Machine, State, opened_with, IsMachine}
use Rattle.replay_spec.specs.Bodies.{HasBytes}
use Rattle.replay_spec.specs.HonestLogs.{IsHonestLog}
use Rattle.replay_spec.specs.Opening.{opening_by}
use Rattle.replay_spec.specs.Placed.{logged_place}
use Rattle.replay_spec.specs.StateLaws.{IsSpelled, HonestStatesAreSpelled}
use Rattle.replay_spec.specs.Steps.{Takes}
use Rattle.replay_spec.proofs.Logs.{carried, node_step}
use Rattle.replay_spec.proofs.OfLogLaws.Numbers.{all_front}
use Rattle.replay_spec.proofs.OfStateLaws.MachineSteps.{WorldsStay, RepliesAreShort, IsKept, kept_after}
use Rattle.replay_spec.proofs.OfStateLaws.MessagesFit.{AllFit, fit_after, nothing_fits, received_said}
use Rattle.replay_spec.proofs.OfStateLaws.MessagesFit.{sends_said}
use Rattle.replay_spec.proofs.OfStateLaws.OpeningWorlds.{opening_is_world}

-- entries have texts, whose bodies are bytes
abbrev AreTexts : List Logged → Type 0
AreTexts log =
    AllByRecursion (λ l. Fits entry_item (entry_value l.entry)) log × AllByRecursion (λ l. HasBytes l.entry) log

-- what stays of the state of a node
record IsKeptState (node : ℕ) (s : State) : Type 0 where
  same_node : s.node ≡ node
  machine : IsKept node s.machine
  received : AllFit s.received

module _ (stays : WorldsStay) (short : RepliesAreShort) (ms : List Member) (node : ℕ) where
  abbrev Stays : List Logged → State → Type 0
  Stays log s = AreTexts log → IsKeptState node s

  next : (log : List Logged) (l : Logged) (s t : State) → Stays log s
      → Takes ms s (logged_place (span log + 1 + l.skipped) (log_hash log) l) t → Stays (log ++ l ∷ []) t
  next log l s t so takes all =
      let n = span log + 1 + l.skipped in
      let texts = all_front (λ (l : Logged). Fits entry_item (entry_value l.entry)) log l all.0 in
      let bytes = all_front (λ (l : Logged). HasBytes l.entry) log l all.1 in
      let old = so (texts.0, bytes.0) in
      record {
        same_node = node_step ms s t (logged_place n (log_hash log) l) takes ∙ old.same_node;
        machine =
            subst (λ (t : State). IsKept node t.machine) (sym takes.after)
            (kept_after stays short ms node s (word_of l.skipped n) (log_hash log) l.entry texts.1 bytes.1
            takes.stands old.machine);
        received =
            subst (λ (t : State). AllFit t.received) (sym takes.after)
            (fit_after s (word_of l.skipped n) (log_hash log) l.entry texts.1 old.received);
      }

  from : (machine : Machine) → IsKept node machine → node < 2 ^ 32 → (v : LogVersion) (log : List Logged)
      (s : State) → AreTexts log → HasNumbers v log → IsHonestLog ms (opened_with node machine) log s
      → IsSpelled s
  from machine begins word v log s all has honest =
      let start : Stays [] (opened_with node machine) =
      λ none. record { same_node = refl; machine = begins; received = nothing_fits } in
      let kept = carried ms (opened_with node machine) Stays start next log s honest all in
      record {
        state = subst (λ n. IsMachine n s.machine) (sym kept.same_node) kept.machine.machine;
        node = omega (arith, kept.same_node, word);
        received = received_said s.received kept.received;
        sends = sends_said v ms node machine s log all.0 has honest;
        machine = kept.machine.spelled;
      }

-- the states of honest logs can be spelled, where worlds stay worlds and replies are short
pub spelled : WorldsStay → RepliesAreShort → HonestStatesAreSpelled
spelled stays short v ms m log s word texts bytes has honest = by m.kind honest
  where
    by : (kind : Kind) → IsHonestLog ms (opening_by kind m.node) log s → IsSpelled s
    by kinds.Server h =
        from stays short ms m.node _
        (record { machine = opening_is_world m.node word; spelled = (omega arith, refl, tt); heard = tt })
        word v log s (texts, bytes) has h
    by kinds.Client h =
        from stays short ms m.node _
        (record { machine = omega arith; spelled = omega arith; heard = tt }) word v log s (texts, bytes) has h
