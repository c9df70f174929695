-- Evidence that an honest log stands against proves nothing.
-- Serves: what_proves_nothing.
use Rattle.std.proofs.Common.{◌≡◌, ℕ, List, [], ◌∷◌, ◌++◌, Option, Some, None, refl, sym, ◌∙◌, subst}
use Rattle.std.specs.Prelude.{IfSome, option_map}
use Rattle.std.specs.List.{AllByRecursion}
use Rattle.replay_spec.specs.authenticator.declared.authenticator.Authenticator.{Authenticator}
use Rattle.replay_spec.specs.authenticator.declared.member.LogVersion.{LogVersion}
use Rattle.replay_spec.specs.authenticator.declared.member.Member.{Member}
use Rattle.replay_spec.specs.authenticator.Roster.{member_of}
use Rattle.replay_spec.specs.authenticator.Signed.{IsSignedIn}
use Rattle.replay_spec.specs.secure_log.LogEntries.Chain.{Logged, NoCollision, IsAmong}
use Rattle.replay_spec.specs.state_spec.State.{State}
use Rattle.replay_spec.specs.Opening.{opening_of}
use Rattle.replay_spec.specs.HonestLogs.{IsHonestLog}
use Rattle.evidence_spec.specs.Showing.{authenticator_showing}
use Rattle.evidence_spec.specs.Evidence.{Charge, ForkParts, Fork, Replay, Based, EvidenceParts}
use Rattle.evidence_spec.specs.Laws.{HasNoBase}
use Rattle.evidence_spec.specs.Proving.{IsLogOf, texts_of, texts_beside, charge_texts, closings, option_texts}
use Rattle.evidence_spec.specs.Proving.{option_closings, IsUnforgedIn, Withstands, Proves}
use Rattle.replay_spec.proofs.secure_log.Logs.{no_numbers}
use Rattle.replay_spec.proofs.secure_log.OfLogEntries.FewerTexts.{fewer, both}

-- without a base all texts are those of the log and the charge
plain_texts : (charge : Charge) → HasNoBase charge → (log : List Logged) (t : State) (states : List State)
    → NoCollision (texts_of log ++ charge_texts charge) → NoCollision (texts_beside log charge t states)
plain_texts (Fork f) none log t states unlike = unlike
plain_texts (Replay s) none log t states unlike = unlike
plain_texts (Based b s) none log t states unlike = absurd none

-- evidence whose texts are all those of an honest log, with no signature forged against it, proves nothing
pub own_texts : (ms : List Member) (member : Member) (e : EvidenceParts) (log : List Logged) (s : State)
    → member_of ms e.node ≡ Some member → IsLogOf member.log_version log
    → IsHonestLog ms (opening_of member) log s
    → AllByRecursion (IsUnforgedIn member.log_version ms member.node log) (closings e.charge)
    → HasNoBase e.charge
    → ((t : List ℕ) → IsAmong t (charge_texts e.charge) → IsAmong t (texts_of log))
    → NoCollision (texts_of log)
    → ¬ Proves ms e
own_texts ms member e log s there is honest unforged none own unlike = λ p.
    let both_some : Some p.member ≡ Some member = sym p.is_member ∙ there in
    let same : member ≡ p.member = cc in
    let ls = texts_of log in
    let gs = charge_texts e.charge in
    p.none log (subst (λ m. Withstands ms m e.charge log) same (record {
      is_log = is;
      state = s;
      honest = honest;
      unforged = unforged;
      no_collision = λ t beside.
          plain_texts e.charge none log t (opening_of member ∷ honest.states)
          (fewer (ls ++ gs) ls (both ls gs ls (λ t i. i) own) unlike);
    }))

-- ---- authenticators that aren't signed

no_texts : (v : LogVersion) (b : Option Authenticator) (t : List ℕ)
    → IsAmong t (option_texts (option_map (authenticator_showing v) b)) → ⊥
no_texts v None t i = i
no_texts v (Some a) t i = i

each_unforged : (v w : LogVersion) (ms : List Member) (node : ℕ) (log : List Logged) (b : Option Authenticator)
    → IfSome b (λ c. ¬ IsSignedIn ms c)
    → AllByRecursion (IsUnforgedIn w ms node log) (option_closings (option_map (authenticator_showing v) b))
each_unforged v w ms node log None h = tt
each_unforged v w ms node log (Some a) h = (λ of signed. absurd (h signed), tt)

-- a fork of authenticators that the node didn't sign proves nothing
pub unsigned : (v : LogVersion) (ms : List Member) (member : Member) (node at : ℕ) (a : Authenticator)
    (b : Option Authenticator)
    → member_of ms node ≡ Some member → ¬ IsSignedIn ms a → IfSome b (λ c. ¬ IsSignedIn ms c)
    → let showings : ForkParts = record {
      log_version = v;
      at = at;
      a = authenticator_showing v a;
      b = option_map (authenticator_showing v) b;
    } in
    ¬ Proves ms (record { node = node; charge = Fork showings })
unsigned v ms member node at a b there h k =
    let showings : ForkParts = record {
      log_version = v;
      at = at;
      a = authenticator_showing v a;
      b = option_map (authenticator_showing v) b;
    } in
    own_texts ms member (record { node = node; charge = Fork showings }) [] (opening_of member) there
    (record { each = tt; bytes = tt; numbers = no_numbers member.log_version })
    (record { states = []; honest = tt; last = refl })
    (λ of signed. absurd (h signed), each_unforged v member.log_version ms member.node [] b k) tt
    (λ t i. absurd (no_texts v b t i)) (λ s t i j e. absurd i)
