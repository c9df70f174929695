-- A step is told by the entry's fault, and signatures by what it means that something is signed.
-- Serves: is_signed_in, step.
use Rattle.std.proofs.Common.{◌≡◌, ◌↔◌, ℕ, Bool, true, false, IsTrue, List, Option, Some, None, Ok, Err}
use Rattle.std.proofs.Common.{refl, sym, ap, ◌∙◌}
use Rattle.merkle_keys.specs.Signing.{Signed}
use Rattle.authenticator.specs.Roster.{member_of}
use Rattle.authenticator.specs.Signed.{signed_digest}
use Rattle.authenticator.specs.declared.member.Member.{Member}
use Rattle.authenticator.specs.declared.authenticator.Authenticator.{Authenticator}
use Rattle.secure_log.specs.declared.log_entries.entry.Entry.{Entry}
use Rattle.checkpoint.specs.state_spec.State.{State}
use Rattle.authenticator.specs.Signing.{is_signed, is_signed_by, is_signed_in}
use Rattle.replay_spec.specs.Steps.{after_entry}
use Rattle.replay.specs.Steps.{worded_place}
use Rattle.replay_spec.specs.Stepping.{ReplayFault, fault_of, unless_fault, step}

-- an entry with a fault
pub faulty : (ms : List Member) (s : State) (entry_word : ℕ) (before : List ℕ) (e : Entry) (fault : ReplayFault)
    → Some fault ≡ fault_of ms s e → step ms s (worded_place entry_word before e) ≡ Err fault
unfolding step
faulty ms s entry_word before e fault h = ap (unless_fault (after_entry s entry_word before e)) (sym h)

-- an entry without one
pub faultless : (ms : List Member) (s : State) (entry_word : ℕ) (before : List ℕ) (e : Entry)
    → None ≡ fault_of ms s e → step ms s (worded_place entry_word before e) ≡ Ok (after_entry s entry_word before e)
unfolding step
faultless ms s entry_word before e h = ap (unless_fault (after_entry s entry_word before e)) (sym h)

-- two tests are one where they pass together
together : (a b : Bool) → (a ≡ true → b ≡ true) → (b ≡ true → a ≡ true) → a ≡ b
together true b f g = sym (f refl)
together false true f g = g refl
together false false f g = refl

-- a test on a member's signature is that of the roster that has the member
pub signed_same : (ms : List Member) (a : Authenticator) (m : Member) (b : Bool)
    → member_of ms a.node ≡ Some m
    → (IsTrue b ↔ Signed m.root m.height (signed_digest a.node a.word a.hash) a.signature)
    → (IsTrue (is_signed m.root m.height (signed_digest a.node a.word a.hash) a.signature)
    ↔ Signed m.root m.height (signed_digest a.node a.word a.hash) a.signature)
    → b ≡ is_signed_in ms a
signed_same ms a m b there tested law =
    let one = is_signed m.root m.height (signed_digest a.node a.word a.hash) a.signature in
    together b one (λ h. law.1 (tested.0 h)) (λ h. tested.1 (law.0 h))
    ∙ ap (λ (o : Option Member). is_signed_by o a) (sym there)
