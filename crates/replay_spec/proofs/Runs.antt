-- Runs of the machine: they are one at most, sound ones are honest, and a fault is the first.
-- Serves: one_run, sound_exactly_if, fault_exactly_if, parts_are_honest.
use Rattle.std.proofs.Common.{◌≡◌, ℕ, List, [], ◌∷◌, ◌++◌, Option, Result, Ok, Err}
use Rattle.std.proofs.Common.{refl, sym, ap, ap₂, subst, ◌∙◌}
use Rattle.secure_log.specs.authenticator.declared.member.Member.{Member}
use Rattle.secure_log.specs.authenticator.declared.authenticator.Authenticator.{Authenticator}
use Rattle.state_spec.specs.State.{State}
use Rattle.replay_spec.specs.Placed.{Placed}
use Rattle.replay_spec.specs.Steps.{Takes}
use Rattle.replay_spec.specs.Stepping.{ReplayFault, step, shown_by}
use Rattle.replay_spec.specs.Replay.{Honest, last_state, with_shown, found, Verdict, Sound, Fault, behind}
use Rattle.replay_spec.specs.Replay.{verdict_of}
use Rattle.replay_spec.specs.Laws.{IsFirstFault}
use Rattle.replay_spec.proofs.Stepping.{takes_step, step_takes}

ok_same : {A : Type 0} {x y : A} → ◌≡◌ {A = Result A ReplayFault} (Ok x) (Ok y) → x ≡ y
ok_same h = cc

one_step : (ms : List Member) (s t u : State) (p : Placed) → Takes ms s p t → Takes ms s p u → t ≡ u
one_step ms s t u p h k = ok_same (sym (step_takes ms s t p h) ∙ step_takes ms s u p k)

-- entries have at most one list of states
pub one_run : (ms : List Member) (s : State) (ps : List Placed) (ts us : List State)
    → Honest ms s ps ts → Honest ms s ps us → ts ≡ us
one_run ms s [] [] [] h k = refl
one_run ms s [] [] (u ∷ us) h k = absurd k
one_run ms s [] (t ∷ ts) us h k = absurd h
one_run ms s (p ∷ ps) [] us h k = absurd h
one_run ms s (p ∷ ps) (t ∷ ts) [] h k = absurd k
one_run ms s (p ∷ ps) (t ∷ ts) (u ∷ us) h k =
    let same = one_step ms s t u p h.0 k.0 in
    ap₂ (λ x xs. x ∷ xs) same (one_run ms t ps ts us h.1 (subst (λ x. Honest ms x ps us) (sym same) k.1))

-- ---- sound

-- the verdict by what the first step gives
abbrev pub verdict_after : List Member → State → Placed → List Placed → Result State ReplayFault → Verdict
verdict_after ms s p ps (Ok t) = behind (shown_by s p.entry) (verdict_of ms t ps)
verdict_after ms s p ps (Err fault) = Fault fault p.number

-- the first step of a replay
pub first_step : (ms : List Member) (s : State) (p : Placed) (ps : List Placed)
    → verdict_of ms s (p ∷ ps) ≡ verdict_after ms s p ps (step ms s p)
first_step ms s p ps = by (step ms s p)
  where
    by : (r : Result State ReplayFault) → ◌≡◌ {A = Verdict}
        (elim r [
          | Ok t ↦ behind (shown_by s p.entry) (verdict_of ms t ps)
          | Err fault ↦ Fault fault p.number
        ])
        (verdict_after ms s p ps r)
    by (Ok t) = refl
    by (Err fault) = refl

-- the verdict on honest entries
pub sound : (ms : List Member) (s : State) (ps : List Placed) (ts : List State) → Honest ms s ps ts
    → verdict_of ms s ps ≡ Sound (last_state s ts) (found s ps ts)
sound ms s [] [] h = refl
sound ms s [] (t ∷ ts) h = absurd h
sound ms s (p ∷ ps) [] h = absurd h
sound ms s (p ∷ ps) (t ∷ ts) h =
    first_step ms s p ps
    ∙ ap (verdict_after ms s p ps) (step_takes ms s t p h.0)
    ∙ ap (behind (shown_by s p.entry)) (sound ms t ps ts h.1)

-- some list of states is honest, with this last state and what is shown
pub record IsSound (ms : List Member) (s : State) (ps : List Placed) (t : State) (shown : List Authenticator)
    : Type 0 where
  -- the state after each entry
  pub states : List State
  -- each entry leads from one to the next
  pub honest : Honest ms s ps states
  -- the last of them
  pub last : last_state s states ≡ t
  -- what the entries show
  pub all : found s ps states ≡ shown

sound_same : (s t : State) (x y : List Authenticator) → Sound s x ≡ Sound t y → (s ≡ t) × (x ≡ y)
sound_same s t x y h = (cc, cc)

after_sound : (front : Option Authenticator) (v : Verdict) (t : State) (shown : List Authenticator)
    → behind front v ≡ Sound t shown
    → (more : List Authenticator) × (v ≡ Sound t more) × (with_shown front more ≡ shown)
after_sound front (Sound s more) t shown h =
    let e = sound_same s t (with_shown front more) shown h in (more, ap (λ x. Sound x more) e.0, e.1)
after_sound front (Fault fault number) t shown h = absurd (cc)

-- entries on which the verdict is Sound are honest
pub is_sound : (ms : List Member) (s : State) (ps : List Placed) (t : State) (shown : List Authenticator)
    → verdict_of ms s ps ≡ Sound t shown → IsSound ms s ps t shown
is_sound ms s [] t shown h =
    let e = sound_same s t [] shown h in record { states = []; honest = tt; last = e.0; all = e.1 }
is_sound ms s (p ∷ ps) t shown h =
    by (step ms s p) refl (sym (first_step ms s p ps) ∙ h) (λ u more k. is_sound ms u ps t more k)
  where
    by : (r : Result State ReplayFault) → step ms s p ≡ r → verdict_after ms s p ps r ≡ Sound t shown
        → ((u : State) (more : List Authenticator)
        → verdict_of ms u ps ≡ Sound t more → IsSound ms u ps t more)
        → IsSound ms s (p ∷ ps) t shown
    by (Ok u) is h next =
        let a = after_sound (shown_by s p.entry) (verdict_of ms u ps) t shown h in
        let b = next u a.0 a.1 in
        record {
          states = u ∷ b.states;
          honest = (takes_step ms s u p is, b.honest);
          last = b.last;
          all = ap (with_shown (shown_by s p.entry)) b.all ∙ a.2;
        }
    by (Err fault) is h next = absurd (cc)

-- ---- faults

fault_same : (a b : ReplayFault) (x y : ℕ) → Fault a x ≡ Fault b y → (a ≡ b) × (x ≡ y)
fault_same a b x y h = (cc, cc)

after_fault : (front : Option Authenticator) (v : Verdict) (fault : ReplayFault) (number : ℕ)
    → behind front v ≡ Fault fault number → v ≡ Fault fault number
after_fault front (Sound s more) fault number h = absurd (cc)
after_fault front (Fault f n) fault number h = h

-- entries on which the verdict is a fault have a first one
pub first_fault : (ms : List Member) (s : State) (ps : List Placed) (fault : ReplayFault) (number : ℕ)
    → verdict_of ms s ps ≡ Fault fault number → IsFirstFault ms s ps fault number
first_fault ms s [] fault number h = absurd (cc)
first_fault ms s (p ∷ ps) fault number h =
    by (step ms s p) refl (sym (first_step ms s p ps) ∙ h) (λ u k. first_fault ms u ps fault number k)
  where
    by : (r : Result State ReplayFault) → step ms s p ≡ r → verdict_after ms s p ps r ≡ Fault fault number
        → ((u : State) → verdict_of ms u ps ≡ Fault fault number → IsFirstFault ms u ps fault number)
        → IsFirstFault ms s (p ∷ ps) fault number
    by (Ok u) is h next =
        let b = next u (after_fault (shown_by s p.entry) (verdict_of ms u ps) fault number h) in
        record {
          before = p ∷ b.before;
          entry = b.entry;
          rest = b.rest;
          whole = ap (λ x. p ∷ x) b.whole;
          states = u ∷ b.states;
          honest = (takes_step ms s u p is, b.honest);
          refused = b.refused;
          there = b.there;
        }
    by (Err f) is h next =
        let e = fault_same f fault p.number number h in
        record {
          before = [];
          entry = p;
          rest = ps;
          whole = refl;
          states = [];
          honest = tt;
          refused = is ∙ ap (λ x. Err x) e.0;
          there = e.1;
        }

faulty : (ms : List Member) (s : State) (before : List Placed) (p : Placed) (rest : List Placed)
    (states : List State) (fault : ReplayFault)
    → Honest ms s before states → step ms (last_state s states) p ≡ Err fault
    → verdict_of ms s (before ++ p ∷ rest) ≡ Fault fault p.number
faulty ms s [] p rest [] fault h k = first_step ms s p rest ∙ ap (verdict_after ms s p rest) k
faulty ms s [] p rest (t ∷ ts) fault h k = absurd h
faulty ms s (q ∷ qs) p rest [] fault h k = absurd h
faulty ms s (q ∷ qs) p rest (t ∷ ts) fault h k =
    first_step ms s q (qs ++ p ∷ rest)
    ∙ ap (verdict_after ms s q (qs ++ p ∷ rest)) (step_takes ms s t q h.0)
    ∙ ap (behind (shown_by s q.entry)) (faulty ms t qs p rest ts fault h.1 k)

-- and where they have one, it is the verdict
pub is_fault : (ms : List Member) (s : State) (ps : List Placed) (fault : ReplayFault) (number : ℕ)
    → IsFirstFault ms s ps fault number → verdict_of ms s ps ≡ Fault fault number
is_fault ms s ps fault number f =
    ap (verdict_of ms s) f.whole
    ∙ faulty ms s f.before f.entry f.rest f.states fault f.honest f.refused
    ∙ ap (Fault fault) f.there

-- ---- parts

-- entries that are honest after honest ones make honest ones
pub joined : (ms : List Member) (s : State) (ps qs : List Placed) (ts us : List State)
    → Honest ms s ps ts → Honest ms (last_state s ts) qs us → Honest ms s (ps ++ qs) (ts ++ us)
joined ms s [] qs [] us h k = k
joined ms s [] qs (t ∷ ts) us h k = absurd h
joined ms s (p ∷ ps) qs [] us h k = absurd h
joined ms s (p ∷ ps) qs (t ∷ ts) us h k = (h.0, joined ms t ps qs ts us h.1 k)

-- and the second part of honest entries is honest after the first
pub second : (ms : List Member) (s : State) (ps qs : List Placed) (ts us : List State)
    → Honest ms s ps ts → Honest ms s (ps ++ qs) (ts ++ us) → Honest ms (last_state s ts) qs us
second ms s [] qs [] us h k = k
second ms s [] qs (t ∷ ts) us h k = absurd h
second ms s (p ∷ ps) qs [] us h k = absurd h
second ms s (p ∷ ps) qs (t ∷ ts) us h k = second ms t ps qs ts us h.1 k.1

-- the last state of two parts is that of the second after the first
pub last_joined : (s : State) (ts us : List State) → last_state s (ts ++ us) ≡ last_state (last_state s ts) us
last_joined s [] us = refl
last_joined s (t ∷ ts) us = last_joined t ts us
