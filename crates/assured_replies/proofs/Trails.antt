-- How an honest log of a server comes to owe a reply: by the RECV of a call and the CLOCK right after it.
-- Serves: audited_replies_are_owed.
use Rattle.std.proofs.Common.{◌≡◌, ℕ, ◌+◌, List, [], ◌∷◌, ◌++◌, Option, Some, None, refl, sym, ap, subst, ◌∙◌}
use Rattle.std.proofs.Common.{append_assoc, append-nil, arith}
use Rattle.merkle_keys.specs.Signing.{SignatureParts}
use Rattle.authenticator.specs.Numbers.{word_of}
use Rattle.authenticator.specs.declared.member.Member.{Member}
use Rattle.secure_log.specs.LogEntries.Chain.{Logged, hash_after, last_hash, logged_link, logged_links, span}
use Rattle.secure_log.specs.declared.log_entries.entry.Entry.{Entry}
use Rattle.secure_log.specs.declared.log_entries.entry.Entry.TheVariants.{Send, Recv, Ack, Clock, Check}
use Rattle.secure_log.proofs.OfLogEntries.Pairs.{hash_joined, span-append}
use Rattle.nfs_items.specs.Timeval.{Timeval}
use Rattle.server_spec.specs.World.{World}
use Rattle.server_spec.specs.Replies.{reply_owed, world_after}
use Rattle.state_spec.specs.State.{State, Machine, Server, Client, Idle, Heard, Owes}
use Rattle.state_spec.specs.Steps.{after_reading, machine_at, owing}
use Rattle.replay_spec.specs.Placed.{logged_place, logged_places}
use Rattle.replay_spec.specs.Replay.{Honest, last_state}
use Rattle.replay_spec.specs.Steps.{MayReadClock, MayStand, OwesNothing, Takes, after_entry, time_of}
use Rattle.replay_spec.proofs.Places.{places_joined}
use Rattle.replay_spec.proofs.Runs.{joined, last_joined}
use Rattle.assured_replies.specs.Owed.{LeadsTo, Start}

module _ (start : Start) where
  -- entries lead to a world, and then the RECV of a message comes
  pub record HasHeard (world : World) (from : ℕ) (body : List ℕ) (log : List Logged) : Type 0 where
    pub before : List Logged
    pub received : Logged
    pub whole : log ≡ before ++ received ∷ []
    pub seq : ℕ
    pub prev : List ℕ
    pub signature : SignatureParts
    pub is_call : received.entry ≡ Recv from seq prev body signature
    pub leads : LeadsTo start before world

  -- after a CLOCK more the reply is owed
  pub record HasRead (to : ℕ) (reply : List ℕ) (log : List Logged) : Type 0 where
    pub before : List Logged
    pub received : Logged
    pub read : Logged
    pub whole : log ≡ before ++ received ∷ read ∷ []
    pub call : List ℕ
    pub seq : ℕ
    pub prev : List ℕ
    pub signature : SignatureParts
    pub is_call : received.entry ≡ Recv to seq prev call signature
    pub time : Timeval
    pub is_reading : read.entry ≡ Clock time.seconds time.microseconds
    pub world : World
    pub leads : LeadsTo start before world
    pub owed : reply_owed world time call ≡ Some reply

  -- how a server came to its stage
  abbrev pub IsTrail : Machine → List Logged → Type 0
  IsTrail (Server w Idle) log = Unit {0}
  IsTrail (Server w (Heard from body)) log = HasHeard w from body log
  IsTrail (Server w (Owes to reply)) log = HasRead to reply log
  IsTrail (Client clock) log = ⊥

  -- entries from the start on are honest, and lead to a state
  pub record Run (log : List Logged) (s : State) : Type 0 where
    pub states : List State
    pub honest : Honest start.roster start.state (logged_places start.number start.hash log) states
    pub last : last_state start.state states ≡ s

  -- of a server that owes nothing they lead to its world
  leads_to : (log : List Logged) (s : State) (w : World) → Run log s → s.machine ≡ Server w Idle
      → LeadsTo start log w
  leads_to log s w run is = record {
    states = run.states;
    honest = run.honest;
    machine = ap (λ (t : State). t.machine) run.last ∙ is;
  }

  -- ---- one entry more

  -- a server that owes a reply to what it heard, if it owes one
  owes_now : (log : List Logged) (l : Logged) (w : World) (from : ℕ) (body : List ℕ) (a b : ℕ)
      → HasHeard w from body log → l.entry ≡ Clock a b → (o : Option (List ℕ))
      → reply_owed w (time_of a b) body ≡ o
      → IsTrail (Server (world_after w (time_of a b) body) (owing from o)) (log ++ l ∷ [])
  owes_now log l w from body a b heard is None e = tt
  owes_now log l w from body a b heard is (Some reply) e = record {
    before = heard.before;
    received = heard.received;
    read = l;
    whole = ap (λ ls. ls ++ l ∷ []) heard.whole ∙ append_assoc heard.before (heard.received ∷ []) (l ∷ []);
    call = body;
    seq = heard.seq;
    prev = heard.prev;
    signature = heard.signature;
    is_call = heard.is_call;
    time = time_of a b;
    is_reading = is;
    world = w;
    leads = heard.leads;
    owed = e;
  }

  module _ (ms : List Member) (log : List Logged) (l : Logged) (s : State) (run : Run log s) (number : ℕ)
      (before : List ℕ) where
    -- the machine after an entry, which stands after this one
    trail_on : (m : Machine) (e : Entry) → s.machine ≡ m → l.entry ≡ e → IsTrail m log → MayStand ms s e
        → IsTrail (after_entry s number before e).machine (log ++ l ∷ [])
    trail_on (Server w stage) (Send to body) is is_e trail may =
        subst (λ k. IsTrail (machine_at k Idle) (log ++ l ∷ [])) (sym is) tt
    trail_on (Server w Idle) (Recv from seq prev body signature) is is_e trail may =
        subst (λ k. IsTrail (machine_at k (Heard from body)) (log ++ l ∷ [])) (sym is)
        (record {
          before = log;
          received = l;
          whole = refl;
          seq = seq;
          prev = prev;
          signature = signature;
          is_call = is_e;
          leads = leads_to log s w run is;
        })
    trail_on (Server w (Heard who what)) (Recv from seq prev body signature) is is_e trail may =
        absurd (subst OwesNothing is may.free)
    trail_on (Server w (Owes who what)) (Recv from seq prev body signature) is is_e trail may =
        absurd (subst OwesNothing is may.free)
    trail_on (Server w Idle) (Ack to seq mine theirs prev signature) is is_e trail may =
        subst (λ k. IsTrail k (log ++ l ∷ [])) (sym is) tt
    trail_on (Server w (Heard who what)) (Ack to seq mine theirs prev signature) is is_e trail may =
        absurd (subst OwesNothing is may.free)
    trail_on (Server w (Owes who what)) (Ack to seq mine theirs prev signature) is is_e trail may =
        absurd (subst OwesNothing is may.free)
    trail_on (Server w Idle) (Clock a b) is is_e trail may = absurd (subst MayReadClock is may.turn)
    trail_on (Server w (Heard from body)) (Clock a b) is is_e trail may =
        subst (λ k. IsTrail (after_reading k (time_of a b)) (log ++ l ∷ [])) (sym is)
        (owes_now log l w from body a b trail is_e (reply_owed w (time_of a b) body) refl)
    trail_on (Server w (Owes who what)) (Clock a b) is is_e trail may = absurd (subst MayReadClock is may.turn)
    trail_on (Server w Idle) (Check digest) is is_e trail may =
        subst (λ k. IsTrail k (log ++ l ∷ [])) (sym is) tt
    trail_on (Server w (Heard who what)) (Check digest) is is_e trail may =
        absurd (subst OwesNothing is may.free)
    trail_on (Server w (Owes who what)) (Check digest) is is_e trail may =
        absurd (subst OwesNothing is may.free)
    trail_on (Client clock) e is is_e trail may = absurd trail

  -- ---- all entries

  -- after these entries the run has this state, and a trail leads to it
  pub record At (log : List Logged) (s : State) : Type 0 where
    pub run : Run log s
    pub trail : IsTrail s.machine log

  -- the number and the hash after entries
  abbrev number_after : List Logged → ℕ
  number_after log = start.number + span log

  abbrev hash_at_end : List Logged → List ℕ
  hash_at_end log = last_hash start.hash (logged_links start.number log)

  module _ (log : List Logged) (l : Logged) where
    next_number : number_after (log ++ l ∷ []) ≡ number_after log + 1 + l.skipped
    next_number = omega (arith, span-append log (l ∷ []))

    next_hash : hash_at_end (log ++ l ∷ [])
        ≡ hash_after (hash_at_end log) (logged_link (number_after log + 1 + l.skipped) l)
    next_hash = hash_joined start.number start.hash log (l ∷ [])

    -- an entry that may stand leads on
    step : (s t : State) → At log s
        → Takes start.roster s (logged_place (number_after log + 1 + l.skipped) (hash_at_end log) l) t
        → At (log ++ l ∷ []) t
    step s t at takes =
        let n = number_after log + 1 + l.skipped in
        let r = at.run in
        record {
          run = record {
            states = r.states ++ t ∷ [];
            honest =
                subst (λ ps. Honest start.roster start.state ps (r.states ++ t ∷ []))
                (sym (places_joined start.number start.hash log (l ∷ [])))
                (joined start.roster start.state (logged_places start.number start.hash log)
                (logged_places (number_after log) (hash_at_end log) (l ∷ [])) r.states (t ∷ []) r.honest
                (subst (λ x. Honest start.roster x
                (logged_places (number_after log) (hash_at_end log) (l ∷ [])) (t ∷ [])) (sym r.last) (takes, tt)));
            last = last_joined start.state r.states (t ∷ []);
          };
          trail = subst (λ (x : State). IsTrail x.machine (log ++ l ∷ [])) (sym takes.after)
              (trail_on start.roster log l s r (word_of l.skipped n) (hash_at_end log) s.machine l.entry refl refl
              at.trail takes.stands);
        }

  -- so further honest entries do
  pub goes_on : (log more : List Logged) (s : State) (ts : List State) → At log s
      → Honest start.roster s (logged_places (number_after log) (hash_at_end log) more) ts
      → At (log ++ more) (last_state s ts)
  goes_on log [] s [] at h = subst (λ ls. At ls s) (sym (append-nil log)) at
  goes_on log [] s (t ∷ ts) at h = absurd h
  goes_on log (l ∷ more) s [] at h = absurd h
  goes_on log (l ∷ more) s (t ∷ ts) at h =
      let more_honest : Honest start.roster t
      (logged_places (number_after (log ++ l ∷ [])) (hash_at_end (log ++ l ∷ [])) more) ts =
      subst (λ x. Honest start.roster t (logged_places (number_after (log ++ l ∷ [])) x more) ts)
      (sym (next_hash log l))
      (subst (λ n. Honest start.roster t (logged_places n
      (hash_after (hash_at_end log) (logged_link (number_after log + 1 + l.skipped) l)) more) ts)
      (sym (next_number log l)) h.1) in
      subst (λ ls. At ls (last_state t ts)) (append_assoc log (l ∷ []) more)
      (goes_on (log ++ l ∷ []) more t ts (step log l s t at h.0) more_honest)
