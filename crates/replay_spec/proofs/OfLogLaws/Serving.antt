-- A server that logs what it heard, the time, and the reply that is owed, is honest.
-- Serves: honest_servers_replay.
use Rattle.std.proofs.Common.{◌≡◌, ℕ, ◌+◌, List, [], ◌∷◌, Option, Some, None, refl, sym, ap, subst, ◌∙◌, arith}
use Rattle.merkle_keys.specs.Signing.{SignatureParts}
use Rattle.secure_log.specs.authenticator.declared.member.Member.{Member}
use Rattle.secure_log.specs.LogEntries.Chain.{Logged, hash_after, logged_link}
use Rattle.secure_log.specs.declared.log_entries.entry.Entry.TheVariants.{Send, Recv, Clock}
use Rattle.nfs_items.specs.Timeval.{Timeval}
use Rattle.state_spec.specs.server_spec.World.{World}
use Rattle.state_spec.specs.server_spec.Replies.{reply_owed, world_after}
use Rattle.state_spec.specs.State.{with_received, Idle, Heard, Machine, Server, State}
use Rattle.replay_spec.specs.StateSteps.{machine_at, owing}
use Rattle.replay_spec.specs.Placed.{Placed, logged_place, logged_places}
use Rattle.replay_spec.specs.Steps.{received_message, OwesNothing, Takes}
use Rattle.replay_spec.specs.Replay.{Honest, last_state}
use Rattle.replay_spec.specs.LogLaws.HonestServers.{MayHear, heard_entries, hash_before_reply, next_logged}
use Rattle.replay_spec.specs.LogLaws.HonestServers.{with_reply, state_served}

module _ (ms : List Member) (s : State) (w : World) (from seq : ℕ) (prev body : List ℕ)
    (signature : SignatureParts) (time : Timeval) (h : MayHear ms s w from seq prev body signature time)
    (number : ℕ) (before : List ℕ) (skipped : ℕ) where
  -- the entries' numbers
  abbrev recv_number : ℕ
  recv_number = number + 1 + skipped

  abbrev clock_number : ℕ
  clock_number = recv_number + 1 + 0

  abbrev send_number : ℕ
  send_number = clock_number + 1 + 0

  -- the entries' places
  abbrev recv_entry : Logged
  recv_entry = record { skipped = skipped; entry = Recv from seq prev body signature }

  abbrev recv : Placed
  recv = logged_place recv_number before recv_entry

  abbrev clock : Placed
  clock =
      logged_place clock_number (hash_after before (logged_link recv_number recv_entry))
      (next_logged (Clock time.seconds time.microseconds))

  -- the state with this machine, once the message is taken in
  abbrev taken : Machine → State
  taken m = record s {
    received = with_received s.received (received_message s.node from seq prev body);
    machine = m;
  }

  -- after RECV
  abbrev heard : State
  heard = taken (Server w (Heard from body))

  -- after CLOCK, by what is owed
  abbrev answered_by : Option (List ℕ) → State
  answered_by o = taken (Server (world_after w time body) (owing from o))

  hears : Takes ms s recv heard
  hears = record {
    stands = record {
      free = subst OwesNothing (sym h.idle) tt;
      other = h.other;
      signed = h.signed;
      fresh = h.fresh;
    };
    after = ap (λ (m : Machine). taken (machine_at m (Heard from body))) (sym h.idle);
  }

  reads : Takes ms heard clock (answered_by (reply_owed w time body))
  reads = record {
    stands = record { turn = tt; valid = h.valid; late = h.late };
    after = refl;
  }

  -- the entries that are logged, by what is owed, and the state after them, of which the reply has this number
  abbrev logged : Option (List ℕ) → List Placed
  logged o = logged_places number before (heard_entries skipped from seq prev body signature time o)

  abbrev served : ℕ → Option (List ℕ) → State
  served n o =
      with_reply (taken (Server (world_after w time body) Idle)) n
      (hash_before_reply number before skipped from seq prev body signature time) from o

  sends : (reply : List ℕ) → Takes ms (answered_by (Some reply))
      (logged_place send_number (hash_before_reply number before skipped from seq prev body signature time)
      (next_logged (Send from reply)))
      (served send_number (Some reply))
  sends reply = record { stands = (refl, refl); after = refl }

  by_reply : (o : Option (List ℕ)) → reply_owed w time body ≡ o
      → (ts : List State) × Honest ms s (logged o) ts × (last_state s ts ≡ served send_number o)
  by_reply None e = (
    heard ∷ answered_by None ∷ [],
    (hears, (subst (λ o. Takes ms heard clock (answered_by o)) e reads, tt)),
    refl,
  )
  by_reply (Some reply) e = (
    heard ∷ answered_by (Some reply) ∷ served send_number (Some reply) ∷ [],
    (hears, (subst (λ o. Takes ms heard clock (answered_by o)) e reads, (sends reply, tt))),
    refl,
  )

  -- such a server is honest, with the state after
  pub server_replays : (ts : List State) × Honest ms s (logged (reply_owed w time body)) ts
      × (last_state s ts ≡ state_served s w skipped from seq prev body signature time number before)
  server_replays =
      let run = by_reply (reply_owed w time body) refl in
      let last : send_number ≡ recv_number + 1 + 1 = omega arith in
      (run.0, run.1, run.2 ∙ ap (λ n. served n (reply_owed w time body)) last)
