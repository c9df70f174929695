-- An entry has no fault exactly where it may stand, so the function of a step is its relation.
-- Serves: steps_as_it_takes.
use Rattle.std.proofs.Common.{◌≡◌, ◌≢◌, ℕ, Bool, true, false, cond, not, ◌&&◌, ◌||◌, ◌==◌, nat_lt, List}
use Rattle.std.proofs.Common.{Option, Some, None, Ok, refl, sym, ap, ◌∙◌, arith}
use Rattle.std.proofs.Common.{eqb-true, eq-eqb, ne_eqb, ltb-false, le-ltb}
use Rattle.std.proofs.lemmas.Bool.{and_parts, and_from, not-false, both_ways}
use Rattle.std.specs.FinMap as finite
use Rattle.merkle_keys.specs.Signing.{SignatureParts}
use Rattle.secure_log.specs.authenticator.Numbers.{word_of}
use Rattle.secure_log.specs.authenticator.declared.member.Member.{Member}
use Rattle.secure_log.specs.declared.log_entries.entry.Entry.{Entry}
use Rattle.secure_log.specs.declared.log_entries.entry.Entry.TheVariants.{Send, Recv, Ack, Clock, Check}
use Rattle.state_spec.specs.State.{SentMessage, Idle, Heard, Owes, Machine, Server, Client}
use Rattle.state_spec.specs.State.{State}
use Rattle.state_spec.specs.StateText.{state_digest}
use Rattle.secure_log.specs.authenticator.Signing.{is_same, is_signed_in}
use Rattle.replay_spec.specs.Shown.{sender_shown, receiver_shown}
use Rattle.replay_spec.specs.Placed.{Placed}
use Rattle.replay_spec.specs.Steps.{OwesNothing, MaySend, MayReadClock}
use Rattle.replay_spec.specs.Steps.{MayStand, after_entry, Takes}
use Rattle.replay_spec.specs.Stepping.{ReplayFault, BadForm, WrongReply, BadReceive, Repeated, ClockBack}
use Rattle.replay_spec.specs.Stepping.{BadAck, WrongCheckpoint, is_clock, is_send, is_out_of_turn}
use Rattle.replay_spec.specs.Stepping.{shows_no_time, is_bad_form, is_send_of, is_wrong_reply, fits_message}
use Rattle.replay_spec.specs.Stepping.{is_bad_receive, is_repeated, is_clock_back, is_bad_ack}
use Rattle.replay_spec.specs.Stepping.{is_wrong_checkpoint, fault_of, unless_fault, step}
use Rattle.secure_log.proofs.authenticator.Signed.{same_list, list_same, signed_in_of, of_signed_in}

-- ---- tests one after the other

-- where none of the rest applies either, the first doesn't
not_first : (b : Bool) (f : ReplayFault) (o : Option ReplayFault) → cond b (Some f) o ≡ None
    → (b ≡ false) × (o ≡ None)
not_first true f o h = absurd (cc)
not_first false f o h = (refl, h)

none_first : (b : Bool) (f : ReplayFault) (o : Option ReplayFault) → b ≡ false → o ≡ None
    → cond b (Some f) o ≡ None
none_first true f o h k = absurd (cc)
none_first false f o h k = k

neither : (a b : Bool) → (a || b) ≡ false → (a ≡ false) × (b ≡ false)
neither true b h = absurd (cc)
neither false b h = (refl, h)

or_neither : (a b : Bool) → a ≡ false → b ≡ false → (a || b) ≡ false
or_neither true b h k = absurd (cc)
or_neither false b h k = k

is_not : (b : Bool) → b ≡ true → not b ≡ false
is_not true h = refl
is_not false h = absurd (cc)

differ : (a b : ℕ) → (a == b) ≡ false → a ≢ b
differ a b h e = both_ways (a == b) h (eq-eqb a b e)

-- ---- nothing is owed

-- an entry that is neither CLOCK nor SEND
record IsOther (e : Entry) : Type 0 where
  clock : is_clock e ≡ false
  send : is_send e ≡ false
  time : shows_no_time e ≡ false
  reply : (to : ℕ) (body : List ℕ) → is_send_of to body e ≡ false

free_of : (e : Entry) (m : Machine) → IsOther e → is_bad_form m e ≡ false → is_wrong_reply m e ≡ false
    → OwesNothing m
free_of e (Server w Idle) other h k = tt
free_of e (Server w (Heard from body)) other h k =
    both_ways (is_clock e) other.clock
    (not-false (is_clock e) (neither (not (is_clock e)) (shows_no_time e) h).0)
free_of e (Server w (Owes to body)) other h k =
    both_ways (is_send_of to body e) (other.reply to body) (not-false (is_send_of to body e) k)
free_of e (Client clock) other h k = tt

good_form : (e : Entry) (m : Machine) → IsOther e → OwesNothing m → is_bad_form m e ≡ false
good_form e (Server w Idle) other h = or_neither (is_clock e) (shows_no_time e) other.clock other.time
good_form e (Server w (Heard from body)) other h = absurd h
good_form e (Server w (Owes to body)) other h = absurd h
good_form e (Client clock) other h = other.time

no_reply : (e : Entry) (m : Machine) → IsOther e → OwesNothing m → is_wrong_reply m e ≡ false
no_reply e (Server w Idle) other h = other.send
no_reply e (Server w (Heard from body)) other h = absurd h
no_reply e (Server w (Owes to body)) other h = absurd h
no_reply e (Client clock) other h = refl

-- ---- SEND

send_of : (m : Machine) (to : ℕ) (body : List ℕ) → is_bad_form m (Send to body) ≡ false
    → is_wrong_reply m (Send to body) ≡ false → MaySend m to body
send_of (Server w Idle) to body h k = absurd (cc)
send_of (Server w (Heard from heard)) to body h k = absurd (cc)
send_of (Server w (Owes whom reply)) to body h k =
    let yes = not-false ((to == whom) && is_same body reply) k in
    let both = and_parts (to == whom) (is_same body reply) yes in
    (eqb-true to whom both.0, same_list body reply both.1)
send_of (Client clock) to body h k = tt

send_form : (m : Machine) (to : ℕ) (body : List ℕ) → MaySend m to body → is_bad_form m (Send to body) ≡ false
send_form (Server w Idle) to body h = absurd h
send_form (Server w (Heard from heard)) to body h = absurd h
send_form (Server w (Owes whom reply)) to body h = refl
send_form (Client clock) to body h = refl

send_reply : (m : Machine) (to : ℕ) (body : List ℕ) → MaySend m to body
    → is_wrong_reply m (Send to body) ≡ false
send_reply (Server w Idle) to body h = absurd h
send_reply (Server w (Heard from heard)) to body h = absurd h
send_reply (Server w (Owes whom reply)) to body h =
    is_not ((to == whom) && is_same body reply)
    (and_from (to == whom) (is_same body reply) (eq-eqb to whom h.0) (list_same body reply h.1))
send_reply (Client clock) to body h = refl

-- ---- CLOCK

turn_of : (m : Machine) (seconds microseconds : ℕ) → is_out_of_turn m (Clock seconds microseconds) ≡ false
    → MayReadClock m
turn_of (Server w Idle) seconds microseconds h = absurd (cc)
turn_of (Server w (Heard from body)) seconds microseconds h = tt
turn_of (Server w (Owes to body)) seconds microseconds h = absurd (cc)
turn_of (Client clock) seconds microseconds h = tt

in_turn : (m : Machine) (seconds microseconds : ℕ) → MayReadClock m
    → is_out_of_turn m (Clock seconds microseconds) ≡ false
in_turn (Server w Idle) seconds microseconds h = absurd h
in_turn (Server w (Heard from body)) seconds microseconds h = refl
in_turn (Server w (Owes to body)) seconds microseconds h = absurd h
in_turn (Client clock) seconds microseconds h = refl

clock_reply : (m : Machine) (seconds microseconds : ℕ) → MayReadClock m
    → is_wrong_reply m (Clock seconds microseconds) ≡ false
clock_reply (Server w Idle) seconds microseconds h = refl
clock_reply (Server w (Heard from body)) seconds microseconds h = refl
clock_reply (Server w (Owes to body)) seconds microseconds h = absurd h
clock_reply (Client clock) seconds microseconds h = refl

-- ---- ACK

-- what an ACK's test says of the message that it names
record Fits (ms : List Member) (node to seq : ℕ) (mine : List ℕ) (number : ℕ) (prev : List ℕ)
    (signature : SignatureParts) (o : Option SentMessage) : Type 0 where
  message : SentMessage
  sent : o ≡ Some message
  receiver : message.to ≡ to
  signed : is_signed_in ms (receiver_shown node seq message mine number prev signature) ≡ true

module _ (ms : List Member) (node to seq : ℕ) (mine : List ℕ) (number : ℕ) (prev : List ℕ)
    (signature : SignatureParts) where
  fits_of : (o : Option SentMessage) → fits_message ms node to seq mine number prev signature o ≡ true
      → Fits ms node to seq mine number prev signature o
  fits_of None h = absurd (cc)
  fits_of (Some m) h =
      let both = and_parts (m.to == to)
      (is_signed_in ms (receiver_shown node seq m mine number prev signature)) h in
      record { message = m; sent = refl; receiver = eqb-true m.to to both.0; signed = both.1 }

  of_fits : (o : Option SentMessage) → Fits ms node to seq mine number prev signature o
      → fits_message ms node to seq mine number prev signature o ≡ true
  of_fits o f =
      ap (fits_message ms node to seq mine number prev signature) f.sent
      ∙ and_from (f.message.to == to)
      (is_signed_in ms (receiver_shown node seq f.message mine number prev signature))
      (eq-eqb f.message.to to f.receiver) f.signed

-- ---- entries

abbrev other_recv : (from seq : ℕ) (prev body : List ℕ) (signature : SignatureParts)
    → IsOther (Recv from seq prev body signature)
other_recv from seq prev body signature =
    record { clock = refl; send = refl; time = refl; reply = λ to sent. refl }

abbrev other_ack : (to seq : ℕ) (mine : List ℕ) (number : ℕ) (prev : List ℕ) (signature : SignatureParts)
    → IsOther (Ack to seq mine number prev signature)
other_ack to seq mine number prev signature =
    record { clock = refl; send = refl; time = refl; reply = λ whom sent. refl }

abbrev other_check : (digest : List ℕ) → IsOther (Check digest)
other_check digest = record { clock = refl; send = refl; time = refl; reply = λ to sent. refl }

-- None of the faults applies to an entry.
record HasNone (ms : List Member) (s : State) (e : Entry) : Type 0 where
  form : is_bad_form s.machine e ≡ false
  reply : is_wrong_reply s.machine e ≡ false
  receive : is_bad_receive ms s e ≡ false
  fresh : is_repeated s e ≡ false
  clock : is_clock_back s.machine e ≡ false
  ack : is_bad_ack ms s e ≡ false
  check : is_wrong_checkpoint s e ≡ false

has_none : (ms : List Member) (s : State) (e : Entry) → fault_of ms s e ≡ None → HasNone ms s e
has_none ms s e h =
    let form = not_first (is_bad_form s.machine e) BadForm _ h in
    let reply = not_first (is_wrong_reply s.machine e) WrongReply _ form.1 in
    let receive = not_first (is_bad_receive ms s e) BadReceive _ reply.1 in
    let fresh = not_first (is_repeated s e) Repeated _ receive.1 in
    let clock = not_first (is_clock_back s.machine e) ClockBack _ fresh.1 in
    let ack = not_first (is_bad_ack ms s e) BadAck _ clock.1 in
    let check = not_first (is_wrong_checkpoint s e) WrongCheckpoint _ ack.1 in
    record {
      form = form.0;
      reply = reply.0;
      receive = receive.0;
      fresh = fresh.0;
      clock = clock.0;
      ack = ack.0;
      check = check.0;
    }

no_fault : (ms : List Member) (s : State) (e : Entry) → HasNone ms s e → fault_of ms s e ≡ None
no_fault ms s e h =
    none_first (is_bad_form s.machine e) BadForm _ h.form
    (none_first (is_wrong_reply s.machine e) WrongReply _ h.reply
    (none_first (is_bad_receive ms s e) BadReceive _ h.receive
    (none_first (is_repeated s e) Repeated _ h.fresh
    (none_first (is_clock_back s.machine e) ClockBack _ h.clock
    (none_first (is_bad_ack ms s e) BadAck _ h.ack
    (none_first (is_wrong_checkpoint s e) WrongCheckpoint None h.check refl))))))

-- ---- entries

-- an entry to which no fault applies may stand there
stands_of : (ms : List Member) (s : State) (e : Entry) → HasNone ms s e → MayStand ms s e
stands_of ms s (Send to body) h = send_of s.machine to body h.form h.reply
stands_of ms s (Recv from seq prev body signature) h =
    let a = sender_shown s.node from seq prev body signature in
    let both = neither (from == s.node) (not (is_signed_in ms a)) h.receive in
    record {
      free =
          free_of (Recv from seq prev body signature) s.machine (other_recv from seq prev body signature)
          h.form h.reply;
      other = differ from s.node both.0;
      signed = signed_in_of ms a (not-false (is_signed_in ms a) both.1);
      fresh = h.fresh;
    }
stands_of ms s (Ack to seq mine number prev signature) h =
    let o = finite.get s.sends seq in
    let yes = not-false (fits_message ms s.node to seq mine number prev signature o) h.ack in
    let fits = fits_of ms s.node to seq mine number prev signature o yes in
    record {
      free =
          free_of (Ack to seq mine number prev signature) s.machine
          (other_ack to seq mine number prev signature) h.form h.reply;
      message = fits.message;
      sent = fits.sent;
      receiver = fits.receiver;
      signed =
          signed_in_of ms (receiver_shown s.node seq fits.message mine number prev signature) fits.signed;
    }
stands_of ms s (Clock seconds microseconds) h =
    let both = neither (is_out_of_turn s.machine (Clock seconds microseconds)) (nat_lt 999_999 microseconds)
    h.form in
    record {
      turn = turn_of s.machine seconds microseconds both.0;
      valid = omega (arith, ltb-false 999_999 microseconds both.1);
      late = h.clock;
    }
stands_of ms s (Check digest) h = record {
  free = free_of (Check digest) s.machine (other_check digest) h.form h.reply;
  same = same_list digest (state_digest s) (not-false (is_same digest (state_digest s)) h.check);
}

-- and no fault applies to one that may
none_where : (ms : List Member) (s : State) (e : Entry) → MayStand ms s e → HasNone ms s e
none_where ms s (Send to body) h = record {
  form = send_form s.machine to body h;
  reply = send_reply s.machine to body h;
  receive = refl;
  fresh = refl;
  clock = refl;
  ack = refl;
  check = refl;
}
none_where ms s (Recv from seq prev body signature) h =
    let e = Recv from seq prev body signature in
    let other = other_recv from seq prev body signature in
    let a = sender_shown s.node from seq prev body signature in
    record {
      form = good_form e s.machine other h.free;
      reply = no_reply e s.machine other h.free;
      receive =
          or_neither (from == s.node) (not (is_signed_in ms a)) (ne_eqb from s.node h.other)
          (is_not (is_signed_in ms a) (of_signed_in ms a h.signed));
      fresh = h.fresh;
      clock = refl;
      ack = refl;
      check = refl;
    }
none_where ms s (Ack to seq mine number prev signature) h =
    let e = Ack to seq mine number prev signature in
    let other = other_ack to seq mine number prev signature in
    let o = finite.get s.sends seq in
    let a = receiver_shown s.node seq h.message mine number prev signature in
    let fits = of_fits ms s.node to seq mine number prev signature o
    (record {
      message = h.message;
      sent = h.sent;
      receiver = h.receiver;
      signed = of_signed_in ms a h.signed;
    }) in
    record {
      form = good_form e s.machine other h.free;
      reply = no_reply e s.machine other h.free;
      receive = refl;
      fresh = refl;
      clock = refl;
      ack = is_not (fits_message ms s.node to seq mine number prev signature o) fits;
      check = refl;
    }
none_where ms s (Clock seconds microseconds) h = record {
  form =
      or_neither (is_out_of_turn s.machine (Clock seconds microseconds)) (nat_lt 999_999 microseconds)
      (in_turn s.machine seconds microseconds h.turn)
      (le-ltb 999_999 microseconds (omega (arith, h.valid)));
  reply = clock_reply s.machine seconds microseconds h.turn;
  receive = refl;
  fresh = refl;
  clock = h.late;
  ack = refl;
  check = refl;
}
none_where ms s (Check digest) h = record {
  form = good_form (Check digest) s.machine (other_check digest) h.free;
  reply = no_reply (Check digest) s.machine (other_check digest) h.free;
  receive = refl;
  fresh = refl;
  clock = refl;
  ack = refl;
  check = is_not (is_same digest (state_digest s)) (list_same digest (state_digest s) h.same);
}

-- ---- steps

ok_of : (s t : State) (o : Option ReplayFault) → unless_fault s o ≡ Ok t → (o ≡ None) × (t ≡ s)
ok_of s t None h = (refl, cc)
ok_of s t (Some fault) h = absurd (cc)

-- a step that gives a state leads to it
pub takes_step : (ms : List Member) (s t : State) (p : Placed) → step ms s p ≡ Ok t → Takes ms s p t
unfolding step
takes_step ms s t p h =
    let none = ok_of (after_entry s (word_of p.skipped p.number) p.before p.entry) t (fault_of ms s p.entry) h in
    record { stands = stands_of ms s p.entry (has_none ms s p.entry none.0); after = none.1 }

-- and gives each state to which it leads
pub step_takes : (ms : List Member) (s t : State) (p : Placed) → Takes ms s p t → step ms s p ≡ Ok t
unfolding step
step_takes ms s t p h =
    ap (unless_fault (after_entry s (word_of p.skipped p.number) p.before p.entry))
    (no_fault ms s p.entry (none_where ms s p.entry h.stands))
    ∙ ap (λ x. Ok x) (sym h.after)
