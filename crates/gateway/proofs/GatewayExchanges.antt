-- A stream over any link: the exchanges that were made before the loop's k-th turn (HasAsked), one more
-- (asks_one), and what follows at each end: no record could be read (asks_reading), or a record was read and
-- the link failed or its reply was not wholly written (asks_answering).
-- Serves: Gateway::serve_stream (gateway).
use Rattle.std.proofs.Common.{◌≡◌, ◌⊎◌, inl, inr, ℕ, ◌+◌, List, [], ◌∷◌, ◌++◌, arith, length, map, sym, ap}
use Rattle.std.proofs.Common.{◌∙◌, refl, length-append, append_assoc, subst}
use Rattle.std.specs.Prelude.{Option, Some, None, IfSome, Result, Ok, Err}
use Rattle.std.specs.Io.KnownBytes.{Appends}
use Rattle.std.proofs.lemmas.List.{append-nil, map-append, length-map}
use Rattle.rpc.specs.Records.Record.{IsUnfinished, PassesLimit}
use Rattle.rpc.specs.Records.Writing.{WritesFront}
use Rattle.rpc.specs.Records.Reading.{FailsUnless, StopsAt, fault_after}
use Rattle.rpc.specs.declared.records.fault.RecordFault.{RecordFault}
use Rattle.rpc.specs.declared.records.fault.RecordFault.TheVariants as reader_faults
use Rattle.nfs_items.specs.Timeval.{Timeval}
use Rattle.server_spec.specs.Owed.{record_of}
use Rattle.stream_spec.specs.Streams.{StopsAfterRecords, StopsBeforeReply, TakesNothing}
use Rattle.stream_spec.specs.InTurn.{with_times}
use Rattle.stream_spec.specs.Faults as stream_faults
use Rattle.stream_spec.proofs.StreamProgress as streams
use Rattle.stream_spec.proofs.StreamProgress.{Progress, ReadsRecord, begins, pushes, says, stops_after}
use Rattle.stream_spec.proofs.StreamProgress.{stops_before_reply, stops_in_reply}
use Rattle.gateway.specs.declared.links.fault.LinkFault.{LinkFault}
use Rattle.gateway.specs.declared.links.fault.LinkFault.TheVariants as links
use Rattle.gateway.specs.declared.fault.StreamFault.{StreamFault}
use Rattle.gateway.specs.declared.fault.StreamFault.TheVariants as faults
use Rattle.gateway.specs.Faults.{of_records, of_link}
use Rattle.gateway.specs.Links.Readings.{Readings, IsAfter}
use Rattle.gateway.specs.Links.Exchanges.{Exchange, calls_of, LeadsTo}
use Rattle.gateway.specs.Serving.{text_given, AreExchanged, IsAsked, LeavesOff}
use Rattle.gateway.proofs.ReadingsTaken.{with_next, none_taken, next_reading, takes_next}

-- ---- one exchange more

-- the records that were handed in
abbrev records_of : List Exchange → List (List ℕ)
records_of es = map (λ e. e.bytes) es

-- the replies to some records stay, whatever exchanges follow
text_given-more : (es more : List Exchange)
    → text_given (es ++ more) (records_of es) ≡ text_given es (records_of es)
text_given-more [] more = refl
text_given-more (e ∷ es) more = ap (λ (t : List ℕ). record_of e.reply ++ t) (text_given-more es more)

-- the reply to one record more stands after those to the records before
text_given-push : (es : List Exchange) (e : Exchange)
    → text_given (es ++ e ∷ []) (records_of es ++ e.bytes ∷ [])
    ≡ text_given es (records_of es) ++ record_of e.reply
text_given-push [] e = append-nil (record_of e.reply)
text_given-push (d ∷ es) e =
    ap (λ (t : List ℕ). record_of d.reply ++ t) (text_given-push es e)
    ∙ sym (append_assoc (record_of d.reply) (text_given es (records_of es)) (record_of e.reply))

-- one exchange more leads on
leads_to-push : {Link : Type 0} (Exchanges : Link → Timeval → List ℕ → Option (List ℕ) → Link → Type 0)
    (link between link' : Link) (es : List Exchange) (e : Exchange) → LeadsTo Exchanges link es between
    → Exchanges between e.time e.bytes e.reply link' → LeadsTo Exchanges link (es ++ e ∷ []) link'
leads_to-push Exchanges link between link' [] e here step =
    (link', subst (λ (l : _). Exchanges l e.time e.bytes e.reply link') here step, refl)
leads_to-push Exchanges link between link' (d ∷ es) e (m, first, rest) step =
    (m, first, leads_to-push Exchanges m between link' es e rest step)

-- the calls are those of one record more
calls_of-push : (readings : Option Readings) (es : List Exchange) (rs : List (List ℕ)) (e : Exchange)
    → IfSome readings (λ f. calls_of es ≡ with_times f 0 rs)
    → IfSome readings (λ f. e.time ≡ f (length rs))
    → IfSome readings (λ f. calls_of (es ++ e ∷ []) ≡ with_times f 0 (rs ++ e.bytes ∷ []))
calls_of-push None es rs e same at = tt
calls_of-push (Some f) es rs e same at =
    map-append (λ (x : Exchange). (x.time, x.bytes)) es (e ∷ [])
    ∙ ap (λ (cs : List (Timeval × List ℕ)). cs ++ (e.time, e.bytes) ∷ []) same
    ∙ ap (λ (t : Timeval). with_times f 0 rs ++ (t, e.bytes) ∷ []) at
    ∙ sym (with_next f rs e.bytes)

-- the time is the next reading
time_is_next : (readings readings₁ : Option Readings) (n : ℕ) (time : Timeval)
    → IfSome readings (λ f. IsAfter n f readings₁) → IfSome readings₁ (λ g. time ≡ g 0)
    → IfSome readings (λ f. time ≡ f n)
time_is_next None readings₁ n time taken h = tt
time_is_next (Some f) readings₁ n time taken h = next_reading f n readings₁ time taken h

-- a reading more was taken
one_more_taken : (readings readings₁ readings' : Option Readings) (n : ℕ)
    → IfSome readings (λ f. IsAfter n f readings₁) → IfSome readings₁ (λ g. IsAfter 1 g readings')
    → IfSome readings (λ f. IsAfter (n + 1) f readings')
one_more_taken None readings₁ readings' n taken h = tt
one_more_taken (Some f) readings₁ readings' n taken h = takes_next f n readings₁ readings' taken h

module _ {Link : Type 0} {Exchanges : Link → Timeval → List ℕ → Option (List ℕ) → Link → Type 0}
    {link between : Link} {readings : Option Readings} {made : List Exchange} {rs : List (List ℕ)}
    (a : AreExchanged Exchanges link between readings made rs) where
  -- one record more was exchanged
  exchanged-push : (link' : Link) (e : Exchange) → IfSome readings (λ f. e.time ≡ f (length rs))
      → Exchanges between e.time e.bytes e.reply link'
      → AreExchanged Exchanges link link' readings (made ++ e ∷ []) (rs ++ e.bytes ∷ [])
  exchanged-push link' e at step = record {
    records_are = map-append (λ (x : Exchange). x.bytes) made (e ∷ [])
        ∙ ap (λ (ss : List (List ℕ)). ss ++ e.bytes ∷ []) a.records_are;
    calls_are = calls_of-push readings made rs e a.calls_are at;
    reached = leads_to-push Exchanges link between link' made e a.reached step;
  }

  -- the replies so far, whatever follows
  given_before : (more : List Exchange) → text_given (made ++ more) rs ≡ text_given made rs
  given_before more =
      subst (λ (ss : List (List ℕ)). text_given (made ++ more) ss ≡ text_given made ss) a.records_are
      (text_given-more made more)

  -- and with the reply to one record more
  given_after : (e : Exchange)
      → text_given (made ++ e ∷ []) (rs ++ e.bytes ∷ []) ≡ text_given made rs ++ record_of e.reply
  given_after e =
      subst (λ (ss : List (List ℕ)).
      text_given (made ++ e ∷ []) (ss ++ e.bytes ∷ []) ≡ text_given made ss ++ record_of e.reply)
      a.records_are (text_given-push made e)

-- ---- the loop

-- the records so far, of which something else is owed that is the same text
abbrev owes_too : {owed : List (List ℕ) → List ℕ} {Leaves : List (List ℕ) → List (List ℕ) → Type 0} {k : ℕ}
    {before mid written_before written : Option (List ℕ)}
    (p : Progress owed Leaves k before mid written_before written) (owed' : List (List ℕ) → List ℕ)
    → owed' p.records ≡ owed p.records → Progress owed' Leaves k before mid written_before written
owes_too {written_before = written_before} {written = written} p owed' e = record {
  records = p.records;
  text = p.text;
  are_records = p.are_records;
  count_is = p.count_is;
  taken = p.taken;
  replied = subst (λ (t : List ℕ). Appends written_before written t) (sym e) p.replied;
  leaves = p.leaves;
}

module _ {Link : Type 0} (Exchanges : Link → Timeval → List ℕ → Option (List ℕ) → Link → Type 0)
    (Fails : Link → Timeval → List ℕ → LinkFault → Link → Type 0) where
  -- what link and clock were asked where all records so far were answered
  abbrev Asked : (link link' : Link) (readings readings' : Option Readings) → List Exchange
      → (answered unanswered : List (List ℕ)) → Type 0
  Asked link link' readings readings' made =
      IsAsked {A = Unit {0}} Exchanges Fails link link' readings readings' made (Ok tt)

  -- what was read, exchanged and written before the k-th turn
  abbrev pub HasAsked : (link link' : Link) (readings readings' : Option Readings) (k : ℕ)
      (before mid written_before written : Option (List ℕ)) → Type 0
  HasAsked link link' readings readings' k before mid written_before written = (made : List Exchange)
      × Progress (text_given made) (Asked link link' readings readings' made)
      k before mid written_before written

  -- nothing was asked
  pub asked_nothing : (link : Link) (readings : Option Readings) (before written : Option (List ℕ))
      → HasAsked link link readings readings 1 before before written written
  asked_nothing link readings before written = (
    [],
    begins (text_given [])
        (Asked link link readings readings []) before written refl (record {
          readings_taken = none readings;
          exchanged = λ e. record { records_are = refl; calls_are = no_call readings; reached = refl };
          failed = λ last e. absurd cc;
        }),
  )
    where
      none : (o : Option Readings) → IfSome o (λ f. IsAfter 0 f o)
      none None = tt
      none (Some f) = none_taken f

      no_call : (o : Option Readings) → IfSome o (λ f. calls_of [] ≡ with_times f 0 [])
      no_call None = tt
      no_call (Some f) = refl

  module _ {link between : Link} {readings readings₁ : Option Readings} {made : List Exchange}
      {rs : List (List ℕ)} (s : Asked link between readings readings₁ made rs []) where
    -- the same, whatever the answer
    still : {A : Type 0} (result : Result A StreamFault)
        → IsAsked Exchanges Fails link between readings readings₁ made result rs []
    still result = record {
      readings_taken = s.readings_taken;
      exchanged = s.exchanged;
      failed = λ last e. absurd cc;
    }

    -- so many readings are taken as there are records
    taken_so_far : IfSome readings (λ f. IsAfter (length rs) f readings₁)
    taken_so_far =
        let e : length (rs ++ []) ≡ length rs = omega (arith, length-append rs []) in
        subst (λ (n : ℕ). IfSome readings (λ f. IsAfter n f readings₁)) e s.readings_taken

    -- and one more
    one_more : (readings' : Option Readings) (r : List ℕ) → IfSome readings₁ (λ g. IsAfter 1 g readings')
        → IfSome readings (λ f. IsAfter (length (rs ++ r ∷ [])) f readings')
    one_more readings' r rest =
        let e : length (rs ++ r ∷ []) ≡ length rs + 1 = omega (arith, length-append rs (r ∷ [])) in
        subst (λ (n : ℕ). IfSome readings (λ f. IsAfter n f readings')) (sym e)
        (one_more_taken readings readings₁ readings' (length rs) taken_so_far rest)

    -- a record was read at a reading of the clock, and exchanged
    asked_one : {A : Type 0} (result : Result A StreamFault) (link' : Link) (readings' : Option Readings)
        (e : Exchange)
        → IfSome readings₁ (λ g. e.time ≡ g 0) → IfSome readings₁ (λ g. IsAfter 1 g readings')
        → Exchanges between e.time e.bytes e.reply link'
        → IsAsked Exchanges Fails link link' readings readings' (made ++ e ∷ []) result
        (rs ++ e.bytes ∷ []) []
    asked_one result link' readings' e reading rest step = record {
      readings_taken =
          let same : length ((rs ++ e.bytes ∷ []) ++ []) ≡ length (rs ++ e.bytes ∷ []) =
          omega (arith, length-append (rs ++ e.bytes ∷ []) []) in
          subst (λ (n : ℕ). IfSome readings (λ f. IsAfter n f readings')) (sym same)
          (one_more readings' e.bytes rest);
      exchanged = λ none. exchanged-push (s.exchanged refl) link' e
          (time_is_next readings readings₁ (length rs) e.time taken_so_far reading) step;
      failed = λ last none. absurd cc;
    }

    -- a record was read at a reading of the clock, and the link failed
    asked_last : {A : Type 0} (result : Result A StreamFault) (link' : Link) (readings' : Option Readings)
        (time : Timeval)
        (r : List ℕ) (fault : LinkFault)
        → IfSome readings₁ (λ g. time ≡ g 0) → IfSome readings₁ (λ g. IsAfter 1 g readings')
        → Fails between time r fault link' → result ≡ Err (of_link fault)
        → IsAsked Exchanges Fails link link' readings readings' made result rs (r ∷ [])
    asked_last result link' readings' time r fault reading rest step is = record {
      readings_taken = one_more readings' r rest;
      exchanged = λ none. absurd cc;
      failed = λ last same. let e : r ≡ last = cc in record {
        between = between;
        are_exchanged = s.exchanged refl;
        time = time;
        time_is = time_is_next readings readings₁ (length rs) time taken_so_far reading;
        fault = fault;
        fails = subst (λ (l : List ℕ). Fails between time l fault link') e step;
        result_is = is;
      };
    }

  -- one record more was read at a reading of the clock, and exchanged
  pub asks_one : (link between link' : Link) (readings readings₁ readings' : Option Readings) (k : ℕ)
      (before mid mid' written_before written written' : Option (List ℕ)) (more r : List ℕ) (time : Timeval)
      → HasAsked link between readings readings₁ k before mid written_before written
      → ReadsRecord mid mid' more r
      → IfSome readings₁ (λ g. time ≡ g 0) → IfSome readings₁ (λ g. IsAfter 1 g readings')
      → (reply : Option (List ℕ)) × Exchanges between time r reply link'
      × Appends written written' (record_of reply)
      → HasAsked link link' readings readings' (k + 1) before mid' written_before written'
  asks_one link between link' readings readings₁ readings' k before mid mid' written_before written written'
      more r time (made, p) reads reading rest (reply, step, wrote) =
      let e : Exchange = record { time = time; bytes = r; reply = reply } in
      let made' : List Exchange = made ++ e ∷ [] in
      let a = p.leaves.exchanged refl in (
        made',
        pushes (owes_too p (text_given made') (given_before a (e ∷ [])))
            (Asked link link' readings readings' made') written' (record_of reply) reads
            (given_after a e ∙ ap (λ (t : List ℕ). t ++ record_of reply) (sym (given_before a (e ∷ []))))
            wrote
            (asked_one p.leaves (Ok tt) link' readings' e reading rest step),
      )

  -- ---- its ends

  module _ {A : Type 0} (result : Result A StreamFault) (link between : Link)
      (readings readings₁ : Option Readings) (k : ℕ)
      (before mid written_before written : Option (List ℕ))
      (asked : HasAsked link between readings readings₁ k before mid written_before written) where
    -- nothing more was taken: all records were exchanged
    pub asked_all : (count : ℕ) → count + 1 ≡ k → (made : List Exchange) × (length made ≡ count)
        × StopsAfterRecords (text_given made)
        (IsAsked Exchanges Fails link between readings readings₁ made result)
        TakesNothing before mid written_before written
    asked_all count counted = let p = asked.1 in (
      asked.0,
      let same : length (records_of asked.0) ≡ length p.records =
          ap (λ (rs : List (List ℕ)). length rs) (p.leaves.exchanged refl).records_are in
          omega (arith, length-map asked.0 (λ (e : Exchange). e.bytes), same, p.count_is, counted),
      stops_after (says p (IsAsked Exchanges Fails link between readings readings₁ asked.0 result)
          (still p.leaves result)) TakesNothing refl,
    )

    -- no record could be read
    pub asks_reading : (e : RecordFault) (failed : Option RecordFault) (mid' : Option (List ℕ)) (m n : ℕ)
        → failed ≡ fault_after {A = Unit {0}} None (Err e) → ((e ≡ reader_faults.NoMemory) → mid' ≡ mid)
        → StopsAt e mid mid' → FailsUnless e PassesLimit IsUnfinished mid m n
        → (made : List Exchange) × LeavesOff (of_records e) failed (text_given made)
        (IsAsked Exchanges Fails link between readings readings₁ made result)
        before mid' written_before written
    asks_reading e failed mid' m n fails same stops why = (
      asked.0,
      by e
          (streams.leaves_off_reading (says asked.1
          (IsAsked Exchanges Fails link between readings readings₁ asked.0 result)
          (still asked.1.leaves result)) e failed mid' m n fails same stops why),
    )
      where
        by : (e : RecordFault)
            → stream_faults.LeavesOff e failed (text_given asked.0)
            (IsAsked Exchanges Fails link between readings readings₁ asked.0 result)
            before mid' written_before written
            → LeavesOff (of_records e) failed (text_given asked.0)
            (IsAsked Exchanges Fails link between readings readings₁ asked.0 result)
            before mid' written_before written
        by reader_faults.NoMemory h = h
        by reader_faults.RecordTooLong h = h
        by reader_faults.Device h = h
        by reader_faults.EndInRecord h = h

    -- memory was refused, and nothing more was taken
    pub asks_no_more : (failed : Option RecordFault) → (made : List Exchange)
        × LeavesOff faults.NoMemory failed (text_given made)
        (IsAsked Exchanges Fails link between readings readings₁ made result)
        before mid written_before written
    asks_no_more failed = (
      asked.0,
      inl (stops_after (says asked.1
          (IsAsked Exchanges Fails link between readings readings₁ asked.0 result)
          (still asked.1.leaves result)) TakesNothing refl),
    )

  -- what a step that gave a fault says: the device took a beginning of the reply, or the link failed
  abbrev pub StepFails : (e : StreamFault) (between link' : Link) (time : Timeval) (r : List ℕ)
      (written written' : Option (List ℕ)) → Type 0
  StepFails e between link' time r written written' =
      ((e ≡ faults.Device) × ((reply : Option (List ℕ)) × Exchanges between time r reply link'
      × WritesFront written written' (record_of reply)))
      ⊎ ((f : LinkFault) × (e ≡ of_link f) × (written' ≡ written) × Fails between time r f link')

  -- one of the two, by what the step's clauses say
  pub step_fails : (e : StreamFault) (between link' : Link) (time : Timeval) (r : List ℕ)
      (written written' : Option (List ℕ)) {Same : Type 0} {May Then : LinkFault → Type 0}
      → (Same → written' ≡ written)
      → (e ≡ faults.Device)
      ⊎ ((f : LinkFault) × (e ≡ of_link f) × Same × May f × Then f × Fails between time r f link')
      → ((e ≡ faults.Device) → (reply : Option (List ℕ)) × Exchanges between time r reply link'
      × WritesFront written written' (record_of reply))
      → StepFails e between link' time r written written'
  step_fails e between link' time r written written' same (inl d) cut = inl (d, cut d)
  step_fails e between link' time r written written' same (inr (f, told, s, may, then, fails)) cut =
      inr (f, told, same s, fails)

  -- a record was read and its reply not wholly written, or it got no answer
  pub asks_answering : {A : Type 0} (result : Result A StreamFault) (e : StreamFault)
      (failed : Option RecordFault)
      (link between link' : Link) (readings readings₁ readings' : Option Readings) (k : ℕ)
      (before mid mid' written_before written written' : Option (List ℕ)) (more r : List ℕ) (time : Timeval)
      → HasAsked link between readings readings₁ k before mid written_before written
      → ReadsRecord mid mid' more r
      → IfSome readings₁ (λ g. time ≡ g 0) → IfSome readings₁ (λ g. IsAfter 1 g readings')
      → result ≡ Err e → failed ≡ None
      → StepFails e between link' time r written written'
      → (made : List Exchange) × LeavesOff e failed (text_given made)
      (IsAsked Exchanges Fails link link' readings readings' made result)
      before mid' written_before written'
  asks_answering result e failed link between link' readings readings₁ readings' k before mid mid'
      written_before written written' more r time (made, p) reads reading rest is fresh
      (inl (device, (reply, step, wrote))) =
      let x : Exchange = record { time = time; bytes = r; reply = reply } in
      let made' : List Exchange = made ++ x ∷ [] in
      let a = p.leaves.exchanged refl in (
        made',
        rw (device, fresh) (stops_in_reply (owes_too p (text_given made') (given_before a (x ∷ [])))
            (IsAsked Exchanges Fails link link' readings readings' made' result) written'
            (record_of reply) reads
            (given_after a x ∙ ap (λ (t : List ℕ). t ++ record_of reply) (sym (given_before a (x ∷ []))))
            wrote
            (asked_one p.leaves result link' readings' x reading rest step)),
      )
  asks_answering result e failed link between link' readings readings₁ readings' k before mid mid'
      written_before written written' more r time (made, p) reads reading rest is fresh
      (inr (f, told, same, step)) = (
        made,
        by f e told (rw same (stops_before_reply p
            (IsAsked Exchanges Fails link link' readings readings' made result) reads
            (asked_last p.leaves result link' readings' time r f reading rest step
            (is ∙ ap Err told)))),
      )
    where
      by : (f : LinkFault) (e : StreamFault) → e ≡ of_link f
          → StopsBeforeReply (text_given made)
          (IsAsked Exchanges Fails link link' readings readings' made result)
          before mid' written_before written'
          → LeavesOff e failed (text_given made)
          (IsAsked Exchanges Fails link link' readings readings' made result)
          before mid' written_before written'
      by links.KeysUsedUp e told h = rw told h
      by links.NoMemory e told h = rw told (inr h)
      by links.Failed e told h = rw told h
