-- A loop over a stream of records, whatever is owed to them: what it has done before its k-th turn
-- (Progress), one record more (pushes) or some (extends), and what follows at each of its ends: the input is
-- at its end (serves), no record could be read (ends, leaves_off_reading, stands_reading), a record was read
-- and got no answer (stops_before_reply), or its reply was not wholly written (stops_in_reply); and in each
-- case that a beginning of what is owed stands written (is_part, is_part_in_reply).
-- Serves: Gateway::serve_stream (gateway), run_rpc (rpc_streams).
use Rattle.std.proofs.Common.{◌≡◌, inl, ℕ, ◌+◌, List, [], ◌∷◌, ◌++◌, arith, length, sym, ap, ◌∙◌, refl}
use Rattle.std.proofs.Common.{length-append, append_assoc, subst}
use Rattle.std.specs.Prelude.{Option, Some, None, IfSome, Err}
use Rattle.std.specs.Io.KnownBytes.{Consumes, Appends}
use Rattle.std.proofs.KnownBytes.{Consumes-trans, Consumes-nil, Appends-trans, Appends-nil}
use Rattle.std.proofs.lemmas.List.{append-nil}
use Rattle.rpc.specs.Records.Record.{IsRecord, IsUnfinished, PassesLimit}
use Rattle.rpc.specs.Records.Stream.{AreRecords}
use Rattle.rpc.specs.Records.Writing.{WritesFront}
use Rattle.rpc.specs.Records.Reading.{Fails, FailsUnless, StopsAt, TakesToLimit, TakesPart, IsPartOfRecord}
use Rattle.rpc.specs.Records.Reading.{fault_after}
use Rattle.rpc.specs.declared.records.fault.RecordFault.{RecordFault}
use Rattle.rpc.specs.declared.records.fault.RecordFault.TheVariants as faults
use Rattle.rpc.proofs.OfRecords.Streams.{AreRecords-push}
use Rattle.stream_spec.specs.Streams.{Serves, ServesUpTo, ServesPart, StopsAfterRecords, StopsBeforeReply}
use Rattle.stream_spec.specs.Streams.{StopsInReply, TakesNothing, TakesUnfinished}
use Rattle.stream_spec.specs.Faults.{EndsWith, LeavesOff, StandsAfter}

-- some records and then others
AreRecords-append : (t u : List ℕ) (rs ss : List (List ℕ)) → AreRecords t rs → AreRecords u ss
    → AreRecords (t ++ u) (rs ++ ss)
AreRecords-append t u [] ss none are = rw none are
AreRecords-append t u (r ∷ rs) ss (first, others, is, are', e) are =
    (first, others ++ u, is, AreRecords-append others u rs ss are' are, rw e (append_assoc first others u))

-- before the k-th turn: these records were read, and what is owed to them written
pub record Progress (owed : List (List ℕ) → List ℕ) (Leaves : List (List ℕ) → List (List ℕ) → Type 0) (k : ℕ)
    (before mid written_before written : Option (List ℕ)) : Type 0 where
  -- the records
  pub records : List (List ℕ)
  -- their text in the stream
  pub text : List ℕ
  -- which is these records, however each is cut
  pub are_records : AreRecords text records
  -- k - 1 of them
  pub count_is : 1 + length records ≡ k
  -- the reader has lost their text
  pub taken : Consumes before mid text
  -- all that is owed to them was written
  pub replied : Appends written_before written (owed records)
  -- what holds besides
  pub leaves : Leaves records []

-- nothing was read, and nothing written
pub begins : (owed : List (List ℕ) → List ℕ) (Leaves : List (List ℕ) → List (List ℕ) → Type 0)
    (before written : Option (List ℕ)) → owed [] ≡ [] → Leaves [] []
    → Progress owed Leaves 1 before before written written
begins owed Leaves before written e leaves = record {
  records = [];
  text = [];
  are_records = refl;
  count_is = refl;
  taken = Consumes-nil before;
  replied = rw e (Appends-nil written);
  leaves = leaves;
}

-- a record was read: its text was at the front of what was left
pub record ReadsRecord (mid mid' : Option (List ℕ)) (more r : List ℕ) : Type 0 where
  -- the record's text
  pub is_record : IsRecord more r
  -- the reader has lost it
  pub taken : Consumes mid mid' more

module _ {owed : List (List ℕ) → List ℕ} {Leaves : List (List ℕ) → List (List ℕ)
    → Type 0} {k : ℕ} {before mid written_before written : Option (List ℕ)}
    (p : Progress owed Leaves k before mid written_before written) where
  -- the records so far and this one
  with_record : {mid' : Option (List ℕ)} {more r : List ℕ} → ReadsRecord mid mid' more r
      → AreRecords (p.text ++ more) (p.records ++ r ∷ []) × Consumes before mid' (p.text ++ more)
  with_record {more = more} {r = r} reads = (
    AreRecords-push p.text p.records more r p.are_records reads.is_record,
    Consumes-trans _ _ _ _ _ p.taken reads.taken,
  )

  -- the same, of which something else holds besides
  pub says : (Leaves' : List (List ℕ) → List (List ℕ) → Type 0) → Leaves' p.records []
      → Progress owed Leaves' k before mid written_before written
  says Leaves' leaves =
      record {
        records = p.records;
        text = p.text;
        are_records = p.are_records;
        count_is = p.count_is;
        taken =
            p.taken;
        replied = p.replied;
        leaves = leaves;
      }

  -- one record more was read, and its reply written
  pub pushes : (Leaves' : List (List ℕ) → List (List ℕ) → Type 0) {mid' : Option (List ℕ)}
      (written' : Option (List ℕ)) {more r : List ℕ} (reply : List ℕ) → ReadsRecord mid mid' more r
      → owed (p.records ++ r ∷ []) ≡ owed p.records ++ reply → Appends written written' reply
      → Leaves' (p.records ++ r ∷ []) [] → Progress owed Leaves' (k + 1) before mid' written_before written'
  pushes Leaves' written' {more = more} {r = r} reply reads e wrote leaves = record {
    records = p.records ++ r ∷ [];
    text = p.text ++ more;
    are_records = (with_record reads).0;
    count_is = omega (arith, length-append p.records (r ∷ []), p.count_is);
    taken = (with_record reads).1;
    replied = rw e (Appends-trans _ _ _ _ _ p.replied wrote);
    leaves = leaves;
  }

  -- some records more were read, and their replies written
  pub extends : (Leaves' : List (List ℕ) → List (List ℕ) → Type 0) {mid' : Option (List ℕ)}
      (written' : Option (List ℕ)) (count : ℕ) (text : List ℕ) (records : List (List ℕ)) (replies : List ℕ)
      → AreRecords text records → length records ≡ count
      → Consumes mid mid' text → owed (p.records ++ records) ≡ owed p.records ++ replies
      → Appends written written' replies → Leaves' (p.records ++ records) []
      → Progress owed Leaves' (k + count) before mid' written_before written'
  extends Leaves' written' count text records replies are counted taken e wrote leaves = record {
    records = p.records ++ records;
    text = p.text ++ text;
    are_records = AreRecords-append p.text text p.records records p.are_records are;
    count_is = omega (arith, length-append p.records records, p.count_is, counted);
    taken = Consumes-trans _ _ _ _ _ p.taken taken;
    replied = rw e (Appends-trans _ _ _ _ _ p.replied wrote);
    leaves = leaves;
  }

  -- no record more could be read
  pub stops_after : (Takes : Option (List ℕ) → Option (List ℕ) → Type 0) {mid' : Option (List ℕ)}
      → Takes mid mid' → StopsAfterRecords owed Leaves Takes before mid' written_before written
  stops_after Takes h = record {
    answered = p.records;
    text = p.text;
    between = mid;
    are_records = p.are_records;
    taken = p.taken;
    then_takes = h;
    written = p.replied;
    leaves = p.leaves;
  }

  -- a record was read and got no answer
  pub stops_before_reply : (Leaves' : List (List ℕ) → List (List ℕ)
      → Type 0) {mid' : Option (List ℕ)} {more r : List ℕ} → ReadsRecord mid mid' more r
      → Leaves' p.records (r ∷ [])
      → StopsBeforeReply owed Leaves' before mid' written_before written
  stops_before_reply Leaves' {more = more} {r = r} reads leaves = record {
    answered = p.records;
    last = r;
    text = p.text ++ more;
    are_records = (with_record reads).0;
    taken = (with_record reads).1;
    written = p.replied;
    leaves = leaves;
  }

  -- a record was read and its reply not wholly written
  pub stops_in_reply : (Leaves' : List (List ℕ) → List (List ℕ) → Type 0) {mid' : Option (List ℕ)}
      (written' : Option (List ℕ)) {more r : List ℕ} (reply : List ℕ) → ReadsRecord mid mid' more r
      → owed (p.records ++ r ∷ []) ≡ owed p.records ++ reply → WritesFront written written' reply
      → Leaves' (p.records ++ r ∷ []) [] → StopsInReply owed Leaves' before mid' written_before written'
  stops_in_reply Leaves' written' {more = more} {r = r} reply reads e wrote leaves = record {
    answered = p.records;
    last = r;
    text = p.text ++ more;
    front = wrote.0;
    unwritten = wrote.1;
    are_records = (with_record reads).0;
    taken = (with_record reads).1;
    owed_is = e ∙ ap (λ (t : List ℕ). owed p.records ++ t) wrote.2;
    is_short = wrote.3;
    written = Appends-trans _ _ _ _ _ p.replied wrote.4;
    leaves = leaves;
  }

-- what was read and not read, where the input is known
known : (before mid : Option (List ℕ)) (text : List ℕ) (P : List ℕ → Type 0) → Consumes before mid text
    → ((input rest : List ℕ) → mid ≡ Some rest → input ≡ text ++ rest → P input) → IfSome before P
known None mid text P taken f = tt
known (Some xs) None text P taken f = absurd taken
known (Some xs) (Some ys) text P taken f = f xs ys refl taken

module _ {owed : List (List ℕ) → List ℕ} {Leaves : List (List ℕ) → List (List ℕ)
    → Type 0} {k : ℕ} {before mid written_before written : Option (List ℕ)}
    (p : Progress owed Leaves k before mid written_before written) where
  -- all that was owed so far stands written
  pub is_part : IfSome before (λ input. ServesPart owed input written_before written)
  is_part = known before mid p.text (λ input. ServesPart owed input written_before written) p.taken
      (λ input rest left is_input. record {
        records = p.records;
        text = p.text;
        rest = rest;
        are_records = p.are_records;
        input_is = is_input;
        front = owed p.records;
        unwritten = [];
        owed_is = sym (append-nil (owed p.records));
        written = p.replied;
      })

  -- and a beginning of one reply more
  pub is_part_in_reply : {mid' : Option (List ℕ)} (written' : Option (List ℕ)) {more r : List ℕ}
      (reply : List ℕ) → ReadsRecord mid mid' more r → owed (p.records ++ r ∷ []) ≡ owed p.records ++ reply
      → WritesFront written written' reply
      → IfSome before (λ input. ServesPart owed input written_before written')
  is_part_in_reply {mid' = mid'} written' {more = more} {r = r} reply reads e wrote =
      known before mid' (p.text ++ more) (λ input. ServesPart owed input written_before written')
      (with_record p reads).1 (λ input rest left is_input. record {
        records = p.records ++ r ∷ [];
        text = p.text ++ more;
        rest = rest;
        are_records = (with_record p reads).0;
        input_is = is_input;
        front = owed p.records ++ wrote.0;
        unwritten = wrote.1;
        owed_is = e ∙ ap (λ (t : List ℕ). owed p.records ++ t) wrote.2
            ∙ sym (append_assoc (owed p.records) wrote.0 wrote.1);
        written = Appends-trans _ _ _ _ _ p.replied wrote.4;
      })

  -- the input is at its end
  pub serves : (count : ℕ) → count + 1 ≡ k → IfSome mid (λ bytes. bytes ≡ [])
      → IfSome before (λ input. Serves owed Leaves count input written_before written)
  serves count counted end =
      known before mid p.text (λ input. Serves owed Leaves count input written_before written) p.taken
      (λ input rest left is_input.
      let none : rest ≡ [] = at_end mid rest left end in
      let whole : input ≡ p.text = is_input ∙ ap (λ (t : List ℕ). p.text ++ t) none ∙ append-nil p.text in
      record {
        records = p.records;
        are_records = subst (λ (t : List ℕ). AreRecords t p.records) (sym whole) p.are_records;
        count_is = omega (arith, p.count_is);
        written = p.replied;
        leaves = p.leaves;
      })
    where
      at_end : (mid : Option (List ℕ)) (rest : List ℕ) → mid ≡ Some rest → IfSome mid (λ bytes. bytes ≡ [])
          → rest ≡ []
      at_end None rest e h = absurd cc
      at_end (Some xs) rest e h = let same : xs ≡ rest = cc in sym same ∙ h

  -- the input goes on with bytes of which something holds
  pub up_to : (P : List ℕ → Type 0) → IfSome mid P
      → IfSome before (λ input. ServesUpTo owed P input written_before written)
  up_to P h = known before mid p.text (λ input. ServesUpTo owed P input written_before written) p.taken
      (λ input rest left is_input. record {
        records = p.records;
        text = p.text;
        rest = rest;
        are_records = p.are_records;
        input_is = is_input;
        rest_is = at_rest mid rest left h;
        written = p.replied;
      })
    where
      at_rest : (mid : Option (List ℕ)) (rest : List ℕ) → mid ≡ Some rest → IfSome mid P → P rest
      at_rest None rest e h = absurd cc
      at_rest (Some xs) rest e h = let same : xs ≡ rest = cc in subst P same h

  -- memory was refused
  pub stays : IfSome before (λ input. EndsWith faults.NoMemory owed input written_before written)
  stays = up_to (λ _. Unit {0}) (any mid)
    where
      any : (mid : Option (List ℕ)) → IfSome mid (λ _. Unit {0})
      any None = tt
      any (Some xs) = tt

  -- no record could be read: what the input is
  pub ends : (e : RecordFault) (m n : ℕ) → Fails e PassesLimit IsUnfinished mid m n
      → IfSome before (λ input. EndsWith e owed input written_before written)
  ends faults.NoMemory m n h = absurd h
  ends faults.RecordTooLong m n h = up_to PassesLimit h.0
  ends faults.Device m n h = is_part
  ends faults.EndInRecord m n h = up_to IsUnfinished h.0

  -- and what was taken
  pub leaves_off_reading : (e : RecordFault) (failed : Option RecordFault) (mid' : Option (List ℕ)) (m n : ℕ)
      → failed ≡ fault_after {A = Unit {0}} None (Err e) → ((e ≡ faults.NoMemory) → mid' ≡ mid)
      → StopsAt e mid mid' → FailsUnless e PassesLimit IsUnfinished mid m n
      → LeavesOff e failed owed Leaves before mid' written_before written
  leaves_off_reading faults.NoMemory failed mid' m n fails same stops why =
      inl (stops_after p TakesNothing (same refl))
  leaves_off_reading faults.RecordTooLong failed mid' m n fails same stops why =
      stops_after p TakesToLimit stops
  leaves_off_reading faults.Device failed mid' m n fails same stops why =
      rw fails (stops_after p (TakesPart IsPartOfRecord) stops)
  leaves_off_reading faults.EndInRecord failed mid' m n fails same stops why =
      stops_after p TakesUnfinished (stops, why.0)

-- and what stands
pub stands_reading : (e : RecordFault) (failed : Option RecordFault) (mid : Option (List ℕ))
    (reads reads' writes writes' : ℕ) → failed ≡ fault_after {A = Unit {0}} None (Err e)
    → ((e ≡ faults.NoMemory) → reads' ≡ reads)
    → FailsUnless e PassesLimit IsUnfinished mid reads reads' → writes' ≡ writes
    → StandsAfter e failed reads reads' writes writes'
stands_reading faults.NoMemory failed mid reads reads' writes writes' fails same why kept =
    (fails, same refl, kept)
stands_reading faults.RecordTooLong failed mid reads reads' writes writes' fails same why kept =
    (fails, why.1, kept)
stands_reading faults.Device failed mid reads reads' writes writes' fails same why kept =
    inl (fails, why, kept)
stands_reading faults.EndInRecord failed mid reads reads' writes writes' fails same why kept =
    (fails, why.1, kept)
