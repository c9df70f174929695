-- The loop over records, as the one over any stream of records with this server's replies: what it has done
-- before the k-th record (Progress, Turn), and what follows at each of its ends: the input is at its end
-- (serves), no record could be read (ends, leaves_off_reading), a record was read and its reply not wholly
-- written (unanswered, leaves_off_answering), memory was refused for it (refused_one, leaves_off_refused) or
-- before the first (nothing_yet, stops_at_once), or it stopped among the records at hand after it
-- (stops_with_held, leaves_off_with_held).
-- Serves: run_rpc, serve_records.
use Rattle.std.proofs.Common.{◌≡◌, ◌⊎◌, inl, inr, ℕ, ◌+◌, List, [], ◌∷◌, ◌++◌, length, sym, ap, ◌∙◌, refl}
use Rattle.std.specs.Prelude.{Option, None, IfSome, Err}
use Rattle.std.specs.Io.KnownBytes.{Appends}
use Rattle.rpc.specs.Records.Record.{IsUnfinished, PassesLimit}
use Rattle.rpc.specs.Records.Writing.{WritesFront}
use Rattle.rpc.specs.declared.records.fault.RecordFault.{RecordFault}
use Rattle.rpc.specs.declared.records.fault.RecordFault.TheVariants as faults
use Rattle.rpc.specs.Records.Reading.{Fails, FailsUnless, StopsAt, fault_after}
use Rattle.stream_spec.specs.Streams.{Serves, ServesPart, TakesNothing}
use Rattle.stream_spec.specs.Faults.{EndsWith, LeavesOff}
use Rattle.stream_spec.specs.InTurn.{with_times}
use Rattle.stream_spec.proofs.StreamProgress as streams
use Rattle.stream_spec.proofs.StreamProgress.{ReadsRecord}
use Rattle.server_spec.specs.World.{World, opening_world}
use Rattle.server_spec.specs.Replies.{reply_owed, world_after}
use Rattle.server_spec.specs.Owed.{record_of, world_after_all}
use Rattle.rpc_streams.specs.Batches.{owed_from, world_from, AfterHeld, AnswersRecords, AnswersAndStops}
use Rattle.rpc_streams.specs.Batches.{StopsAfter, StopsWithHeld}
use Rattle.rpc_streams.proofs.InTurn.{owed_from-push, world_from-push, owed_from-append, world_from-append}
use Rattle.rpc_streams.specs.RunRpc.{time_of, text_owed, SaysNothing}

-- ---- one record more: what is owed to it, and the world after it

-- the world after some records
abbrev pub world_at : List (List ℕ) → World
world_at records = world_after_all (opening_world 1) (with_times time_of 1 records)

-- the world after one record more
pub world_at-push : (rs : List (List ℕ)) (r : List ℕ)
    → world_at (rs ++ r ∷ []) ≡ world_after (world_at rs) (time_of (1 + length rs)) r
world_at-push rs r = world_from-push (opening_world 1) 1 rs r

-- what is owed to one record more stands after what is owed to those before it
pub text_owed-push : (rs : List (List ℕ)) (r : List ℕ)
    → text_owed (rs ++ r ∷ [])
    ≡ text_owed rs ++ record_of (reply_owed (world_at rs) (time_of (1 + length rs)) r)
text_owed-push rs r = owed_from-push (opening_world 1) 1 rs r

-- ---- what the loop has done so far

-- the server is as the records that were answered leave it
abbrev pub LeavesWorld : World → List (List ℕ) → List (List ℕ) → Type 0
LeavesWorld now answered unanswered = now ≡ world_at answered

-- before the k-th record: k - 1 records were read, and their replies written
abbrev pub Progress : World → ℕ → (before mid written_before written : Option (List ℕ)) → Type 0
Progress now k before mid written_before written =
    streams.Progress text_owed (LeavesWorld now) k before mid written_before written

-- nothing was read, and nothing written
pub begins : (now : World) (before written : Option (List ℕ)) → now ≡ opening_world 1
    → Progress now 1 before before written written
begins now before written e = streams.begins text_owed (LeavesWorld now) before written refl e

-- its reply was not wholly written
pub record FailsToAnswer (e : RecordFault) (reply : List ℕ)
    (written written' : Option (List ℕ)) : Type 0 where
  -- the device took a beginning of it
  pub device : (e ≡ faults.Device) → WritesFront written written' reply
  -- or memory was refused, and nothing was written
  pub memory : (e ≡ faults.NoMemory) → written' ≡ written
  -- one of the two
  pub is_either : (e ≡ faults.Device) ⊎ (e ≡ faults.NoMemory)

module _ {now : World} {k : ℕ} {before mid written_before written : Option (List ℕ)}
    (p : Progress now k before mid written_before written) where
  -- the same, with no word of the server
  unseen : streams.Progress text_owed SaysNothing k before mid written_before written
  unseen = streams.says p SaysNothing tt

  -- what is owed to the records so far and this one
  owed_with_record : (r : List ℕ)
      → text_owed (p.records ++ r ∷ []) ≡ text_owed p.records ++ record_of (reply_owed now (time_of k) r)
  owed_with_record r = rw (text_owed-push p.records r, p.count_is, ← p.leaves) refl

  -- one record more was read, and its reply written
  pub pushes : {next : World} {mid' written' : Option (List ℕ)} {more r : List ℕ}
      → ReadsRecord mid mid' more r → next ≡ world_after now (time_of k) r
      → Appends written written' (record_of (reply_owed now (time_of k) r))
      → Progress next (k + 1) before mid' written_before written'
  pushes {next = next} {written' = written'} {r = r} reads e wrote =
      streams.pushes p (LeavesWorld next) written' (record_of (reply_owed now (time_of k) r)) reads
      (owed_with_record r) wrote
      (e ∙ ap (λ (w : World). world_after w (time_of k) r) p.leaves
      ∙ rw (← p.count_is) (sym (world_at-push p.records r)))

  -- some records more were read, and their replies written
  pub answers : {next : World} {count : ℕ} {mid' written' : Option (List ℕ)}
      → AnswersRecords now k next count mid mid' written written'
      → Progress next (k + count) before mid' written_before written'
  answers {next = next} {count = count} {written' = written'} a =
      let owed : text_owed (p.records ++ a.records) ≡ text_owed p.records ++ owed_from now k a.records =
      rw (owed_from-append (opening_world 1) 1 p.records a.records, p.count_is, ← p.leaves) refl in
      let next_is : world_at (p.records ++ a.records) ≡ world_from now k a.records =
      rw (world_from-append (opening_world 1) 1 p.records a.records, p.count_is, ← p.leaves) refl in
      streams.extends p (LeavesWorld next) written' count a.text a.records
      (owed_from now k a.records) a.are_records a.count_is a.taken owed a.written
      (a.world_is ∙ sym next_is)

-- ---- what was written, where the input is known

-- all that was owed so far stands written
pub stops : (now : World) (k : ℕ) (before mid written_before written : Option (List ℕ))
    → Progress now k before mid written_before written
    → IfSome before (λ input. ServesPart text_owed input written_before written)
stops now k before mid written_before written p = streams.is_part p

-- the input is at its end
pub serves : (now : World) (k : ℕ) (before mid written_before written : Option (List ℕ)) (count : ℕ)
    → Progress now k before mid written_before written → count + 1 ≡ k
    → IfSome mid (λ bytes. bytes ≡ [])
    → IfSome before (λ input. Serves text_owed SaysNothing count input written_before written)
serves now k before mid written_before written count p counted end =
    streams.serves (unseen p) count counted end

-- all that was owed so far stands written, and memory was refused
pub stays : (now : World) (k : ℕ) (before mid written_before written : Option (List ℕ))
    → Progress now k before mid written_before written
    → IfSome before (λ input. EndsWith faults.NoMemory text_owed input written_before written)
stays now k before mid written_before written p = streams.stays p

-- a record was read and its reply not wholly written
pub unanswered : {e : RecordFault} {now : World} {k : ℕ}
    {before mid mid' written_before written written' : Option (List ℕ)} {more r : List ℕ}
    → Progress now k before mid written_before written
    → ReadsRecord mid mid' more r
    → FailsToAnswer e (record_of (reply_owed now (time_of k) r)) written written'
    → IfSome before (λ input. EndsWith e text_owed input written_before written')
unanswered {e = e} {now = now} {k = k} {before = before} {written_before = written_before} {written' =
    written'} {r = r} p reads fails = by fails.is_either
  where
    by : (e ≡ faults.Device) ⊎ (e ≡ faults.NoMemory)
        → IfSome before (λ input. EndsWith e text_owed input written_before written')
    by (inl d) =
        rw d (streams.is_part_in_reply p written' (record_of (reply_owed now (time_of k) r)) reads
        (owed_with_record p r) (fails.device d))
    by (inr m) = rw (m, fails.memory m) (streams.stays p)

-- no record could be read
pub ends : (e : RecordFault) (now : World) (k : ℕ) (before mid written_before written : Option (List ℕ))
    (m n : ℕ) → Progress now k before mid written_before written
    → Fails e PassesLimit IsUnfinished mid m n
    → IfSome before (λ input. EndsWith e text_owed input written_before written)
ends e now k before mid written_before written m n p h = streams.ends p e m n h

-- the loop before the k-th record: no fault has come, and nothing was counted
pub record Turn (now : World) (k : ℕ) (before mid written_before written : Option (List ℕ))
    (failed : Option RecordFault) (reads reads_now writes writes_now : ℕ) : Type 0 where
  -- what was read and written
  pub progress : Progress now k before mid written_before written
  -- the reader has no fault
  pub fresh : failed ≡ None
  -- no read failed
  pub reads_same : reads_now ≡ reads
  -- no write failed
  pub writes_same : writes_now ≡ writes

-- memory was refused before the first record
pub nothing_yet : (before written : Option (List ℕ))
    → IfSome before (λ input. EndsWith faults.NoMemory text_owed input written written)
nothing_yet before written = streams.stays (begins (opening_world 1) before written refl)

-- ---- what was taken of the reader

-- all records that were taken are answered, and memory was refused
pub stops_between : {now : World} {k : ℕ} {before mid written_before written : Option (List ℕ)}
    → Progress now k before mid written_before written
    → LeavesOff faults.NoMemory None text_owed SaysNothing before mid written_before written
stops_between p = inl (streams.stops_after (unseen p) TakesNothing refl)

-- nothing was taken
pub stops_at_once : (before written : Option (List ℕ))
    → LeavesOff faults.NoMemory None text_owed SaysNothing before before written written
stops_at_once before written = stops_between (begins (opening_world 1) before written refl)

-- memory isn't what was wanting
unless : (e : RecordFault) (mid : Option (List ℕ)) (m n : ℕ) → Fails e PassesLimit IsUnfinished mid m n
    → FailsUnless e PassesLimit IsUnfinished mid m n × ((e ≡ faults.NoMemory) → ⊥)
unless faults.NoMemory mid m n h = absurd h
unless faults.RecordTooLong mid m n h = (h, λ e. absurd cc)
unless faults.Device mid m n h = (h, λ e. absurd cc)
unless faults.EndInRecord mid m n h = (h, λ e. absurd cc)

-- no record could be read
pub leaves_off_reading : {now : World} {k : ℕ} {before mid written_before written : Option
    (List ℕ)} {failed : Option RecordFault} (e : RecordFault) (mid' : Option (List ℕ)) (m n : ℕ)
    → Progress now k before mid written_before written → failed ≡ fault_after {A = Unit {0}} None (Err e)
    → Fails e PassesLimit IsUnfinished mid m n → StopsAt e mid mid'
    → LeavesOff e failed text_owed SaysNothing before mid' written_before written
leaves_off_reading {mid = mid} {failed = failed} e mid' m n p f fails h =
    let why = unless e mid m n fails in
    streams.leaves_off_reading (unseen p) e failed mid' m n f (λ none. absurd (why.1 none)) h why.0

-- a record was read and its reply not wholly written
pub leaves_off_answering : {e : RecordFault} {now : World} {k : ℕ}
    {before mid mid' written_before written written' : Option (List ℕ)} {more r : List ℕ}
    (failed : Option RecordFault)
    → Progress now k before mid written_before written → ReadsRecord mid mid' more r
    → FailsToAnswer e (record_of (reply_owed now (time_of k) r)) written written'
    → failed ≡ None → LeavesOff e failed text_owed SaysNothing before mid' written_before written'
leaves_off_answering {e = e} {now = now} {k = k} {before = before} {mid' = mid'} {written_before =
    written_before} {written' = written'} {r = r} failed p reads fails fresh = by fails.is_either
  where
    by : (e ≡ faults.Device) ⊎ (e ≡ faults.NoMemory)
        → LeavesOff e failed text_owed SaysNothing before mid' written_before written'
    by (inl d) =
        rw (d, fresh) (streams.stops_in_reply p SaysNothing written'
        (record_of (reply_owed now (time_of k) r)) reads (owed_with_record p r) (fails.device d) tt)
    by (inr m) = rw (m, fails.memory m) (inr (streams.stops_before_reply p SaysNothing reads tt))

-- ---- records at hand were answered, and then it stopped

-- what was written
pub stops_behind : {e : RecordFault} {now : World} {k : ℕ}
    {before mid mid' written_before written written' : Option (List ℕ)}
    → Progress now k before mid written_before written
    → AnswersAndStops e now k mid mid' written written'
    → IfSome before (λ input. EndsWith e text_owed input written_before written')
stops_behind {e = e} {k = k} {before = before} {mid' = mid'} {written_before = written_before} {written' =
    written'} p a = by e a.stops
  where
    q : Progress a.now (k + a.count) before a.between written_before a.written
    q = answers p a.answers

    by : (e : RecordFault) → StopsAfter e a.now (k + a.count) a.between mid' a.written written'
        → IfSome before (λ input. EndsWith e text_owed input written_before written')
    by faults.NoMemory same = rw same.1 (streams.stays q)
    by faults.Device (text, last, is, taken, wrote) =
        streams.is_part_in_reply q written' (record_of (reply_owed a.now (time_of (k + a.count)) last))
        (record { is_record = is; taken = taken }) (owed_with_record q last) wrote
    by faults.RecordTooLong never = absurd never
    by faults.EndInRecord never = absurd never

-- what was taken
pub leaves_off_after : {e : RecordFault} {now : World} {k : ℕ}
    {before mid mid' written_before written written' : Option (List ℕ)} (failed : Option RecordFault)
    → failed ≡ None
    → Progress now k before mid written_before written → AnswersAndStops e now k mid mid' written written'
    → LeavesOff e failed text_owed SaysNothing before mid' written_before written'
leaves_off_after {e = e} {k = k} {before = before} {mid' = mid'} {written_before = written_before} {written' =
    written'} failed fresh p a = by e a.stops
  where
    q : Progress a.now (k + a.count) before a.between written_before a.written
    q = answers p a.answers

    by : (e : RecordFault) → StopsAfter e a.now (k + a.count) a.between mid' a.written written'
        → LeavesOff e failed text_owed SaysNothing before mid' written_before written'
    by faults.NoMemory same = rw (same.0, same.1) (stops_between q)
    by faults.Device (text, last, is, taken, wrote) =
        leaves_off_answering failed q (record { is_record = is; taken = taken })
        (record { device = λ d. wrote; memory = λ m. absurd cc; is_either = inl refl }) fresh
    by faults.RecordTooLong never = absurd never
    by faults.EndInRecord never = absurd never

-- ---- a record was read and answered, its reply held, and those at hand answered after it

-- a device isn't memory
other : {e : RecordFault} → e ≡ faults.Device → e ≡ faults.NoMemory → ⊥
other refl m = absurd cc

-- memory was refused for it: what was written
pub refused_one : {now : World} {k : ℕ} {before mid mid' written_before written : Option (List ℕ)}
    {more r : List ℕ}
    → Progress now k before mid written_before written → ReadsRecord mid mid' more r
    → IfSome before (λ input. EndsWith faults.NoMemory text_owed input written_before written)
refused_one p reads = streams.stays p

-- memory was refused for it: what was taken
pub leaves_off_refused : {now : World} {k : ℕ} {before mid mid' written_before written : Option (List ℕ)}
    {more r : List ℕ} (failed : Option RecordFault)
    → Progress now k before mid written_before written → ReadsRecord mid mid' more r → failed ≡ None
    → LeavesOff faults.NoMemory failed text_owed SaysNothing before mid' written_before written
leaves_off_refused failed p reads fresh =
    leaves_off_answering failed p reads
    (record { device = λ d. absurd cc; memory = λ m. refl; is_either = inr refl }) fresh

-- it stopped: what was written
pub stops_with_held : {e : RecordFault} {now next : World} {k : ℕ}
    {before mid mid' mid'' written_before written written' : Option (List ℕ)} {more r : List ℕ}
    → Progress now k before mid written_before written
    → ReadsRecord mid mid' more r → next ≡ world_after now (time_of k) r
    → StopsWithHeld e next (k + 1) (record_of (reply_owed now (time_of k) r)) mid' mid'' written written'
    → IfSome before (λ input. EndsWith e text_owed input written_before written')
stops_with_held p reads next (inl (device, (taken, wrote))) =
    unanswered p reads (record {
      device = λ d. wrote;
      memory = λ m. absurd (other device m);
      is_either =
          inl device;
    })
stops_with_held p reads next (inr (between, (wrote, stopped))) =
    stops_behind (pushes p reads next wrote) stopped

-- it stopped: what was taken
pub leaves_off_with_held : {e : RecordFault} {now next : World} {k : ℕ}
    {before mid mid' mid'' written_before written written' : Option (List ℕ)} {more r : List ℕ}
    (failed : Option RecordFault) → failed ≡ None
    → Progress now k before mid written_before written
    → ReadsRecord mid mid' more r → next ≡ world_after now (time_of k) r
    → StopsWithHeld e next (k + 1) (record_of (reply_owed now (time_of k) r)) mid' mid'' written written'
    → LeavesOff e failed text_owed SaysNothing before mid'' written_before written'
leaves_off_with_held failed fresh p reads next (inl (device, (taken, wrote))) =
    rw taken (leaves_off_answering failed p reads
    (record { device = λ d. wrote; memory = λ m. absurd (other device m); is_either = inl device }) fresh)
leaves_off_with_held failed fresh p reads next (inr (between, (wrote, stopped))) =
    leaves_off_after failed fresh (pushes p reads next wrote) stopped
