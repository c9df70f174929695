-- One record more over a link: its reading, what is owed to it, and the world after it; the gateway's loop
-- before its k-th turn (Turn), and what follows at each of its ends.
-- Serves: Gateway::serve_stream (gateway).
use Rattle.std.proofs.Common.{◌≡◌, ◌⊎◌, inl, inr, ℕ, ◌+◌, ◌≤◌, List, [], ◌∷◌, ◌++◌, arith, length, sym, ap}
use Rattle.std.proofs.Common.{◌∙◌, refl, length-append, append_assoc, subst}
use Rattle.std.specs.Prelude.{Option, Some, None, IfSome, Err}
use Rattle.std.specs.Io.KnownBytes.{Appends}
use Rattle.std.proofs.lemmas.List.{append-nil}
use Rattle.std.specs.List.{concat}
use Rattle.rpc.specs.Records.Count.{Rises}
use Rattle.rpc.specs.Records.Record.{IsRecord, IsUnfinished, PassesLimit}
use Rattle.rpc.specs.Records.Writing.{WritesFront}
use Rattle.rpc.specs.declared.records.record.TheConstants.{MAX_RECORD}
use Rattle.rpc.specs.declared.records.fault.RecordFault.{RecordFault}
use Rattle.rpc.specs.declared.records.fault.RecordFault.TheVariants as reader_faults
use Rattle.rpc.specs.Records.Reading.{FailsUnless, StopsAt, fault_after}
use Rattle.nfs_items.specs.Timeval.{Timeval}
use Rattle.server_spec.specs.World.{World}
use Rattle.server_spec.specs.Replies.{reply_owed, world_after}
use Rattle.server_spec.specs.Owed.{record_of, replies_owed, world_after_all}
use Rattle.gateway.specs.Links.Readings.{Readings, IsAfter}
use Rattle.gateway.specs.declared.links.fault.LinkFault.{LinkFault}
use Rattle.gateway.specs.declared.links.fault.LinkFault.TheVariants as links
use Rattle.gateway.specs.declared.fault.StreamFault.{StreamFault}
use Rattle.gateway.specs.declared.fault.StreamFault.TheVariants as faults
use Rattle.gateway.specs.Faults.{of_records, of_link}
use Rattle.stream_spec.specs.Streams.{Serves, ServesPart, StopsBeforeReply, StopsInReply, TakesNothing}
use Rattle.stream_spec.specs.InTurn.{with_times}
use Rattle.stream_spec.specs.Faults as stream_faults
use Rattle.gateway.proofs.ReadingsTaken.{with_next, none_taken, next_reading, takes_next}
use Rattle.gateway.specs.Serving.{text_owed, LinkStandsAfter, IfTold, LeavesOff, StandsAfter}
use Rattle.stream_spec.proofs.StreamProgress as streams
use Rattle.stream_spec.proofs.StreamProgress.{Progress, ReadsRecord, begins, pushes, stops_after}
use Rattle.stream_spec.proofs.StreamProgress.{stops_before_reply, stops_in_reply, is_part}
use Rattle.stream_spec.proofs.StreamProgress.{is_part_in_reply, serves}

-- ---- one record more: what is owed to it, and the world after it

replies_owed-push : (w : World) (cs : List (Timeval × List ℕ)) (time : Timeval) (r : List ℕ)
    → replies_owed w (cs ++ (time, r) ∷ [])
    ≡ replies_owed w cs ++ record_of (reply_owed (world_after_all w cs) time r)
replies_owed-push w [] time r = append-nil (record_of (reply_owed w time r))
replies_owed-push w (c ∷ cs) time r =
    ap (λ (t : List ℕ). record_of (reply_owed w c.0 c.1) ++ t)
    (replies_owed-push (world_after w c.0 c.1) cs time r)
    ∙ sym (append_assoc (record_of (reply_owed w c.0 c.1)) (replies_owed (world_after w c.0 c.1) cs)
    (record_of (reply_owed (world_after_all (world_after w c.0 c.1) cs) time r)))

world_after_all-push : (w : World) (cs : List (Timeval × List ℕ)) (time : Timeval) (r : List ℕ)
    → world_after_all w (cs ++ (time, r) ∷ []) ≡ world_after (world_after_all w cs) time r
world_after_all-push w [] time r = refl
world_after_all-push w (c ∷ cs) time r = world_after_all-push (world_after w c.0 c.1) cs time r

-- the world after some records
abbrev pub world_at : World → Readings → List (List ℕ) → World
world_at w f records = world_after_all w (with_times f 0 records)

-- the world after one record more
world_at-push : (w : World) (f : Readings) (rs : List (List ℕ)) (r : List ℕ)
    → world_at w f (rs ++ r ∷ []) ≡ world_after (world_at w f rs) (f (length rs)) r
world_at-push w f rs r =
    ap (world_after_all w) (with_next f rs r) ∙ world_after_all-push w (with_times f 0 rs) (f (length rs)) r

-- what is owed to one record more stands after what is owed to those before it
text_owed-push : (w : World) (f : Readings) (rs : List (List ℕ)) (r : List ℕ)
    → text_owed w f (rs ++ r ∷ [])
    ≡ text_owed w f rs ++ record_of (reply_owed (world_at w f rs) (f (length rs)) r)
text_owed-push w f rs r =
    ap (replies_owed w) (with_next f rs r) ∙ replies_owed-push w (with_times f 0 rs) (f (length rs)) r

-- a record that was read is within the bound of what a link is handed
pub record_fits : {text r : List ℕ} → IsRecord text r → length r ≤ MAX_RECORD
record_fits is =
    rw is.bytes_are (omega (arith, length-append (concat is.pieces) is.last, is.fits.length_fits))

-- ---- what link and clock tell

-- what is shown where both tell
pub told : (a : Option World) (b : Option Readings) {P : World → Readings → Type 0}
    → ((w : World) (f : Readings) → a ≡ Some w → b ≡ Some f → P w f) → IfTold a b P
told None b h = tt
told (Some w) None h = tt
told (Some w) (Some f) h = h w f refl refl

-- what follows where both tell
pub if_told : (a : Option World) (b : Option Readings) {P Q : World → Readings → Type 0} → IfTold a b P
    → ((w : World) (f : Readings) → P w f → Q w f) → IfTold a b Q
if_told None b p h = tt
if_told (Some w) None p h = tt
if_told (Some w) (Some f) p h = h w f p

-- what is told of a value that is known
of_some : {A : Type 0} (P : A → Type 0) {o : Option A} {x : A} → o ≡ Some x → IfSome o P → P x
of_some P e h = subst (λ (o : Option _). IfSome o P) e h

-- at first no reading is taken, and the world is the one that is told
stands_at_first : (w : World) (f : Readings) → LinkStandsAfter w f (Some w) (Some f) [] []
stands_at_first w f =
    record { readings_taken = none_taken f; world_is = λ e. refl }

module _ {w : World} {f : Readings} {world : Option World} {readings : Option Readings} {rs : List (List ℕ)}
    (s : LinkStandsAfter w f world readings rs []) where
  -- so many readings are taken as there are records
  taken_so_far : IsAfter (length rs) f readings
  taken_so_far =
      subst (λ (n : ℕ). IsAfter n f readings)
      (let e : length (rs ++ []) ≡ length rs = omega (arith, length-append rs []) in e) s.readings_taken

  -- the next reading
  next : (time : Timeval) → IfSome readings (λ g. time ≡ g 0) → time ≡ f (length rs)
  next time h = next_reading f (length rs) readings time taken_so_far h

  -- a reading more was taken
  takes_reading : (readings' : Option Readings) (r : List ℕ) → IfSome readings (λ g. IsAfter 1 g readings')
      → IsAfter (length (rs ++ r ∷ [])) f readings'
  takes_reading readings' r h =
      let e : length (rs ++ r ∷ []) ≡ length rs + 1 = omega (arith, length-append rs (r ∷ [])) in
      subst (λ (n : ℕ). IsAfter n f readings') (sym e)
      (takes_next f (length rs) readings readings' taken_so_far h)

  -- a record was read at a reading of the clock, and the link's answer moved the world
  pub stands_answered : (world' : Option World) (readings' : Option Readings) (time : Timeval) (r : List ℕ)
      → IfSome readings (λ g. time ≡ g 0) → IfSome readings (λ g. IsAfter 1 g readings')
      → IfSome world (λ v. world' ≡ Some (world_after v time r))
      → LinkStandsAfter w f world' readings' (rs ++ r ∷ []) []
  stands_answered world' readings' time r reading rest moves = record {
    readings_taken = let e : length ((rs ++ r ∷ []) ++ []) ≡ length (rs ++ r ∷ []) =
        omega (arith, length-append (rs ++ r ∷ []) []) in
        subst (λ (n : ℕ). IsAfter n f readings') (sym e) (takes_reading readings' r rest);
    world_is = λ e. of_some (λ v. world' ≡ Some (world_after v time r)) (s.world_is refl) moves
        ∙ ap (λ (t : Timeval). Some (world_after (world_at w f rs) t r)) (next time reading)
        ∙ ap Some (sym (world_at-push w f rs r));
  }

  -- a record was read at a reading of the clock, and the link gave no answer
  pub stands_unanswered : (world' : Option World) (readings' : Option Readings) (r : List ℕ)
      → IfSome readings (λ g. IsAfter 1 g readings') → LinkStandsAfter w f world' readings' rs (r ∷ [])
  stands_unanswered world' readings' r rest =
      record { readings_taken = takes_reading readings' r rest; world_is = λ e. absurd cc }

  -- what is owed to that record
  pub owes : (time : Timeval) (r : List ℕ) → IfSome readings (λ g. time ≡ g 0)
      → text_owed w f (rs ++ r ∷ []) ≡ text_owed w f rs ++ record_of (reply_owed (world_at w f rs) time r)
  owes time r h =
      text_owed-push w f rs r ∙ ap (λ (t : Timeval). text_owed w f rs
      ++ record_of (reply_owed (world_at w f rs) t r)) (sym (next time h))

  -- what is known of the world is known of the one after these records
  pub at_world : (P : World → Type 0) → IfSome world P → P (world_at w f rs)
  at_world P h = of_some P (s.world_is refl) h

-- ---- the loop

-- what was read, answered and written before the k-th turn, where link and clock tell
abbrev pub IsServed : (world world' : Option World) (readings readings' : Option Readings) (k : ℕ)
    (before mid written_before written : Option (List ℕ)) → Type 0
IsServed world world' readings readings' k before mid written_before written = IfTold world readings (λ w f.
    Progress (text_owed w f) (LinkStandsAfter w f world' readings') k before mid written_before written)

-- nothing was read, and nothing written
pub served_nothing : (world : Option World) (readings : Option Readings) (before written : Option (List ℕ))
    → IsServed world world readings readings 1 before before written written
served_nothing world readings before written = told world readings (λ w f a b.
    begins (text_owed w f) (LinkStandsAfter w f world readings) before written refl
    (rw (a, b) (stands_at_first w f)))

-- the loop before the k-th turn: no fault has come, nothing was counted, and the link may answer no fault
-- that it didn't at first
pub record Turn (may may_now : LinkFault → Type 0) (served asked : Type 0) (failed : Option RecordFault)
    (reads reads_now writes writes_now : ℕ) : Type 0 where
  -- what was read, answered and written
  pub is_served : served
  -- which exchanges were made
  pub has_asked : asked
  -- the reader has no fault
  pub fresh : failed ≡ None
  -- no read failed
  pub reads_same : reads_now ≡ reads
  -- no write failed
  pub writes_same : writes_now ≡ writes
  -- the link's faults
  pub may_still : (e : LinkFault) → may_now e → may e

-- one record more was read at a reading of the clock, and answered
pub serves_one : (world world₁ world' : Option World) (readings readings₁ readings' : Option Readings) (k : ℕ)
    (before mid mid' written_before written written' : Option (List ℕ)) (more r : List ℕ) (time : Timeval)
    → IsServed world world₁ readings readings₁ k before mid written_before written
    → ReadsRecord mid mid' more r
    → IfSome readings₁ (λ g. time ≡ g 0) → IfSome readings₁ (λ g. IsAfter 1 g readings')
    → IfSome world₁ (λ v. world' ≡ Some (world_after v time r))
    → IfSome world₁ (λ v. Appends written written' (record_of (reply_owed v time r)))
    → IsServed world world' readings readings' (k + 1) before mid' written_before written'
serves_one world world₁ world' readings readings₁ readings' k before mid mid' written_before written written'
    more r time served reads reading rest moves wrote =
    if_told world readings served (λ w f p.
    pushes p (LinkStandsAfter w f world' readings') written'
    (record_of (reply_owed (world_at w f p.records) time r)) reads
    (owes p.leaves time r reading)
    (at_world p.leaves (λ v. Appends written written' (record_of (reply_owed v time r))) wrote)
    (stands_answered p.leaves world' readings' time r reading rest moves))

-- ---- the end of the input

-- all records were answered
pub serves_all : (world world' : Option World) (readings readings' : Option Readings) (k : ℕ)
    (before mid written_before written : Option (List ℕ)) (count : ℕ)
    → IsServed world world' readings readings' k before mid written_before written → count + 1 ≡ k
    → IfSome mid (λ bytes. bytes ≡ [])
    → IfTold world readings (λ w f. IfSome before
    (λ input. Serves (text_owed w f)
    (LinkStandsAfter w f world' readings') count input written_before written))
serves_all world world' readings readings' k before mid written_before written count served counted end =
    if_told world readings served (λ w f p. serves p count counted end)

-- ---- a record that can't be read

module _ (world world' : Option World) (readings readings' : Option Readings) (k : ℕ)
    (before mid written_before written : Option (List ℕ))
    (served : IsServed world world' readings readings' k before mid written_before written) where
  -- what is owed so far stands written
  pub part_so_far : IfTold world readings
      (λ w f. IfSome before (λ input. ServesPart (text_owed w f) input written_before written))
  part_so_far = if_told world readings served (λ w f p. is_part p)

  -- memory was refused, and nothing more was taken
  pub leaves_off_at_once : (failed : Option RecordFault) → IfTold world readings (λ w f.
      LeavesOff faults.NoMemory failed (text_owed w f)
      (LinkStandsAfter w f world' readings') before mid written_before written)
  leaves_off_at_once failed = if_told world readings served (λ w f p. inl (stops_after p TakesNothing refl))

  -- no record could be read
  pub leaves_off_reading : (e : RecordFault) (failed : Option RecordFault) (mid' : Option (List ℕ)) (m n : ℕ)
      → failed ≡ fault_after {A = Unit {0}} None (Err e) → ((e ≡ reader_faults.NoMemory) → mid' ≡ mid)
      → StopsAt e mid mid' → FailsUnless e PassesLimit IsUnfinished mid m n → IfTold world readings (λ w f.
      LeavesOff (of_records e) failed (text_owed w f)
      (LinkStandsAfter w f world' readings') before mid' written_before written)
  leaves_off_reading e failed mid' m n fails same stops why =
      by e (if_told world readings served
      (λ w f p. streams.leaves_off_reading p e failed mid' m n fails same stops why))
    where
      by : (e : RecordFault) → IfTold world readings
          (λ w f. stream_faults.LeavesOff e failed (text_owed w f)
          (LinkStandsAfter w f world' readings') before mid' written_before written)
          → IfTold world readings (λ w f. LeavesOff (of_records e) failed (text_owed w f)
          (LinkStandsAfter w f world' readings') before mid' written_before written)
      by reader_faults.NoMemory h = h
      by reader_faults.RecordTooLong h = h
      by reader_faults.Device h = h
      by reader_faults.EndInRecord h = h

-- what stands then
pub stands_reading : (e : RecordFault) (failed : Option RecordFault) (mid : Option (List ℕ))
    (reads reads' writes writes' : ℕ) → failed ≡ fault_after {A = Unit {0}} None (Err e)
    → ((e ≡ reader_faults.NoMemory) → reads' ≡ reads)
    → FailsUnless e PassesLimit IsUnfinished mid reads reads' → writes' ≡ writes
    → StandsAfter (of_records e) failed reads reads' writes writes'
stands_reading e failed mid reads reads' writes writes' fails same why kept =
    by e (streams.stands_reading e failed mid reads reads' writes writes' fails same why kept)
  where
    by : (e : RecordFault) → stream_faults.StandsAfter e failed reads reads' writes writes'
        → StandsAfter (of_records e) failed reads reads' writes writes'
    by reader_faults.NoMemory h = h
    by reader_faults.RecordTooLong h = h
    by reader_faults.Device h = h
    by reader_faults.EndInRecord h = h

-- ---- a record that gets no answer, or not the whole of it

-- the link gave a fault, and nothing was written
abbrev pub LinkFails : StreamFault → (written written' : Option (List ℕ)) → Type 0
LinkFails e written written' = (f : LinkFault) × (e ≡ of_link f) × (written' ≡ written)

-- the device took a beginning of the reply
abbrev pub DeviceFails : (e : StreamFault) (world₁ world' : Option World) (time : Timeval) (r : List ℕ)
    (written written' : Option (List ℕ)) → Type 0
DeviceFails e world₁ world' time r written written' =
    (e ≡ faults.Device) × IfSome world₁ (λ v. WritesFront written written' (record_of (reply_owed v time r))
    × (world' ≡ Some (world_after v time r)))

-- one of the two, by what a step says
pub fails_by : (e : StreamFault) (world₁ world' : Option World) (time : Timeval) (r : List ℕ)
    (written written' : Option (List ℕ)) {Same Counted : Type 0} {May Then Fails : LinkFault → Type 0}
    → (Same → written' ≡ written)
    → (e ≡ faults.Device) ⊎ ((f : LinkFault) × (e ≡ of_link f) × Same × May f × Then f × Fails f)
    → ((e ≡ faults.Device) → Counted × IfSome world₁
    (λ v. WritesFront written written' (record_of (reply_owed v time r))
    × (world' ≡ Some (world_after v time r))))
    → DeviceFails e world₁ world' time r written written' ⊎ LinkFails e written written'
fails_by e world₁ world' time r written written' same (inl d) device = inl (d, (device d).1)
fails_by e world₁ world' time r written written' same (inr (f, e', s, may, then, fails)) device =
    inr (f, e', same s)

module _ (world world₁ world' : Option World) (readings readings₁ readings' : Option Readings) (k : ℕ)
    (before mid mid' written_before written written' : Option (List ℕ)) (more r : List ℕ) (time : Timeval)
    (served : IsServed world world₁ readings readings₁ k before mid written_before written)
    (reads : ReadsRecord mid mid' more r)
    (reading : IfSome readings₁ (λ g. time ≡ g 0))
    (rest : IfSome readings₁ (λ g. IsAfter 1 g readings')) where
  -- a beginning of what is owed stands written
  pub part_answering : (e : StreamFault)
      → DeviceFails e world₁ world' time r written written' ⊎ LinkFails e written written'
      → IfTold world readings (λ w f. IfSome before
      (λ input. ServesPart (text_owed w f) input written_before written'))
  part_answering e (inl d) = if_told world readings served (λ w f p.
      is_part_in_reply p written' (record_of (reply_owed (world_at w f p.records) time r)) reads
      (owes p.leaves time r reading)
      (at_world p.leaves (λ v. WritesFront written written' (record_of (reply_owed v time r))
      × (world' ≡ Some (world_after v time r))) d.1).0)
  part_answering e (inr l) = rw l.2 (if_told world readings served (λ w f p. is_part p))

  -- no answer
  stops_unanswered : written' ≡ written
      → IfTold world readings (λ w f. StopsBeforeReply (text_owed w f)
      (LinkStandsAfter w f world' readings') before mid' written_before written')
  stops_unanswered e = rw e (if_told world readings served (λ w f p.
      stops_before_reply p (LinkStandsAfter w f world' readings') reads
      (stands_unanswered p.leaves world' readings' r rest)))

  -- a beginning of the answer
  stops_answering : IfSome world₁
      (λ v. WritesFront written written' (record_of (reply_owed v time r))
      × (world' ≡ Some (world_after v time r)))
      → IfTold world readings (λ w f. StopsInReply (text_owed w f)
      (LinkStandsAfter w f world' readings') before mid' written_before written')
  stops_answering d = if_told world readings served (λ w f p.
      let known = at_world p.leaves
      (λ v. WritesFront written written' (record_of (reply_owed v time r))
      × (world' ≡ Some (world_after v time r))) d in
      stops_in_reply p (LinkStandsAfter w f world' readings') written'
      (record_of (reply_owed (world_at w f p.records) time r)) reads
      (owes p.leaves time r reading) known.0
      (stands_answered p.leaves world' readings' time r reading rest (moved world₁ d)))
    where
      moved : (o : Option World)
          → IfSome o (λ v. WritesFront written written' (record_of (reply_owed v time r))
          × (world' ≡ Some (world_after v time r))) → IfSome o (λ v. world' ≡ Some (world_after v time r))
      moved None d = tt
      moved (Some v) d = d.1

  -- what was taken and written
  pub leaves_off_answering : (e : StreamFault) (failed : Option RecordFault) → failed ≡ None
      → DeviceFails e world₁ world' time r written written' ⊎ LinkFails e written written'
      → IfTold world readings (λ w f. LeavesOff e failed (text_owed w f)
      (LinkStandsAfter w f world' readings') before mid' written_before written')
  leaves_off_answering e failed fresh (inl d) = rw (d.0, fresh) (stops_answering d.1)
  leaves_off_answering e failed fresh (inr (f, e', same)) = rw e' (by f)
    where
      by : (f : LinkFault) → IfTold world readings
          (λ w f'. LeavesOff (of_link f) failed (text_owed w f')
          (LinkStandsAfter w f' world' readings') before mid' written_before written')
      by links.KeysUsedUp = stops_unanswered same
      by links.NoMemory = if_told world readings (stops_unanswered same) (λ w f s. inr s)
      by links.Failed = stops_unanswered same

-- what stands then
pub stands_answering : (e : StreamFault) (failed : Option RecordFault) (reads reads' writes writes' : ℕ)
    → failed ≡ None → reads' ≡ reads
    → ((e ≡ faults.Device) × Rises writes writes') ⊎ ((f : LinkFault) × (e ≡ of_link f) × (writes' ≡ writes))
    → StandsAfter e failed reads reads' writes writes'
stands_answering e failed reads reads' writes writes' fresh same (inl d) = rw d.0 (inr (fresh, same, d.1))
stands_answering e failed reads reads' writes writes' fresh same (inr (f, e', kept)) = rw e' (by f)
  where
    by : (f : LinkFault) → StandsAfter (of_link f) failed reads reads' writes writes'
    by links.KeysUsedUp = (fresh, same, kept)
    by links.NoMemory = (fresh, same, kept)
    by links.Failed = (fresh, same, kept)

-- where nothing was done, nothing of what is owed stands written
pub part_of_nothing : (world : Option World) (readings : Option Readings) (before written : Option (List ℕ))
    → IfTold world readings (λ w f. IfSome before (λ input. ServesPart (text_owed w f) input written written))
part_of_nothing world readings before written =
    part_so_far world world readings readings 1 before before written written
    (served_nothing world readings before written)
