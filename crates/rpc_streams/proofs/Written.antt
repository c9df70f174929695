-- What it says of a batch's records that its replies were written, all of them or a beginning.
-- Serves: serve_at_hand.
use Rattle.std.proofs.Common.{◌≡◌, ℕ, ◌+◌, ◌-◌, ◌<◌, ◌≤◌, List, [], ◌∷◌, ◌++◌, arith, length, take, drop, sym}
use Rattle.std.proofs.Common.{ap, ◌∙◌, refl, subst, length-append, append_assoc, take_at, drop_at}
use Rattle.std.proofs.Common.{take-append-drop, length-drop, take_all, Bool, true, false}
use Rattle.std.specs.Prelude.{Option, Some, None, nat_lt}
use Rattle.std.specs.List.{AllByRecursion}
use Rattle.std.specs.Io.KnownBytes.{Consumes, Appends}
use Rattle.std.proofs.lemmas.Bool.{ltb-true, ltb-false, le-ltb}
use Rattle.std.proofs.lemmas.List.Concat.{flat_map-cons, flat_map-append}
use lib.Seq.{take-add, take-append-le}
use Rattle.rpc.specs.Records.Record.{fragment}
use Rattle.rpc.specs.Records.Writing.{WritesFront}
use Rattle.rpc.specs.declared.records.fault.RecordFault.TheVariants as faults
use Rattle.rpc.specs.declared.records.record.TheConstants.{MAX_RECORD}
use Rattle.server_spec.specs.World.{World}
use Rattle.server_spec.specs.Replies.{reply_owed, world_after}
use Rattle.server_spec.specs.Owed.{record_of}
use Rattle.rpc_streams.specs.RunRpc.{time_of}
use Rattle.rpc_streams.specs.Batches.{owed_from, world_from, whole_text, ends_from, taken_by, IsBatch}
use Rattle.rpc_streams.specs.Batches.{AfterHeld, AnswersRecords, AnswersAndStops}
use Rattle.rpc_streams.specs.declared.batch.End.{End}
use Rattle.rpc_streams.proofs.InTurn.{owed_from-append, owed_from-push}
use Rattle.rpc_streams.proofs.Filled.{one_fragment, are_records, whole_text-push, counted}

-- ---- what is taken of a stream or written to one in two steps

in_two_takes : (left left' : Option (List ℕ)) (x y : List ℕ) → Consumes left left' (x ++ y)
    → (mid : Option (List ℕ)) × Consumes left mid x × Consumes mid left' y
in_two_takes None left' x y taken = (None, tt, tt)
in_two_takes (Some xs) None x y taken = absurd taken
in_two_takes (Some xs) (Some ys) x y taken = (Some (y ++ ys), taken ∙ append_assoc x y ys, refl)

in_two_writes : (before after : Option (List ℕ)) (x y : List ℕ) → Appends before after (x ++ y)
    → (mid : Option (List ℕ)) × Appends before mid x × Appends mid after y
in_two_writes None after x y wrote = (None, tt, tt)
in_two_writes (Some xs) None x y wrote = absurd wrote
in_two_writes (Some xs) (Some ys) x y wrote = (Some (xs ++ x), refl, wrote ∙ sym (append_assoc xs x y))

-- ---- up to which record

text_more : (r : List ℕ) (rs : List (List ℕ))
    → length (whole_text (r ∷ rs)) ≡ length (fragment true r) + length (whole_text rs)
text_more r rs =
    ap length (flat_map-cons (fragment true) r rs) ∙ length-append (fragment true r) (whole_text rs)

-- never after the last
within_all : (w : World) (k a h : ℕ) (rs : List (List ℕ)) (n : ℕ)
    → taken_by n a (ends_from w k a h rs) ≤ a + length (whole_text rs)
within_all w k a h [] n = omega arith
within_all w k a h (r ∷ rs) n =
    by (nat_lt n (h + length reply)) refl
    (within_all (world_after w (time_of k) r) (k + 1) (a + length (fragment true r)) (h + length reply) rs n)
  where
    reply : List ℕ
    reply = record_of (reply_owed w (time_of k) r)

    by : (b : Bool) → nat_lt n (h + length reply) ≡ b
        → taken_by n (a + length (fragment true r))
        (ends_from (world_after w (time_of k) r) (k + 1) (a + length (fragment true r)) (h + length reply) rs)
        ≤ (a + length (fragment true r)) + length (whole_text rs)
        → taken_by n a (ends_from w k a h (r ∷ rs)) ≤ a + length (whole_text (r ∷ rs))
    by true e ih = rw e (omega (arith, text_more r rs))
    by false e ih = rw e (omega (arith, text_more r rs, ih))

-- the records whose replies were written end within the bytes
pub within : {w w' : World} {k : ℕ} {held bytes replies : List ℕ} {ends : List End} (n : ℕ)
    → IsBatch w k w' held bytes replies ends → taken_by n 0 ends ≤ length bytes
within {w = w} {k = k} {held = held} n b =
    let few : taken_by n 0 (ends_from w k 0 (length held) b.records) ≤ 0 + length (whole_text b.records) =
    within_all w k 0 (length held) b.records n in
    rw b.ends_are (omega (arith, few, ap length b.bytes_are, length-append (whole_text b.records) b.more))

-- all, where all replies were written
taken_all : (w : World) (k a h : ℕ) (rs : List (List ℕ)) (n : ℕ) → h + length (owed_from w k rs) ≤ n
    → taken_by n a (ends_from w k a h rs) ≡ a + length (whole_text rs)
taken_all w k a h [] n most = omega arith
taken_all w k a h (r ∷ rs) n most =
    let reply : List ℕ = record_of (reply_owed w (time_of k) r) in
    let next : World = world_after w (time_of k) r in
    let owed : length (owed_from w k (r ∷ rs)) ≡ length reply + length (owed_from next (k + 1) rs) =
    length-append reply (owed_from next (k + 1) rs) in
    let past : nat_lt n (h + length reply) ≡ false =
    le-ltb n (h + length reply) (omega (arith, most, owed)) in
    let ih = taken_all next (k + 1) (a + length (fragment true r)) (h + length reply) rs n
    (omega (arith, most, owed)) in
    rw past (omega (arith, ih, text_more r rs))

-- up to the one in whose reply the next byte stands
record Split (w : World) (k a h n : ℕ) (rs : List (List ℕ)) : Type 0 where
  answered : List (List ℕ)
  last : List ℕ
  others : List (List ℕ)
  records_are : rs ≡ answered ++ last ∷ others
  taken_is : taken_by n a (ends_from w k a h rs) ≡ a + length (whole_text (answered ++ last ∷ []))
  from : h + length (owed_from w k answered) ≤ n
  to : n < h + length (owed_from w k (answered ++ last ∷ []))

split_at : (w : World) (k a h n : ℕ) (rs : List (List ℕ)) → h ≤ n → n < h + length (owed_from w k rs)
    → Split w k a h n rs
split_at w k a h n [] from to = absurd (omega (arith, from, to))
split_at w k a h n (r ∷ rs) from to =
    by (nat_lt n (h + length reply)) refl
    (λ past. split_at next (k + 1) (a + length (fragment true r)) (h + length reply) n rs past
    (omega (arith, to, owed rs)))
  where
    reply : List ℕ
    reply = record_of (reply_owed w (time_of k) r)

    next : World
    next = world_after w (time_of k) r

    owed : (ss : List (List ℕ))
        → length (owed_from w k (r ∷ ss)) ≡ length reply + length (owed_from next (k + 1) ss)
    owed ss = length-append reply (owed_from next (k + 1) ss)

    by : (b : Bool) → nat_lt n (h + length reply) ≡ b
        → (h + length reply ≤ n → Split next (k + 1) (a + length (fragment true r)) (h + length reply) n rs)
        → Split w k a h n (r ∷ rs)
    by true e ih = record {
      answered = [];
      last = r;
      others = rs;
      records_are = refl;
      taken_is = rw e (omega (arith, text_more r []));
      from = omega (arith, from);
      to = omega (arith, ltb-true n (h + length reply) e, owed []);
    }
    by false e ih =
        let s = ih (ltb-false n (h + length reply) e) in
        record {
          answered = r ∷ s.answered;
          last = s.last;
          others = s.others;
          records_are = ap (λ (ts : List (List ℕ)). r ∷ ts) s.records_are;
          taken_is = rw e (omega (arith, s.taken_is, text_more r (s.answered ++ s.last ∷ [])));
          from = omega (arith, s.from, owed s.answered);
          to = omega (arith, s.to, owed (s.answered ++ s.last ∷ []));
        }

-- ---- what was done

-- all replies were written
pub whole_batch : {w w' : World} {k : ℕ} {held bytes replies : List ℕ} {ends : List End}
    (left left' before after : Option (List ℕ)) (n : ℕ)
    → IsBatch w k w' held bytes replies ends → length replies ≤ n
    → Consumes left left' (take (taken_by n 0 ends) bytes) → Appends before after (take n replies)
    → AfterHeld held before (λ written. AnswersRecords w k w' (length ends) left left' written after)
whole_batch {w = w} {w' = w'} {k = k} {held = held} {bytes = bytes} {replies = replies} {ends =
    ends} left left' before after n b all taken wrote =
    let text : List ℕ = whole_text b.records in
    let h : ℕ = length held in
    let owed : length replies ≡ h + length (owed_from w k b.records) =
    ap length b.replies_are ∙ length-append held (owed_from w k b.records) in
    let size : taken_by n 0 (ends_from w k 0 h b.records) ≡ 0 + length text =
    taken_all w k 0 h b.records n (omega (arith, owed, all)) in
    let size' : length text ≡ taken_by n 0 (ends_from w k 0 h b.records) = omega (arith, size) in
    let front : take (taken_by n 0 (ends_from w k 0 h b.records)) bytes ≡ text =
    ap (take (taken_by n 0 (ends_from w k 0 h b.records))) b.bytes_are ∙ take_at text b.more _ size' in
    let writes = in_two_writes before after held (owed_from w k b.records)
    (subst (Appends before after) (take_all n replies all ∙ b.replies_are) wrote) in
    let answered : AnswersRecords w k w' (length ends) left left' writes.0 after =
    record {
      records = b.records;
      text = text;
      are_records = are_records b.records b.fit;
      count_is = sym (counted b);
      taken = subst (Consumes left left') front (rw b.ends_are at taken);
      world_is = b.world_is;
      written = writes.2;
    } in (writes.0, (writes.1, answered))

all_parts : (P : List ℕ → Type 0) (rs : List (List ℕ)) (r : List ℕ) (ss : List (List ℕ))
    → AllByRecursion P (rs ++ r ∷ ss) → AllByRecursion P rs × P r
all_parts P [] r ss all = (tt, all.0)
all_parts P (s ∷ rs) r ss all = ((all.0, (all_parts P rs r ss all.1).0), (all_parts P rs r ss all.1).1)

-- a text of two parts, up to within the second
front_of : (n m : ℕ) (whole first second others : List ℕ) → whole ≡ first ++ (second ++ others)
    → n ≡ length first + m → m ≤ length second → take n whole ≡ first ++ take m second
front_of n m whole first second others e sum few =
    rw (sum, e) (take-add (length first) m (first ++ (second ++ others))
    ∙ rw (
      take_at first (second ++ others) (length first) refl,
      drop_at first (second ++ others) (length first) refl,
    )
    (ap (λ (t : List ℕ). first ++ t) (take-append-le m second others few)))

-- what was held, and then two parts
after_held : (held first second whole rest : List ℕ) → whole ≡ held ++ rest → rest ≡ first ++ second
    → whole ≡ (held ++ first) ++ second
after_held held first second whole rest e f = e ∙ rw f (sym (append_assoc held first second))

-- a beginning of them, but not all
pub part_of_batch : {w w' : World} {k : ℕ} {held bytes replies : List ℕ} {ends : List End}
    (left left' before after : Option (List ℕ)) (n : ℕ)
    → IsBatch w k w' held bytes replies ends → length held ≤ n → n < length replies
    → Consumes left left' (take (taken_by n 0 ends) bytes) → Appends before after (take n replies)
    → AfterHeld held before (λ written. AnswersAndStops faults.Device w k left left' written after)
part_of_batch {w = w} {k = k} {held = held} {bytes = bytes} {replies =
    replies} left left' before after n b past some taken wrote =
    let h : ℕ = length held in
    let all_owed : length replies ≡ h + length (owed_from w k b.records) =
    ap length b.replies_are ∙ length-append held (owed_from w k b.records) in
    let s : Split w k 0 h n b.records =
    split_at w k 0 h n b.records past (omega (arith, some, all_owed)) in
    let first : List ℕ = whole_text s.answered in
    let text : List ℕ = fragment true s.last in
    let now : World = world_from w k s.answered in
    let reply : List ℕ = record_of (reply_owed now (time_of (k + length s.answered)) s.last) in
    let owed : List ℕ = owed_from w k s.answered in
    let m : ℕ = n - (h + length owed) in
    let few : m < length reply =
    omega (
      arith,
      s.from,
      s.to,
      ap length (owed_from-push w k s.answered s.last),
      length-append owed reply,
    ) in
    let others : List ℕ = owed_from (world_after now (time_of (k + length s.answered)) s.last)
    ((k + length s.answered) + 1) s.others in
    let cut : bytes ≡ (first ++ text) ++ (whole_text s.others ++ b.more) =
    b.bytes_are ∙ ap (λ (rs : List (List ℕ)). whole_text rs ++ b.more) s.records_are
    ∙ ap (λ (t : List ℕ). t ++ b.more)
    (flat_map-append (fragment true) s.answered (s.last ∷ s.others)
    ∙ ap (λ (t : List ℕ). first ++ t) (flat_map-cons (fragment true) s.last s.others)
    ∙ sym (append_assoc first text (whole_text s.others)))
    ∙ append_assoc (first ++ text) (whole_text s.others) b.more in
    let size : length (first ++ text) ≡ taken_by n 0 (ends_from w k 0 h b.records) =
    omega (arith, s.taken_is, ap length (whole_text-push s.answered s.last)) in
    let front : take (taken_by n 0 (ends_from w k 0 h b.records)) bytes ≡ first ++ text =
    ap (take (taken_by n 0 (ends_from w k 0 h b.records))) cut ∙ take_at (first ++ text) _ _ size in
    let owed_are : owed_from w k b.records ≡ owed ++ (reply ++ others) =
    ap (owed_from w k) s.records_are ∙ owed_from-append w k s.answered (s.last ∷ s.others) in
    let replies_are : replies ≡ (held ++ owed) ++ (reply ++ others) =
    after_held held owed (reply ++ others) replies (owed_from w k b.records) b.replies_are owed_are in
    let sum : n ≡ length (held ++ owed) + m = omega (arith, s.from, length-append held owed) in
    let front' : take n replies ≡ held ++ (owed ++ take m reply) =
    front_of n m replies (held ++ owed) reply others replies_are sum (omega (arith, few))
    ∙ append_assoc held owed (take m reply) in
    let takes = in_two_takes left left' first text
    (subst (Consumes left left') front (rw b.ends_are at taken)) in
    let held_writes = in_two_writes before after held (owed ++ take m reply)
    (subst (Appends before after) front' wrote) in
    let writes = in_two_writes held_writes.0 after owed (take m reply) held_writes.2 in
    let fit = all_parts (λ r. length r ≤ MAX_RECORD) s.answered s.last s.others
    (subst (AllByRecursion (λ r. length r ≤ MAX_RECORD)) s.records_are b.fit) in
    let stopped : AnswersAndStops faults.Device w k left left' held_writes.0 after =
    record {
      now = now;
      count = length s.answered;
      between = takes.0;
      written = writes.0;
      answers = record {
        records = s.answered;
        text = first;
        are_records = are_records s.answered fit.0;
        count_is = refl;
        taken = takes.1;
        world_is = refl;
        written = writes.1;
      };
      stops = (
        text,
        s.last,
        one_fragment s.last fit.1,
        takes.2,
        (
          take m reply,
          drop m reply,
          sym (take-append-drop m reply),
          omega (arith, length-drop m reply, few),
          writes.2,
        ),
      );
    } in (held_writes.0, (held_writes.1, stopped))

-- a beginning of what was held, but not all
pub part_of_held : {w w' : World} {k : ℕ} {held bytes replies : List ℕ} {ends : List End}
    (before after : Option (List ℕ)) (n : ℕ)
    → IsBatch w k w' held bytes replies ends → n < length held → Appends before after (take n replies)
    → WritesFront before after held
part_of_held {w = w} {k = k} {held = held} {replies = replies} before after n b some wrote =
    let front : take n replies ≡ take n held =
    ap (take n) b.replies_are
    ∙ take-append-le n held (owed_from w k b.records) (omega (arith, some)) in (
      take n held,
      drop n held,
      sym (take-append-drop n held),
      omega (arith, length-drop n held, some),
      subst (Appends before after) front wrote,
    )

-- memory was refused after them
pub refused_after : {w w' : World} {k count : ℕ} {left left' after : Option (List ℕ)}
    (held : List ℕ) (before : Option (List ℕ))
    → AfterHeld held before (λ written. AnswersRecords w k w' count left left' written after)
    → AfterHeld held before (λ written. AnswersAndStops faults.NoMemory w k left left' written after)
refused_after {w = w} {w' = w'} {k = k} {count = count} {left = left} {left' = left'} {after =
    after} held before (written, (wrote, a)) =
    let stopped : AnswersAndStops faults.NoMemory w k left left' written after =
    record { now = w'; count = count; between = left'; written = after; answers = a; stops = (refl, refl) } in
    (written, (wrote, stopped))
