-- A batch, as `fill` makes it record by record (Filled: `nothing`, `one_more`).
-- Serves: `Batch::fill`; serve_at_hand by way of Written.
use Rattle.std.proofs.Common.{◌≡◌, ℕ, ◌+◌, ◌-◌, ◌≤◌, List, [], ◌∷◌, ◌++◌, arith, length, take, drop, sym, ap}
use Rattle.std.proofs.Common.{◌∙◌, refl, length-append, append_assoc, drop_at, length-drop, take_all, true}
use Rattle.std.specs.List.{AllByRecursion}
use Rattle.std.proofs.lemmas.List.{append-nil}
use Rattle.std.proofs.lemmas.List.Concat.{flat_map-cons, flat_map-append}
use Rattle.rpc.specs.Records.Record.{fragment, mark, IsRecord}
use Rattle.rpc.specs.Records.Ahead.{IsInFront}
use Rattle.rpc.specs.Records.Stream.{AreRecords}
use Rattle.rpc.specs.declared.records.record.TheConstants.{MAX_RECORD}
use Rattle.rpc.proofs.OfRecords.Marks.{length-mark}
use Rattle.server_spec.specs.World.{World}
use Rattle.server_spec.specs.Replies.{reply_owed, world_after}
use Rattle.server_spec.specs.Owed.{record_of}
use Rattle.rpc_streams.specs.RunRpc.{time_of}
use Rattle.rpc_streams.specs.Batches.{owed_from, world_from, whole_text, ends_from, IsBatch}
use Rattle.rpc_streams.specs.declared.batch.End.{End}
use Rattle.rpc_streams.proofs.InTurn.{owed_from-push, world_from-push}

-- ---- records of one fragment each

-- a fragment is its bytes after four
pub length-fragment : (r : List ℕ) → length (fragment true r) ≡ 4 + length r
length-fragment r = omega (arith, length-append (mark true (length r)) r, length-mark true (length r))

-- the text with one record more
pub whole_text-push : (rs : List (List ℕ)) (r : List ℕ)
    → whole_text (rs ++ r ∷ []) ≡ whole_text rs ++ fragment true r
whole_text-push rs r =
    flat_map-append (fragment true) rs (r ∷ [])
    ∙ ap (λ (t : List ℕ). whole_text rs ++ t)
    (flat_map-cons (fragment true) r [] ∙ append-nil (fragment true r))

-- one fragment within the limit is a record
pub one_fragment : (r : List ℕ) → length r ≤ MAX_RECORD → IsRecord (fragment true r) r
one_fragment r fits = record {
  pieces = [];
  last = r;
  text_is = refl;
  bytes_are = refl;
  fits = record { length_fits = omega (arith, fits); count_fits = omega arith };
}

-- records of which none is too long are read back from their text
pub are_records : (rs : List (List ℕ)) → AllByRecursion (λ r. length r ≤ MAX_RECORD) rs
    → AreRecords (whole_text rs) rs
are_records [] fit = refl
are_records (r ∷ rs) fit = (
  fragment true r,
  whole_text rs,
  one_fragment r fit.0,
  are_records rs fit.1,
  flat_map-cons (fragment true) r rs,
)

all-push : (P : List ℕ → Type 0) (rs : List (List ℕ)) (r : List ℕ) → AllByRecursion P rs → P r
    → AllByRecursion P (rs ++ r ∷ [])
all-push P [] r all p = (p, tt)
all-push P (s ∷ rs) r all p = (all.0, all-push P rs r all.1 p)

-- ---- the ends

ends_from-push : (w : World) (k a h : ℕ) (rs : List (List ℕ)) (r : List ℕ) (taken owed : ℕ)
    → taken ≡ a + (length (whole_text rs) + length (fragment true r))
    → owed ≡ h + (length (owed_from w k rs) + length
    (record_of (reply_owed (world_from w k rs) (time_of (k + length rs)) r)))
    → ends_from w k a h (rs ++ r ∷ []) ≡ ends_from w k a h rs ++ record { taken = taken; owed = owed } ∷ []
ends_from-push w k a h [] r taken owed e f =
    let same : k + 0 ≡ k = omega arith in
    let e' : taken ≡ a + length (fragment true r) = omega (arith, e) in
    let f' : owed ≡ h + (0 + length (record_of (reply_owed w (time_of k) r))) = rw same at f in
    let f'' : owed ≡ h + length (record_of (reply_owed w (time_of k) r)) = omega (arith, f') in
    rw (e', f'') refl
ends_from-push w k a h (s ∷ rs) r taken owed e f =
    let reply : List ℕ = record_of (reply_owed w (time_of k) s) in
    let next : World = world_after w (time_of k) s in
    let number : k + length (s ∷ rs) ≡ (k + 1) + length rs = omega arith in
    let texts : length (whole_text (s ∷ rs)) ≡ length (fragment true s) + length (whole_text rs) =
    ap length (flat_map-cons (fragment true) s rs) ∙ length-append (fragment true s) (whole_text rs) in
    let replies : length (owed_from w k (s ∷ rs)) ≡ length reply + length (owed_from next (k + 1) rs) =
    length-append reply (owed_from next (k + 1) rs) in
    let f' = rw number at f in
    ap (λ (es : List End). record { taken = a + length (fragment true s); owed = h + length reply } ∷ es)
    (ends_from-push next (k + 1) (a + length (fragment true s)) (h + length reply) rs r taken owed
    (omega (arith, e, texts)) (omega (arith, f', replies)))

-- there is one end for each record
pub length-ends_from : (w : World) (k a h : ℕ) (rs : List (List ℕ))
    → length (ends_from w k a h rs) ≡ length rs
length-ends_from w k a h [] = refl
length-ends_from w k a h (r ∷ rs) =
    let ih = length-ends_from (world_after w (time_of k) r) (k + 1) (a + length (fragment true r))
    (h + length (record_of (reply_owed w (time_of k) r))) rs in
    omega (arith, ih)

-- ---- a batch that is filled

-- the records so far end after so many bytes
pub record Filled (w : World) (k : ℕ) (w' : World) (held bytes replies : List ℕ) (ends : List End)
    (taken : ℕ) : Type 0 where
  -- the records so far, with their replies and ends, are a batch
  pub batch : IsBatch w k w' held bytes replies ends
  -- so many bytes are their text
  pub taken_is : taken ≡ length (whole_text batch.records)

-- there is an end for each
pub counted : {w : World} {k : ℕ} {w' : World} {held bytes replies : List ℕ} {ends : List End}
    (b : IsBatch w k w' held bytes replies ends) → length ends ≡ length b.records
counted {w = w} {k = k} {held = held} b =
    ap length b.ends_are ∙ length-ends_from w k 0 (length held) b.records

-- before the first record a batch is filled by none
pub nothing : (w : World) (k : ℕ) (bytes replies : List ℕ) (ends : List End) → ends ≡ []
    → Filled w k w replies bytes replies ends 0
nothing w k bytes replies ends f = record {
  batch = record {
    records = [];
    more = bytes;
    fit = tt;
    bytes_are = refl;
    world_is = refl;
    replies_are = sym (append-nil replies);
    ends_are = f;
  };
  taken_is = refl;
}

-- one more record in front of the rest, with its reply and its end, fills a batch further
pub one_more : {w w' w'' : World} {k taken : ℕ} {held bytes replies replies' : List ℕ} {ends : List End}
    (r : List ℕ) (taken' owed : ℕ)
    → Filled w k w' held bytes replies ends taken → IsInFront r (drop taken bytes)
    → w'' ≡ world_after w' (time_of (k + length ends)) r
    → replies' ≡ replies ++ record_of (reply_owed w' (time_of (k + length ends)) r)
    → taken' ≡ taken + (4 + length r) → owed ≡ length replies'
    → Filled w k w'' held bytes replies' (ends ++ record { taken = taken'; owed = owed } ∷ []) taken'
one_more {w = w} {w' = w'} {k = k} {taken = taken} {held = held} {bytes = bytes} {replies =
    replies} {replies' = replies'} r taken' owed f front next grown e size =
    let b = f.batch in
    let text : List ℕ = whole_text b.records in
    let more_is : b.more ≡ fragment true r ++ front.1 =
    sym (ap (drop taken) b.bytes_are ∙ drop_at text b.more taken (sym f.taken_is)) ∙ front.2 in
    let n = counted b in
    let owed_now : List ℕ = record_of (reply_owed (world_from w k b.records)
    (time_of (k + length b.records)) r) in
    let next' : _ ≡ world_after (world_from w k b.records) (time_of (k + length b.records)) r =
    rw (n, b.world_is) at next in
    let grown' : replies' ≡ replies ++ owed_now = rw (n, b.world_is) at grown in
    let owed_before : List ℕ = owed_from w k b.records in
    let replies_now : replies' ≡ held ++ (owed_before ++ owed_now) =
    grown' ∙ ap (λ (t : List ℕ). t ++ owed_now) b.replies_are ∙ append_assoc held owed_before owed_now in
    let ends_now = ends_from-push w k 0 (length held) b.records r taken' owed
    (omega (arith, e, f.taken_is, length-fragment r))
    (omega (
      arith,
      size,
      ap length replies_now,
      length-append held (owed_before ++ owed_now),
      length-append owed_before owed_now,
    )) in
    record {
      batch = record {
        records = b.records ++ r ∷ [];
        more = front.1;
        fit = all-push (λ t. length t ≤ MAX_RECORD) b.records r b.fit front.0;
        bytes_are = b.bytes_are ∙ ap (λ (t : List ℕ). text ++ t) more_is
            ∙ sym (append_assoc text (fragment true r) front.1)
            ∙ ap (λ (t : List ℕ). t ++ front.1) (sym (whole_text-push b.records r));
        world_is = next' ∙ sym (world_from-push w k b.records r);
        replies_are =
            replies_now ∙ ap (λ (t : List ℕ). held ++ t) (sym (owed_from-push w k b.records r));
        ends_are = ap (λ (es : List End). es ++ record { taken = taken'; owed = owed } ∷ []) b.ends_are
            ∙ sym ends_now;
      };
      taken_is = omega (
        arith,
        e,
        f.taken_is,
        ap length (whole_text-push b.records r),
        length-append text (fragment true r),
        length-fragment r,
      );
    }

-- the bytes after those that were taken
pub behind : (taken : ℕ) (bytes : List ℕ) → take (length bytes - taken) (drop taken bytes) ≡ drop taken bytes
behind taken bytes =
    take_all (length bytes - taken) (drop taken bytes) (omega (arith, length-drop taken bytes))
