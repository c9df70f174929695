-- Values come back from what their texts say.
-- Serves: read_packet by its four parts, packets_are_read_as_spelled.
use Rattle.std.proofs.Common.{◌≡◌, ℕ, zero, suc, ◌+◌, ◌-◌, ◌<◌, ◌≤◌, ◌^◌, Bool, true, List, [], ◌∷◌, map, length}
use Rattle.std.proofs.Common.{refl, sym, ap, ap₂, subst, ◌∙◌, arith, false, cond, Ok, Err, Option, Some, None}
use Rattle.std.proofs.lemmas.Option.{same_Some}
use Rattle.std.specs.Prelude.{◌/◌, ◌%◌, ◌==◌, nat_le, nat_lt, IsTrue}
use Rattle.std.specs.List.{AllByRecursion}
use Rattle.std.proofs.lemmas.Bool.{and_parts, eqb-true, leb-true, ltb-true}
use Rattle.xdr.specs.Item.{Value, Fits}
use Rattle.xdr.specs.Reading.{Read, read_at}
use Rattle.xdr.specs.Texts.Text.{Text, text_at, whole}
use Rattle.envelopes.specs.secure_log.authenticator.declared.member.LogVersion.{LogVersion}
use Rattle.envelopes.specs.secure_log.authenticator.declared.member.LogVersion.TheVariants.{One, Two}
use Rattle.envelopes.specs.secure_log.authenticator.Numbers.{word_of}
use Rattle.envelopes.proofs.secure_log.authenticator.Words.{word_is}
use Rattle.envelopes.specs.secure_log.declared.log_entries.entry.Entry.{Entry}
use Rattle.envelopes.specs.secure_log.declared.log_entries.entry.Entry.TheVariants.{Send, Recv, Ack, Clock}
use Rattle.envelopes.specs.secure_log.declared.log_entries.entry.Entry.TheVariants.{Check}
use Rattle.envelopes.specs.secure_log.declared.segment.TheConstants.{MAX_ENTRIES}
use Rattle.envelopes.specs.secure_log.LogEntries.Chain.{Logged, logged_links}
use Rattle.envelopes.specs.secure_log.LogEntries.Entry.{entry_item, entry_value, kind_item, is_kind}
use Rattle.envelopes.specs.secure_log.LogEntries.Words.{MAX_SKIPPED, MaySkip, follows, words_follow}
use Rattle.envelopes.specs.secure_log.Versioned.{VersionedParts, Begins, FitsVersion, is_whole_in, logged_item}
use Rattle.envelopes.specs.secure_log.Versioned.{logged_values, versioned_item, versioned_links}
use Rattle.envelopes.specs.secure_log.Versioned.{versioned_value}
use Rattle.packets.specs.Values.{entry_of_kind, entry_said, logged_said, segment_said}

-- ---- entries

-- an entry comes back from what its text says
entry_back : (e : Entry) → entry_said (entry_value e) ≡ e
entry_back (Send to body) = refl
entry_back (Recv from seq prev body signature) = refl
entry_back (Ack to seq mine number prev signature) = refl
entry_back (Clock seconds microseconds) = refl
entry_back (Check digest) = refl

-- an entry says its value, where that is of a kind
says_back : (n : ℕ) (v : Value (kind_item n)) → IsTrue (is_kind n) → entry_value (entry_of_kind n v) ≡ (n, v)
says_back zero v known = absurd cc
says_back (suc zero) v known = refl
says_back (suc (suc zero)) v known = refl
says_back (suc (suc (suc zero))) v known = refl
says_back (suc (suc (suc (suc zero)))) v known = refl
says_back (suc (suc (suc (suc (suc zero))))) v known = refl
says_back (suc (suc (suc (suc (suc (suc n)))))) v known =
    let both = and_parts (nat_lt 0 (suc (suc (suc (suc (suc (suc n)))))))
    (nat_lt (suc (suc (suc (suc (suc (suc n)))))) 6) known in
    let lt = ltb-true (suc (suc (suc (suc (suc (suc n)))))) 6 both.1 in absurd (omega (arith, lt))

-- ---- entries of a log

same_logged : (l k : Logged) → l.skipped ≡ k.skipped → l.entry ≡ k.entry → l ≡ k
same_logged l k s e = λ i. record { skipped = s i; entry = e i }

-- entries come back, with what is skipped before them
logged_back : (v : LogVersion) (before : ℕ) (ls : List Logged)
    → AllByRecursion (MaySkip v) (logged_links before ls) → map (logged_said v) (logged_values v before ls) ≡ ls
logged_back v before [] may = refl
logged_back One before (l ∷ ls) may =
    ap₂ (λ x xs. x ∷ xs)
    (same_logged (logged_said One (entry_value l.entry)) l (sym may.0) (entry_back l.entry))
    (logged_back One (before + 1 + l.skipped) ls may.1)
logged_back Two before (l ∷ ls) may =
    let w = word_of l.skipped (before + 1 + l.skipped) in
    let skip : w / 2 ^ 32 ≡ l.skipped = omega (arith, word_is l.skipped (before + 1 + l.skipped), may.0.1) in
    ap₂ (λ x xs. x ∷ xs)
    (same_logged (logged_said Two (w, entry_value l.entry)) l skip (entry_back l.entry))
    (logged_back Two (before + 1 + l.skipped) ls may.1)

-- a word that follows is that of what it skips and its number, and an entry may have these
follow_back : (before w : ℕ) → follows before w ≡ true
    → (word_of (w / 2 ^ 32) (before + 1 + w / 2 ^ 32) ≡ w)
    × ((w / 2 ^ 32 ≤ MAX_SKIPPED) × (before + 1 + w / 2 ^ 32 < 2 ^ 32))
follow_back before w h =
    let both = and_parts (nat_le (w / 2 ^ 32) MAX_SKIPPED) (w % 2 ^ 32 == before + 1 + w / 2 ^ 32) h in
    let number : w % 2 ^ 32 ≡ before + 1 + w / 2 ^ 32 = eqb-true _ _ both.1 in
    let few : w / 2 ^ 32 ≤ MAX_SKIPPED = leb-true _ _ both.0 in (
      word_is (w / 2 ^ 32) (before + 1 + w / 2 ^ 32) ∙ omega (arith, number),
      (few, omega (arith, number)),
    )

-- what a text of a log of version 1 says of entries is said of them
plain_says : (before : ℕ) (vs : List (Value entry_item)) → AllByRecursion (Fits entry_item) vs
    → logged_values One before (map (logged_said One) vs) ≡ vs
plain_says before [] fit = refl
plain_says before (v ∷ vs) fit =
    ap₂ (λ x xs. x ∷ xs) (says_back v.0 v.1 fit.0.1) (plain_says (before + 1 + 0) vs fit.1)

-- they skip nothing
plain_skips : (before : ℕ) (vs : List (Value entry_item))
    → AllByRecursion (MaySkip One) (logged_links before (map (logged_said One) vs))
plain_skips before [] = tt
plain_skips before (v ∷ vs) = (refl, plain_skips (before + 1 + 0) vs)

-- the same of a log of version 2, where the words follow
worded_says : (before : ℕ) (vs : List (Value (logged_item Two))) → AllByRecursion (Fits (logged_item Two)) vs
    → words_follow before (map (λ e. e.0) vs) ≡ true
    → (logged_values Two before (map (logged_said Two) vs) ≡ vs)
    × AllByRecursion (MaySkip Two) (logged_links before (map (logged_said Two) vs))
worded_says before [] fit h = (refl, tt)
worded_says before (v ∷ vs) fit h =
    let w : ℕ = v.0 in
    let both = and_parts (follows before w) (words_follow (before + 1 + w / 2 ^ 32) (map (λ e. e.0) vs)) h in
    let word = follow_back before w both.0 in
    let rest = worded_says (before + 1 + w / 2 ^ 32) vs fit.1 both.1 in (
      ap₂ (λ (x : Value (logged_item Two)) xs. x ∷ xs)
          (ap₂ (λ (k : ℕ) (e : Value entry_item). (k, e)) word.0 (says_back v.1.0 v.1.1 fit.0.1.1)) rest.0,
      (word.1, rest.1),
    )

-- ---- segments

same_segment : (s t : VersionedParts) → s.log_version ≡ t.log_version → s.node ≡ t.node → s.first ≡ t.first
    → s.opening ≡ t.opening → s.entries ≡ t.entries → s.closing ≡ t.closing → s ≡ t
same_segment s t v n f o es c = λ i. record {
  log_version = v i;
  node = n i;
  first = f i;
  opening = o i;
  entries = es i;
  closing = c i;
}

-- a segment comes back from what its text says, where it says no more than that
back_in : (v : LogVersion) (s : VersionedParts) → v ≡ s.log_version
    → AllByRecursion (MaySkip v) (versioned_links s) → Begins v s.first
    → segment_said v (versioned_value v s) ≡ s
back_in One s is may begins =
    same_segment (segment_said One (versioned_value One s)) s is refl refl refl
    (logged_back One (s.first - 1) s.entries may) refl
back_in Two s is may begins =
    same_segment (segment_said Two (versioned_value Two s)) s is refl (omega (arith, begins)) refl
    (logged_back Two (s.first - 1) s.entries may) refl

pub segment_back : (s : VersionedParts) → FitsVersion MAX_ENTRIES s
    → segment_said s.log_version (versioned_value s.log_version s) ≡ s
segment_back s fits = back_in s.log_version s refl fits.skips fits.begins

abbrev SegmentValue : LogVersion → Type 0
SegmentValue v = Value (versioned_item v MAX_ENTRIES)

-- the segment that a text says is said by it
pub segment_says : (v : LogVersion) (x : SegmentValue v) → Fits (versioned_item v MAX_ENTRIES) x
    → is_whole_in v x ≡ true → versioned_value v (segment_said v x) ≡ x
segment_says One x fit whole =
    ap (λ (es : List (Value entry_item)). (x.0, (x.1.0, (x.1.1.0, (es, x.1.1.1.1)))))
    (plain_says (x.1.0 - 1) x.1.1.1.0 fit.1.1.1.0.2)
segment_says Two x fit whole =
    let same : x.1.0 + 1 - 1 ≡ x.1.0 = omega arith in
    let follow = (and_parts (nat_lt 0 (length x.1.1.1.0)) (words_follow x.1.0 (map (λ e. e.0) x.1.1.1.0)) whole).1 in
    ap (λ (n : ℕ). (
      x.0,
      (n, (x.1.1.0, (logged_values Two n (map (logged_said Two) x.1.1.1.0), x.1.1.1.1))),
    )) same
    ∙ ap (λ (es : List (Value (logged_item Two))). (x.0, (x.1.0, (x.1.1.0, (es, x.1.1.1.1)))))
    (worded_says x.1.0 x.1.1.1.0 fit.1.1.1.0.2 follow).0

said_skips : (v : LogVersion) (x : SegmentValue v) → Fits (versioned_item v MAX_ENTRIES) x
    → is_whole_in v x ≡ true → AllByRecursion (MaySkip v) (versioned_links (segment_said v x))
said_skips One x fit whole = plain_skips (x.1.0 - 1) x.1.1.1.0
said_skips Two x fit whole =
    let same : x.1.0 ≡ x.1.0 + 1 - 1 = omega arith in
    let follow = (and_parts (nat_lt 0 (length x.1.1.1.0)) (words_follow x.1.0 (map (λ e. e.0) x.1.1.1.0)) whole).1 in
    subst (λ n. AllByRecursion (MaySkip Two) (logged_links n (map (logged_said Two) x.1.1.1.0))) same
    (worded_says x.1.0 x.1.1.1.0 fit.1.1.1.0.2 follow).1

said_begins : (v : LogVersion) (x : SegmentValue v) → Begins v (segment_said v x).first
said_begins One x = tt
said_begins Two x = omega arith

-- and says no more than it
pub segment_fits : (v : LogVersion) (x : SegmentValue v) → Fits (versioned_item v MAX_ENTRIES) x
    → is_whole_in v x ≡ true → FitsVersion MAX_ENTRIES (segment_said v x)
segment_fits v x fit whole = record {
  text = subst (Fits (versioned_item v MAX_ENTRIES)) (sym (segment_says v x fit whole)) fit;
  skips = said_skips v x fit whole;
  begins = said_begins v x;
}

-- ---- numbers from 1 on

passes : {A : Type 0} (test : A → Bool) (read : Read A) (v : A) → whole test read ≡ Some v → test v ≡ true
passes {A} test (Ok (w, [])) v e = by (test w) refl e
  where
    by : (b : Bool) → test w ≡ b → ◌≡◌ {A = Option A} (cond b (Some w) None) (Some v) → test v ≡ true
    by true h e = ap test (sym (same_Some _ _ e)) ∙ h
    by false h e = absurd cc
passes test (Ok (w, x ∷ xs)) v e = absurd cc
passes test (Err d) v e = absurd cc

-- what is read as a text passes its test
pub text_passes : (t : Text) (bytes : List ℕ) (v : Value t.item) → text_at t bytes ≡ Some v → t.test v ≡ true
unfolding text_at
text_passes t bytes v e = passes t.test (read_at t.item bytes) v e

-- a segment with a text speaks of numbers from 1 on
pub first_in : (v : LogVersion) (s : VersionedParts) → Begins v s.first
    → is_whole_in v (versioned_value v s) ≡ true → 0 < s.first
first_in One s begins whole =
    ltb-true _ _ (and_parts (nat_lt 0 s.first) (nat_lt 0 (length (versioned_value One s).1.1.1.0)) whole).0
first_in Two s begins whole = begins
