-- The entries of segments, and the log that they show.
-- Serves: count_entries, add_skips, add_segment, shown_of, replayed_evidence.
use Rattle.std.proofs.Common.{◌≡◌, ◌+◌, ◌-◌, ◌<◌, ◌≤◌, ℕ, zero, suc, Bool, true, false, not, ◌==◌, ◌&&◌, List, [], ◌∷◌}
use Rattle.std.proofs.Common.{◌++◌, flat_map, length, map, nat_lt, eqb-true}
use Rattle.std.proofs.Common.{get_or, take, Option, Some, None, refl, sym, ap, ap₂, subst, ◌∙◌, arith}
use Rattle.std.specs.Prelude.{IsTrue, slice_index_or}
use Rattle.std.proofs.Common.{Result, Ok, Err}
use Rattle.std.specs.Option.{IfNone, IsSome}
use Rattle.std.specs.Result.{IfOk}
use Rattle.std.specs.List.{AllByRecursion}
use Rattle.std.proofs.lemmas.Bool.{and_from, lt-ltb}
use Rattle.std.proofs.lemmas.List.{length-append, length-map, map-append, take-map}
use Rattle.std.proofs.lemmas.List.Folds.{length-flat_map-take}
use Rattle.authenticator.specs.declared.authenticator.Authenticator.{Authenticator}
use Rattle.authenticator.specs.declared.member.LogVersion.{LogVersion}
use Rattle.authenticator.specs.declared.member.LogVersion.TheVariants.{One, Two}
use Rattle.authenticator.proofs.Signed.{is_false}
use Rattle.secure_log.specs.LogEntries.Chain.{Logged, logged_links}
use Rattle.secure_log.specs.LogEntries.Words.{MaySkip, logged}
use Rattle.secure_log.specs.declared.log_entries.entry.Entry.{Entry}
use Rattle.secure_log.specs.Versioned.{Begins, VersionedParts, ClosedParts, is_whole_in, versioned_value}
use Rattle.secure_log.proofs.VersionedTexts.{whole_is}
use Rattle.evidence_spec.specs.Evidence.{Based, Replay, based_value, charge_value, is_whole_charge, replay_charge}
use Rattle.witness_spec.specs.Limits.{MAX_AUDITED}
use Rattle.node_book.specs.declared.replayed.ShownEntries.{ShownEntries}
use Rattle.challenge.specs.evidence_showings.Bases.{HasBaseText}
use Rattle.evidence_spec.specs.Base.{BaseParts, base_by, base_text}
use Rattle.witness_spec.specs.Starting.{KnownBase, start_hash, start_number}
use Rattle.node_book.specs.Rows.{ShowsLog, entries_of, replayed_log, segments_in}
use Rattle.node_book.specs.Shown.{IsShown, counts_of}
use Rattle.node_book.proofs.Mapped.{flat_map_map}

-- the entries of closed segments
pub entries_are : (cs : List ClosedParts)
    → entries_of (segments_in cs) ≡ flat_map (λ c. c.segment.entries) cs
entries_are cs = flat_map_map (λ s. s.entries) (λ c. c.segment) cs

-- those of the segments up to one, with its own, are no more than those of all
pub entries_within : (cs : List ClosedParts) (i : ℕ) (c : ClosedParts) → i < length cs → c ≡ get_or cs i c
    → length (flat_map (λ d. d.segment.entries) (take i cs)) + length c.segment.entries
    ≤ length (entries_of (segments_in cs))
entries_within cs i c inside is =
    omega (
      arith,
      length-flat_map-take (λ d. d.segment.entries) cs i c inside,
      ap (λ d. length d.segment.entries) is,
      ap length (entries_are cs),
    )

-- the first of closed segments are the first of the segments
pub first_are : (n : ℕ) (cs : List ClosedParts) → segments_in (take n cs) ≡ take n (segments_in cs)
first_are n cs = sym (take-map (λ c. c.segment) n cs)

-- ---- what is skipped before entries

-- a list without counts has none at a place
none_there : (i : ℕ) → ◌≡◌ {A = ℕ} (slice_index_or [] i 0) 0
none_there zero = refl
none_there (suc i) = refl

-- one more
pub counts_more : (skips : List ℕ) (count : ℕ)
    → counts_of skips (suc count) ≡ counts_of skips count ++ slice_index_or skips count 0 ∷ []
counts_more [] zero = refl
counts_more (n ∷ skips) zero = refl
counts_more [] (suc count) =
    ap (λ ns. 0 ∷ ns) (counts_more [] count ∙ ap (λ n. counts_of [] count ++ n ∷ []) (none_there count))
counts_more (n ∷ skips) (suc count) = ap (λ ns. n ∷ ns) (counts_more skips count)

-- they are those of the entries
counts_are : (skips : List ℕ) (es : List Entry)
    → counts_of skips (length es) ≡ map (λ (l : Logged). l.skipped) (logged skips es)
counts_are skips [] = refl
counts_are [] (e ∷ es) = ap (λ ns. 0 ∷ ns) (counts_are [] es)
counts_are (n ∷ skips) (e ∷ es) = ap (λ ns. n ∷ ns) (counts_are skips es)

-- entries with what is skipped before them are a log again
pub shown_log : (log : List Logged)
    → logged (map (λ (l : Logged). l.skipped) log) (map (λ (l : Logged). l.entry) log) ≡ log
shown_log [] = refl
shown_log (l ∷ ls) = ap (λ ks. l ∷ ks) (shown_log ls)

-- ---- what is shown so far, with a segment more

-- what follows of a value, if there is one
pub ok_then : {A E : Type 0} (P Q : A → Type 0) (r : Result A E) → ((a : A) → P a → Q a) → IfOk r P → IfOk r Q
ok_then P Q (Ok a) f h = f a h
ok_then P Q (Err e) f h = tt

-- nothing is the log without entries
pub none_shown : (s : ShownEntries) → s.skips.items ≡ [] → s.entries.items ≡ [] → IsShown s []
none_shown s skips entries = record { skips = skips; entries = entries }

-- that of a segment added
pub one_more : (s : ShownEntries) (log more : List Logged) (old : List ℕ) (was given : List Entry)
    (skips : List ℕ) → old ≡ map (λ (l : Logged). l.skipped) log → was ≡ map (λ (l : Logged). l.entry) log
    → given ≡ map (λ (l : Logged). l.entry) more → logged skips given ≡ more
    → s.skips.items ≡ old ++ counts_of skips (length given) → s.entries.items ≡ was ++ given
    → IsShown s (log ++ more)
one_more s log more old was given skips o w g back grown added = record {
  skips = grown
      ∙ ap (λ ns. ns ++ counts_of skips (length given)) o
      ∙ ap (λ ns. map (λ (l : Logged). l.skipped) log ++ ns)
      (counts_are skips given ∙ ap (map (λ (l : Logged). l.skipped)) back)
      ∙ sym (map-append (λ (l : Logged). l.skipped) log more);
  entries = added ∙ ap (λ es. es ++ given) w ∙ ap (λ es. map (λ (l : Logged). l.entry) log ++ es) g
      ∙ sym (map-append (λ (l : Logged). l.entry) log more);
}

-- ---- the log that is shown

-- it has no more entries than evidence may have
pub shown_few : (base : Option KnownBase) (v : LogVersion) (cs : List ClosedParts) (n : ℕ) (s : VersionedParts)
    (shown : ShownEntries) → ShowsLog base v (segments_in cs) n s
    → IsShown shown (entries_of (segments_in (take n cs)) ++ s.entries) → length shown.entries.items ≤ MAX_AUDITED
shown_few base v cs n s shown h is =
    let log = entries_of (segments_in (take n cs)) ++ s.entries in
    omega (
      arith,
      ap length is.entries,
      length-map log (λ (l : Logged). l.entry),
      length-append (entries_of (segments_in (take n cs))) s.entries,
      ap (λ ss. length (entries_of ss)) (first_are n cs),
      h.most,
    )

-- they skip as they may
pub shown_skips : (base : Option KnownBase) (v : LogVersion) (cs : List ClosedParts) (n : ℕ) (s : VersionedParts)
    (shown : ShownEntries) → ShowsLog base v (segments_in cs) n s
    → IsShown shown (entries_of (segments_in (take n cs)) ++ s.entries)
    → AllByRecursion (MaySkip v) (logged_links (start_number base) (logged shown.skips.items shown.entries.items))
shown_skips base v cs n s shown h is =
    let log = entries_of (segments_in (take n cs)) ++ s.entries in
    subst (λ ls. AllByRecursion (MaySkip v) (logged_links (start_number base) ls))
    (ap (λ ss. entries_of ss ++ s.entries) (sym (first_are n cs))
    ∙ sym (ap₂ logged is.skips is.entries ∙ shown_log log))
    h.skips

-- it is whole
pub shown_whole : (base : Option KnownBase) (v : LogVersion) (cs : List ClosedParts) (n : ℕ) (node : ℕ)
    (s : VersionedParts) → ShowsLog base v (segments_in cs) n s
    → is_whole_in v (versioned_value v (replayed_log base v node (segments_in cs) n s)) ≡ true
shown_whole base v cs n node s h =
    sym (whole_is v (replayed_log base v node (segments_in cs) n s) may (begins v)) ∙ some h.some
  where
    back : start_number base + 1 - 1 ≡ start_number base
    back = omega arith

    may : AllByRecursion (MaySkip v) (logged_links (start_number base + 1 - 1)
        (entries_of (take n (segments_in cs)) ++ s.entries))
    may = subst (λ k. AllByRecursion (MaySkip v) (logged_links k (entries_of (take n (segments_in cs)) ++ s.entries)))
        (sym back) h.skips

    begins : (w : LogVersion) → Begins w (start_number base + 1)
    begins One = tt
    begins Two = omega arith

    some : 0 < length s.entries
        → (nat_lt 0 (start_number base + 1) && not (length (entries_of (take n (segments_in cs)) ++ s.entries) == 0)) ≡ true
    some more =
        and_from (nat_lt 0 (start_number base + 1)) (not (length (entries_of (take n (segments_in cs)) ++ s.entries) == 0))
        (lt-ltb 0 (start_number base + 1) (omega arith))
        (ap not (is_false _ (λ e. absurd (omega (
          arith,
          eqb-true _ _ e,
          length-append (entries_of (take n (segments_in cs))) s.entries,
          more,
        )))))

-- the log from where the audit began, of these entries and this closing, is the one that is to be shown
pub log_is : (base : Option KnownBase) (v : LogVersion) (node : ℕ) (cs : List ClosedParts) (n : ℕ)
    (s : VersionedParts) (shown : ShownEntries) (first : ℕ) (opening : List ℕ) (closing : Authenticator)
    → IsShown shown (entries_of (segments_in (take n cs)) ++ s.entries) → first ≡ start_number base + 1
    → opening ≡ start_hash base → closing ≡ s.closing
    → ◌≡◌ {A = VersionedParts} (record {
      log_version = v;
      node = node;
      first = first;
      opening = opening;
      entries = logged shown.skips.items shown.entries.items;
      closing = closing;
    }) (replayed_log base v node (segments_in cs) n s)
log_is base v node cs n s shown first opening closing is number hash closed =
    let entries : logged shown.skips.items shown.entries.items
    ≡ entries_of (take n (segments_in cs)) ++ s.entries =
    ap₂ logged is.skips is.entries ∙ shown_log (entries_of (segments_in (take n cs)) ++ s.entries)
    ∙ ap (λ ss. entries_of ss ++ s.entries) (first_are n cs) in
    λ i. record {
      log_version = v;
      node = node;
      first = number i;
      opening = hash i;
      entries = entries i;
      closing = closed i;
    }

-- ---- its charge

-- a charge of a replay is whole where its log is
pub replay_whole : (v : LogVersion) (s : VersionedParts) → s.log_version ≡ v
    → is_whole_charge (charge_value (Replay s)) ≡ is_whole_in v (versioned_value v s)
replay_whole v s same = subst (λ w. is_whole_charge (replay_charge w s) ≡ is_whole_in v (versioned_value v s)) (sym same) (by v)
  where
    by : (w : LogVersion) → is_whole_charge (replay_charge w s) ≡ is_whole_in w (versioned_value w s)
    by One = refl
    by Two = refl

-- so is one of a replay from a base that has a text
pub based_whole : (v : LogVersion) (b : BaseParts) (s : VersionedParts) → HasBaseText b → b.log_version ≡ v
    → is_whole_charge (charge_value (Based b s)) ≡ is_whole_in v (versioned_value v s)
based_whole v b s text same =
    subst (λ w. is_whole_charge (5, based_value w b s) ≡ is_whole_in v (versioned_value v s)) (sym same)
    (by v (subst (λ w. IsTrue (base_text.test (base_by w b))) same text.follow))
  where
    by : (w : LogVersion) → IsTrue (base_text.test (base_by w b))
        → is_whole_charge (5, based_value w b s) ≡ is_whole_in w (versioned_value w s)
    by One follow = refl
    by Two follow = ap (λ x. x && is_whole_in Two (versioned_value Two s)) follow

-- evidence that may be there is there where what it lacks otherwise isn't lacking
pub there : {X : Type 0} (o : Option X) (b : Bool) → IfNone o (b ≡ false) → b ≡ true → IsSome o
there None b none passes = sym none ∙ passes
there (Some x) b none passes = refl
