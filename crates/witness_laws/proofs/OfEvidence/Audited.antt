-- While a node isn't exposed, all audited entries are an honest log up to the end; so a segment in which a
-- replay finds a fault is one after them, from where the audit begins on.
-- Serves: evidence_where_exposed, evidence_proves.
use Rattle.std.proofs.Common.{◌≡◌, ℕ, ◌+◌, ◌-◌, ◌^◌, ◌<◌, ◌≤◌, Bool, true, false, not, ◌==◌, nat_lt, List}
use Rattle.std.proofs.Common.{[], ◌∷◌, ◌++◌, ◌⊎◌, inl, inr, length, Option, Some, None, refl, sym, ap, subst}
use Rattle.std.proofs.Common.{◌∙◌, arith}
use Rattle.std.proofs.Common.{append_assoc, append-nil, eq-eqb}
use Rattle.std.specs.Prelude.{IsTrue}
use Rattle.std.specs.List.{AllByRecursion}
use Rattle.std.proofs.lemmas.Bool.{and_parts, true≢false, ltb-true, ltb-false}
use Rattle.xdr.specs.Item.{Fits}
use Rattle.authenticator.specs.Numbers.{number_item}
use Rattle.authenticator.specs.Roster.{keeps_version}
use Rattle.authenticator.proofs.Members.{member_node}
use Rattle.authenticator.specs.declared.authenticator.Authenticator.{Authenticator}
use Rattle.authenticator.specs.declared.member.LogVersion.{LogVersion}
use Rattle.authenticator.specs.declared.member.LogVersion.TheVariants.{One, Two}
use Rattle.authenticator.specs.declared.member.Member.{Member}
use Rattle.secure_log.specs.LogEntries.Chain.{Link, Logged, last_hash, logged_link}
use Rattle.secure_log.specs.LogEntries.Chain.{logged_links, marks, span, IsAmong}
use Rattle.secure_log.specs.LogEntries.Words.{ClosesAt, MaySkip, last_word}
use Rattle.secure_log.specs.Versioned.{VersionedParts, ClosedParts, IsClosedIn, logged_item, logged_values}
use Rattle.secure_log.specs.Versioned.{segment_marks, start_number, versioned_links, versioned_value}
use Rattle.secure_log.proofs.Gaps.{length-logged_links}
use Rattle.secure_log.proofs.VersionedTexts.{length-values, whole_is}
use Rattle.witness_spec.specs.state_spec.State.{State}
use Rattle.witness_spec.specs.replay_spec.Placed.{Placed, logged_places, places_from, places_in}
use Rattle.witness_spec.specs.replay_spec.Stepping.{ReplayFault, step}
use Rattle.witness_spec.specs.replay_spec.Replay.{Sound, Fault, Honest, last_state, verdict_of}
use Rattle.witness_spec.proofs.replay_spec.Runs.{is_sound, first_fault, is_fault, joined, last_joined}
use Rattle.witness_spec.specs.evidence_spec.Showing.{Shows}
use Rattle.witness_spec.specs.evidence_spec.Evidence.{replay_item}
use Rattle.witness_spec.proofs.evidence_spec.Reached.{places_logged}
use Rattle.witness_spec.proofs.replay_spec.Places.{places_joined}
use Rattle.secure_log.proofs.OfLogEntries.Pairs.{hash_joined, span-append}
use Rattle.witness_spec.specs.Events.{JobParts}
use Rattle.witness_spec.specs.Replies.{Reply}
use Rattle.witness_spec.specs.Starting.{KnownBase, IsBaseAt}
use Rattle.witness_spec.specs.Starting as starting
use Rattle.witness_spec.specs.Watched.{Watched, IsInRoster}
use Rattle.witness_spec.specs.Steps.{Step, Past}
use Rattle.witness_spec.specs.Pairs.{Pair, last_of}
use Rattle.witness_spec.specs.Done.{noted, accepted, filed}
use Rattle.witness_spec.specs.Standing.{End, end_of, end_after, moved_by, verdict_on, sound_entries}
use Rattle.witness_spec.specs.Standing.{entries_filed}
use Rattle.witness_spec.specs.Standing.{audited, pairs_noted, pairs_accepted, shown, is_exposed}
use Rattle.witness_spec.specs.Exposing.{audited_with, replay_from}
use Rattle.witness_laws.proofs.OfEvidence.Audits.{IsGoodSegment, its_log_version, last_is, IsNext}
use Rattle.witness_laws.proofs.OfEvidence.Before.{on_right, one_shown, accepted_shown}
use Rattle.witness_laws.proofs.OfEvidence.Charges.{IsGoodCharge, based_fits, its_version, lower_fits, replay_fits}
use Rattle.witness_laws.proofs.OfEvidence.Starts.{base_hash, base_shown, begun_fits, start_there}
use Rattle.witness_laws.proofs.OfEvidence.Marks.{few_spans, last_spans, last_there, marks_either, opening_there}

-- ---- entries in two parts

-- each of some entries after a number has a spelling
abbrev pub EachFits : LogVersion → (before : ℕ) → List Logged → Type 0
EachFits v before ls = AllByRecursion (Fits (logged_item v)) (logged_values v before ls)

-- each may be skipped to
abbrev pub EachMaySkip : LogVersion → (before : ℕ) → List Logged → Type 0
EachMaySkip v before ls = AllByRecursion (MaySkip v) (logged_links before ls)

each_joined : (v : LogVersion) (before : ℕ) (xs ys : List Logged) → EachFits v before xs
    → EachFits v (before + span xs) ys → EachFits v before (xs ++ ys)
each_joined v before [] ys a b =
    let same : before + 0 ≡ before = omega arith in subst (λ n. EachFits v n ys) same b
each_joined v before (x ∷ xs) ys a b =
    let n = before + 1 + x.skipped in
    let same : before + span (x ∷ xs) ≡ n + span xs = omega arith in
    (a.0, each_joined v n xs ys a.1 (subst (λ m. EachFits v m ys) same b))

skips_joined : (v : LogVersion) (before : ℕ) (xs ys : List Logged) → EachMaySkip v before xs
    → EachMaySkip v (before + span xs) ys → EachMaySkip v before (xs ++ ys)
skips_joined v before [] ys a b =
    let same : before + 0 ≡ before = omega arith in subst (λ n. EachMaySkip v n ys) same b
skips_joined v before (x ∷ xs) ys a b =
    let n = before + 1 + x.skipped in
    let same : before + span (x ∷ xs) ≡ n + span xs = omega arith in
    (a.0, skips_joined v n xs ys a.1 (subst (λ m. EachMaySkip v m ys) same b))

links_joined : (before : ℕ) (xs ys : List Logged)
    → logged_links before (xs ++ ys) ≡ logged_links before xs ++ logged_links (before + span xs) ys
links_joined before [] ys =
    let same : before ≡ before + 0 = omega arith in ap (λ n. logged_links n ys) same
links_joined before (x ∷ xs) ys =
    let n = before + 1 + x.skipped in
    let same : n + span xs ≡ before + span (x ∷ xs) = omega arith in
    ap (λ (ls : List Link). logged_link n x ∷ ls)
    (links_joined n xs ys ∙ ap (λ m. logged_links n xs ++ logged_links m ys) same)

word_behind : (k : Link) (ks : List Link) (l : Link) (ls : List Link)
    → last_word k (ks ++ l ∷ ls) ≡ last_word l ls
word_behind k [] l ls = refl
word_behind k (m ∷ ks) l ls = word_behind m ks l ls

-- a word that closes links closes them after others
closes_after : (v : LogVersion) (before other : ℕ) (ks ls : List Link) (closing : ℕ) → 0 < length ls
    → ClosesAt v other ls closing → ClosesAt v before (ks ++ ls) closing
closes_after v before other ks [] closing some h = absurd (omega (arith, some))
closes_after v before other [] (l ∷ ls) closing some h = h
closes_after v before other (k ∷ ks) (l ∷ ls) closing some h = h ∙ sym (word_behind k ks l ls)

not_none : (n : ℕ) → not (n == 0) ≡ true → 0 < n
not_none n h = by (nat_lt 0 n) refl
  where
    by : (b : Bool) → nat_lt 0 n ≡ b → 0 < n
    by true e = ltb-true 0 n e
    by false e =
        let zero_is : n ≡ 0 = omega (arith, ltb-false 0 n e) in
        absurd (true≢false (sym h ∙ ap not (eq-eqb n 0 zero_is)))

-- a good segment has an entry
has_entry : (w : Watched) (s : VersionedParts) → IsGoodSegment w s → 0 < length s.entries
has_entry w s good =
    let both = and_parts (nat_lt 0 s.first) (not (length s.entries == 0))
    (whole_is s.log_version s good.fits.skips good.fits.begins ∙ good.whole) in
    not_none (length s.entries) both.1

-- ---- what is audited

-- the number where the audit of a node begins, with the hash and the state there
abbrev first_number : Watched → ℕ
first_number w = starting.start_number w.base

abbrev first_hash : Watched → List ℕ
first_hash w = starting.start_hash w.base

abbrev first_state : Watched → State
first_state w = starting.start_state w.member w.base

-- all audited entries are an honest log from where the audit began up to the end, and its last pair was shown
pub record IsAudited (w : Watched) (past : Past) : Type 0 where
  -- they take up the numbers from where the audit began up to the end
  pub count : first_number w + span (audited w past) ≡ (end_of w past).number
  -- the pair after the last of them was shown
  pub there : IsAmong
      ((end_of w past).number, last_hash (first_hash w) (logged_links (first_number w) (audited w past)))
      (shown w past)
  -- and so was each of their marks
  pub marked : (q : Pair)
      → IsAmong q (marks (first_number w) (first_hash w) (logged_links (first_number w) (audited w past)))
      → IsAmong q (shown w past)
  -- where there are any, the hash where the audit began has 32 bytes
  pub opened : 0 < length (audited w past) → length (first_hash w) ≡ 32
  -- each has a text
  pub each : EachFits w.member.log_version (first_number w) (audited w past)
  -- each may be skipped to
  pub skips : EachMaySkip w.member.log_version (first_number w) (audited w past)
  -- the state after each entry
  pub states : List State
  -- the entries are honest from the state that the member begins with
  pub honest : Honest w.roster (first_state w) (logged_places (first_number w) (first_hash w) (audited w past)) states
  -- the last state is that of the end
  pub last : last_state (first_state w) states ≡ (end_of w past).state

-- before any step nothing is audited, and the end is where the audit begins, with the state there
pub none_audited : (w : Watched) → IsInRoster w → IsAudited w []
none_audited w is = record {
  count = omega arith;
  there = start_there w.roster w.member w.base is.base;
  marked = λ q i. at_first q i;
  opened = λ some. absurd (omega (arith, some));
  each = tt;
  skips = tt;
  states = [];
  honest = tt;
  last = refl;
}
  where
    at_first : (q : Pair) → IsAmong q (marks (first_number w) (first_hash w) []) → IsAmong q (shown w [])
    at_first q (inl e) = subst (λ p. IsAmong p (shown w [])) (sym e) (start_there w.roster w.member w.base is.base)
    at_first q (inr i) = absurd i

-- the hash before entries has 32 bytes, where it has with some, or is that of a segment that follows
opened_by : (hash : List ℕ) (n : ℕ) (front : List Logged) (opening : List ℕ)
    → (0 < length front → length hash ≡ 32) → last_hash hash (logged_links n front) ≡ opening
    → length opening ≡ 32 → length hash ≡ 32
opened_by hash n [] opening some same long = ap length same ∙ long
opened_by hash n (l ∷ ls) opening some same long = some (omega arith)

-- a segment after the audited entries, with them
record IsJoined (w : Watched) (past : Past) (s : VersionedParts) : Type 0 where
  count : first_number w + span (audited w past ++ s.entries) ≡ last_of s
  long : length (first_hash w) ≡ 32
  hash : last_hash (first_hash w) (logged_links (first_number w) (audited w past ++ s.entries)) ≡ s.closing.hash
  each : EachFits w.member.log_version (first_number w) (audited w past ++ s.entries)
  skips : EachMaySkip w.member.log_version (first_number w) (audited w past ++ s.entries)
  closes : ClosesAt w.member.log_version (first_number w)
      (logged_links (first_number w) (audited w past ++ s.entries)) s.closing.word
  places : logged_places (first_number w) (first_hash w) (audited w past ++ s.entries)
      ≡ logged_places (first_number w) (first_hash w) (audited w past) ++ places_in s
  marked : (q : Pair)
      → IsAmong q (marks (first_number w) (first_hash w) (logged_links (first_number w) (audited w past ++ s.entries)))
      → IsAmong q (marks (first_number w) (first_hash w) (logged_links (first_number w) (audited w past)))
      ⊎ IsAmong q (segment_marks s)

is_joined : (w : Watched) (past : Past) (c : ClosedParts) → IsInRoster w → is_exposed w past ≡ false
    → IsAudited w past → IsNext w past c → IsGoodSegment w c.segment → IsJoined w past c.segment
is_joined w past c member e a next good =
    let s = c.segment in
    let v = w.member.log_version in
    let es = s.entries in
    let word = s.closing.word in
    let ends = good.closed.ends in
    let front = audited w past in
    let end = (end_of w past).number in
    let n0 = first_number w in
    let h0 = first_hash w in
    let hash = last_hash h0 (logged_links n0 front) in
    let version : s.log_version ≡ v = its_log_version w s member good in
    let before : s.first - 1 ≡ end = omega (arith, next.first) in
    let opened : IsAmong (end, s.opening) (shown w past) =
    subst (λ k. IsAmong (k, s.opening) (shown w past)) before
    (accepted_shown w past s (s.first - 1, s.opening) next.among
    (opening_there (s.first - 1) s.opening (versioned_links s))) in
    let opening : hash ≡ s.opening = one_shown w past e end hash s.opening a.there opened in
    let place : n0 + span front ≡ s.first - 1 = omega (arith, a.count, before) in
    let spans : last_of s ≡ s.first - 1 + span es = last_is w s good ∙ last_spans (s.first - 1) es in
    let back : s.first ≡ s.first - 1 + 1 = omega (arith, ends.first) in
    let own : places_in s ≡ logged_places (s.first - 1) s.opening es =
    ap (λ n. places_from n s.opening es) back ∙ places_logged (s.first - 1) s.opening es in
    let last : ClosesAt v (s.first - 1) (logged_links (n0 + span front) es) word =
    subst (λ n. ClosesAt v (s.first - 1) (logged_links n es) word) (sym place)
    (subst (λ u. ClosesAt u (s.first - 1) (versioned_links s) word) version ends.last) in
    record {
      count = omega (arith, span-append front es, a.count, before, spans);
      long = opened_by h0 n0 front s.opening a.opened opening good.fits.text.1.1.0;
      hash = hash_joined n0 h0 front es
          ∙ ap (λ n. last_hash hash (logged_links n es)) place
          ∙ ap (λ h. last_hash h (versioned_links s)) opening
          ∙ sym ends.hash;
      each = each_joined v n0 front es a.each
          (subst (λ n. EachFits v n es) (sym place)
          (subst (λ u. EachFits u (s.first - 1) es) version good.fits.text.1.1.1.0.2));
      skips = skips_joined v n0 front es a.skips
          (subst (λ n. EachMaySkip v n es) (sym place)
          (subst (λ u. EachMaySkip u (s.first - 1) es) version ends.skips));
      closes = subst (λ ls. ClosesAt v n0 ls word) (sym (links_joined n0 front es))
          (closes_after v n0 (s.first - 1) (logged_links n0 front) (logged_links (n0 + span front) es) word
          (omega (arith, length-logged_links (n0 + span front) es, has_entry w s good)) last);
      places = places_joined n0 h0 front es
          ∙ ap (λ n. logged_places (first_number w) (first_hash w) front ++ logged_places n hash es) place
          ∙ ap (λ h. logged_places (first_number w) (first_hash w) front ++ logged_places (s.first - 1) h es) opening
          ∙ ap (λ ps. logged_places (first_number w) (first_hash w) front ++ ps) (sym own);
      marked = λ q i.
          subst (λ ms. IsAmong q (marks n0 h0 (logged_links n0 front)) ⊎ IsAmong q ms)
          (ap (λ n. marks n hash (logged_links n es)) place
          ∙ ap (λ h. marks (s.first - 1) h (versioned_links s)) opening)
          (marks_either n0 h0 front es q i);
    }

-- its last pair was shown
last_shown : (w : Watched) (past : Past) (c : ClosedParts) → IsNext w past c
    → IsGoodSegment w c.segment
    → IsAmong (last_of c.segment, c.segment.closing.hash) (shown w past)
last_shown w past c next good =
    let s = c.segment in
    let links = versioned_links s in
    accepted_shown w past s (last_of s, s.closing.hash) next.among
    (subst (λ h. IsAmong (last_of s, h) (segment_marks s)) (sym good.closed.ends.hash)
    (subst (λ n. IsAmong (n, last_hash s.opening links) (segment_marks s)) (sym (last_is w s good))
    (last_there (s.first - 1) s.opening links)))

module _ (w : Watched) (past : Past) (p : Step × Reply) where
  pub shown_stays : (q : Pair) → IsAmong q (shown w past) → IsAmong q (shown w (p ∷ past))
  shown_stays q i =
      on_right q (pairs_noted w.member.log_version (is_exposed w past) (noted p.0 p.1))
      (pairs_accepted (accepted p.0 p.1) ++ shown w past)
      (on_right q (pairs_accepted (accepted p.0 p.1)) (shown w past) i)

  -- the invariant in words that a step changes
  record Are (number : ℕ) (state : State) (es : List Logged) : Type 0 where
    count : first_number w + span es ≡ number
    there : IsAmong (number, last_hash (first_hash w) (logged_links (first_number w) es)) (shown w (p ∷ past))
    marked : (q : Pair) → IsAmong q (marks (first_number w) (first_hash w) (logged_links (first_number w) es))
        → IsAmong q (shown w (p ∷ past))
    opened : 0 < length es → length (first_hash w) ≡ 32
    each : EachFits w.member.log_version (first_number w) es
    skips : EachMaySkip w.member.log_version (first_number w) es
    states : List State
    honest : Honest w.roster (first_state w) (logged_places (first_number w) (first_hash w) es) states
    last : last_state (first_state w) states ≡ state

  from_are : (end : End) (es : List Logged) → end_of w (p ∷ past) ≡ end → audited w (p ∷ past) ≡ es
      → Are end.number end.state es → IsAudited w (p ∷ past)
  from_are end es is_end is_es a =
      let b : Are (end_of w (p ∷ past)).number (end_of w (p ∷ past)).state (audited w (p ∷ past)) =
      subst (λ (x : End). Are x.number x.state (audited w (p ∷ past))) (sym is_end)
      (subst (Are end.number end.state) (sym is_es) a) in
      record {
        count = b.count;
        there = b.there;
        marked = b.marked;
        opened = b.opened;
        each = b.each;
        skips = b.skips;
        states = b.states;
        honest = b.honest;
        last = b.last;
      }

  -- nothing new is audited
  pub audited_stays : entries_filed w.roster (end_of w past).state (filed p.0 p.1) ≡ []
      → end_of w (p ∷ past) ≡ end_of w past → IsAudited w past → IsAudited w (p ∷ past)
  audited_stays none is_end a =
      from_are (end_of w past) (audited w past) is_end
      (ap (λ x. audited w past ++ x) none ∙ append-nil (audited w past))
      (record {
        count = a.count;
        there = shown_stays (
          (end_of w past).number,
          last_hash (first_hash w) (logged_links (first_number w) (audited w past)),
        ) a.there;
        marked = λ q i. shown_stays q (a.marked q i);
        opened = a.opened;
        each = a.each;
        skips = a.skips;
        states = a.states;
        honest = a.honest;
        last = a.last;
      })

  -- a segment that was found sound is audited
  pub audited_on : (j : JobParts) (t : State) (found : List Authenticator) → IsInRoster w
      → is_exposed w past ≡ false → filed p.0 p.1 ≡ Some j
      → verdict_on w.roster (end_of w past).state j ≡ Sound t found
      → IsNext w past j.segment → IsGoodSegment w j.segment.segment → IsAudited w past
      → IsAudited w (p ∷ past)
  audited_on j t found member e is v next good a =
      let s = j.segment.segment in
      let state = (end_of w past).state in
      let k = is_joined w past j.segment member e a next good in
      let run = is_sound w.roster state (places_in s) t found v in
      from_are (record { number = last_of s; state = t }) (audited w past ++ s.entries)
      (ap (end_after w.roster (end_of w past)) is ∙ ap (moved_by (end_of w past) (last_of s)) v)
      (ap (λ x. audited w past ++ entries_filed w.roster state x) is
      ∙ ap (λ x. audited w past ++ sound_entries s.entries x) v)
      (record {
        count = k.count;
        there = shown_stays (
          last_of s,
          last_hash (first_hash w)
              (logged_links (first_number w) (audited w past ++ s.entries)),
        )
            (subst (λ h. IsAmong (last_of s, h) (shown w past)) (sym k.hash)
            (last_shown w past j.segment next good));
        marked = λ q i. either_shown q (k.marked q i);
        opened = λ some. k.long;
        each = k.each;
        skips = k.skips;
        states = a.states ++ run.states;
        honest =
            subst (λ ps. Honest w.roster (first_state w) ps (a.states ++ run.states)) (sym k.places)
            (joined w.roster (first_state w) (logged_places (first_number w) (first_hash w) (audited w past))
            (places_in s) a.states run.states a.honest
            (subst (λ x. Honest w.roster x (places_in s) run.states) (sym a.last) run.honest));
        last = last_joined (first_state w) a.states run.states
            ∙ (ap (λ x. last_state x run.states) a.last ∙ run.last);
      })
    where
      either_shown : (q : Pair)
          → IsAmong q (marks (first_number w) (first_hash w) (logged_links (first_number w) (audited w past)))
          ⊎ IsAmong q (segment_marks j.segment.segment) → IsAmong q (shown w (p ∷ past))
      either_shown q (inl i) = shown_stays q (a.marked q i)
      either_shown q (inr i) = shown_stays q (accepted_shown w past j.segment.segment q next.among i)

-- ---- a fault

-- a fault after honest entries is one of the whole
fault_behind : (ms : List Member) (o s : State) (ps qs : List Placed) (ts : List State) (fault : ReplayFault)
    (number : ℕ) → Honest ms o ps ts → last_state o ts ≡ s → verdict_of ms s qs ≡ Fault fault number
    → verdict_of ms o (ps ++ qs) ≡ Fault fault number
fault_behind ms o s ps qs ts fault number honest last v =
    let f = first_fault ms s qs fault number v in
    is_fault ms o (ps ++ qs) fault number (record {
      before = ps ++ f.before;
      entry = f.entry;
      rest = f.rest;
      whole = ap (λ x. ps ++ x) f.whole ∙ sym (append_assoc ps f.before (f.entry ∷ f.rest));
      states = ts ++ f.states;
      honest = joined ms o ps f.before ts f.states honest
          (subst (λ x. Honest ms x f.before f.states) (sym last) f.honest);
      refused = ap (λ x. step ms x f.entry) (last_joined o ts f.states ∙ ap (λ x. last_state x f.states) last)
          ∙ f.refused;
      there = f.there;
    })

start_fits : (v : LogVersion) (first later : ℕ) → first ≤ later → Fits number_item (start_number v later)
    → Fits number_item (start_number v first)
start_fits One first later h fits = lower_fits first later h fits
start_fits Two first later h fits = lower_fits (first - 1) (later - 1) (omega (arith, h)) fits

module _ (w : Watched) (past : Past) (j : JobParts) (fault : ReplayFault) (number : ℕ) (is : IsInRoster w)
    (e : is_exposed w past ≡ false) (a : IsAudited w past) (next : IsNext w past j.segment)
    (good : IsGoodSegment w j.segment.segment)
    (verdict : verdict_on w.roster (end_of w past).state j ≡ Fault fault number) where
  abbrev s : VersionedParts
  s = j.segment.segment

  abbrev v : LogVersion
  v = w.member.log_version

  abbrev all : VersionedParts
  all = audited_with w past s

  k : IsJoined w past s
  k = is_joined w past j.segment is e a next good

  place : first_number w ≡ first_number w + 1 - 1
  place = omega arith

  node : w.member.node < 2 ^ 32
  node = omega (arith, good.fits.text.0, good.closed.ends.node, good.node)

  closed : IsClosedIn w.roster all
  closed = record {
    version = its_version w is;
    ends = record {
      first = omega arith;
      skips = subst (λ n. EachMaySkip v n all.entries) place k.skips;
      node = good.node;
      last = subst (λ n. ClosesAt v n (logged_links n all.entries) all.closing.word) place k.closes;
      hash = subst (λ n. all.closing.hash ≡ last_hash (first_hash w) (logged_links n all.entries)) place
          (sym k.hash);
    };
    signed = good.closed.signed;
  }

  found : verdict_of w.roster (first_state w) (places_in all) ≡ Fault fault number
  found =
      ap (verdict_of w.roster (first_state w))
      (places_logged (first_number w) (first_hash w) all.entries ∙ k.places)
      ∙ fault_behind w.roster (first_state w) (end_of w past).state
      (logged_places (first_number w) (first_hash w) (audited w past)) (places_in s)
      a.states fault number a.honest a.last verdict

  starts : Fits number_item (start_number v (first_number w + 1))
  starts =
      start_fits v (first_number w + 1) s.first (omega (arith, next.first, a.count))
      (subst (λ u. Fits number_item (start_number u s.first)) (its_log_version w s is good)
      good.fits.text.1.0)

  fits : Fits (replay_item v) (versioned_value v all)
  fits =
      let values = length-values v (first_number w + 1 - 1) all.entries in
      let few = few_spans all.entries in (
        node,
        (
          starts,
          (
            k.long,
            (
              (
                omega (arith, values, few, k.count, next.last),
                omega (arith, values, few, k.count, next.last),
                subst (λ n. EachFits v n all.entries) place k.each,
              ),
              good.fits.text.1.1.1.1,
            ),
          ),
        ),
      )

  charge_from : (base : Option KnownBase) → w.base ≡ base → IsBaseAt w.roster w.member base
      → IsGoodCharge w (replay_from base all)
  charge_from None same known = record {
    small = node;
    version = its_version w is;
    accepted = record {
      of_node = refl;
      first = omega (arith, ap starting.start_number same);
      opening = ap starting.start_hash same;
      closed = closed;
      member = w.member;
      is_member = is.is_member;
      fault = fault;
      number = number;
      found = subst (λ o. verdict_of w.roster (starting.start_state w.member o) (places_in all)
          ≡ Fault fault number) same found;
    };
    text = replay_fits v all fits;
  }
  charge_from (Some b) same known =
      let version : b.parts.log_version ≡ v = known.good.of_member.log_version in
      record {
        small = node;
        version = subst (λ u. IsTrue (keeps_version w.roster w.member.node u)) (sym version)
            (its_version w is);
        accepted = record {
          member = w.member;
          state = b.state;
          good = known.good;
          base_node = sym (member_node w.roster b.parts.showing.node w.member known.good.is_member);
          of_node = refl;
          version = sym version;
          first = ap (λ o. starting.start_number o + 1) same;
          opening = subst (λ h. Shows b.parts.showing b.parts.at h) (sym (ap starting.start_hash same))
              (base_shown w.roster w.member b known (b.parts.at, starting.start_hash (Some b))
              (base_hash w.roster w.member b known));
          closed = closed;
          fault = fault;
          number = number;
          found = subst (λ o. verdict_of w.roster (starting.start_state w.member o) (places_in all)
              ≡ Fault fault number) same found;
        };
        text = based_fits b.parts.log_version b.parts all
            (begun_fits b.parts.log_version b.parts known.text)
            (subst (λ u. Fits (replay_item u) (versioned_value u all)) (sym version) fits);
      }

  -- A segment in which a replay finds a fault after the end, with all that was audited, is a charge.
  pub replay_charge : IsGoodCharge w (replay_from w.base (audited_with w past j.segment.segment))
  replay_charge = charge_from w.base refl is.base
