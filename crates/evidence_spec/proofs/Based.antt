-- A good base whose closing's pair is one of an honest log is of the log: its CHECK is an entry of the log, and its
-- state the log's state there. Serves: a_base_is_of_the_log, accepted_evidence_proves.
use Rattle.std.proofs.Common.{◌≡◌, ℕ, ◌+◌, ◌<◌, ◌^◌, List, [], ◌∷◌, ◌++◌, inl, inr, refl, sym, ap, subst}
use Rattle.std.proofs.Common.{◌∙◌, append_assoc, arith}
use Rattle.std.specs.Prelude.{◌-◌}
use Rattle.std.specs.List.{AllByRecursion, flat_map}
use Rattle.sha2.proofs.Facts256.{length-sha256}
use Rattle.xdr.specs.Item.{Fits}
use Rattle.replay_spec.specs.authenticator.Numbers.{number_in}
use Rattle.replay_spec.specs.authenticator.declared.member.LogVersion.{LogVersion}
use Rattle.replay_spec.specs.authenticator.declared.member.LogVersion.TheVariants.{One, Two}
use Rattle.replay_spec.specs.authenticator.declared.member.Member.{Member}
use Rattle.replay_spec.proofs.authenticator.Members.{member_node}
use Rattle.replay_spec.specs.secure_log.LogEntries.Entry.{content, entry_item, entry_value}
use Rattle.replay_spec.specs.secure_log.declared.log_entries.entry.Entry.TheVariants.{Check}
use Rattle.replay_spec.specs.secure_log.LogEntries.Chain.{IsAmong, Link, Logged, NoCollision, zeros, hash_after}
use Rattle.replay_spec.specs.secure_log.LogEntries.Chain.{chain_texts, last_hash, last_number, logged_link, logged_links, span}
use Rattle.replay_spec.specs.secure_log.Log.{HasNumbers, log_pairs}
use Rattle.replay_spec.specs.state_spec.State.{State}
use Rattle.replay_spec.specs.state_spec.StateText.{digest_text, state_digest}
use Rattle.replay_spec.specs.Bodies.{HasBytes}
use Rattle.replay_spec.specs.Opening.{opening_of}
use Rattle.replay_spec.specs.Placed.{Placed, logged_place, logged_places}
use Rattle.replay_spec.specs.Replay.{Honest, last_state}
use Rattle.replay_spec.specs.StateLaws.{HasFew, HonestStatesAreSpelled, IsSpelled, state_texts}
use Rattle.replay_spec.proofs.secure_log.OfLogEntries.FewerTexts.{Within, fewer, left, right, both}
use Rattle.replay_spec.proofs.secure_log.OfLogEntries.Pairs.{hash_joined, span-append}
use Rattle.replay_spec.proofs.Places.{places_joined}
use Rattle.replay_spec.proofs.OfStateLaws.Telling.{tells}
use Rattle.replay_spec.proofs.OfStateLaws.TextsSpelled.{of_texts}
use Rattle.evidence_spec.specs.Showing.{Shows, links_in}
use Rattle.evidence_spec.specs.Base.{BaseParts, IsGoodBase, base_by, base_item, begun_item, begun_value}
use Rattle.evidence_spec.specs.Base.{check_link}
use Rattle.evidence_spec.specs.Proving.{IsLogOf, entry_texts, log_links, marks_of, showing_texts, texts_of}
use Rattle.evidence_spec.specs.Laws.{BaseIsOfTheLog, Reached}
use Rattle.evidence_spec.proofs.Parts.{EachLogged, each_back, logged_texts, one_logged, texts_back}
use Rattle.evidence_spec.proofs.Parts as parts
use Rattle.evidence_spec.proofs.Reached.{split}
use Rattle.evidence_spec.proofs.Shown.{showing_stands}
use Rattle.evidence_spec.proofs.ShownMarks.{StandsInLog, all_front, marks_in}

-- ---- what is among a list

-- a list is what stands before one of its items, the item, and what stands after it
record IsAround {A : Type 0} (x : A) (xs : List A) : Type 0 where
  before : List A
  rest : List A
  whole : xs ≡ before ++ (x ∷ rest)

around : {A : Type 0} (x : A) (xs : List A) → IsAmong x xs → IsAround x xs
around x [] i = absurd i
around x (y ∷ ys) (inl e) = record { before = []; rest = ys; whole = ap (λ z. z ∷ ys) (sym e) }
around x (y ∷ ys) (inr i) =
    let r = around x ys i in
    record { before = y ∷ r.before; rest = r.rest; whole = ap (λ zs. y ∷ zs) r.whole }

-- the last of the states after a first one is among all of them
last_among : (s : State) (ts more : List State) → IsAmong (last_state s ts) (s ∷ (ts ++ more))
last_among s [] more = inl refl
last_among s (t ∷ ts) more = inr (last_among t ts more)

-- the texts of a state are among those of all
texts_among : (s : State) (ss : List State) → IsAmong s ss → Within (state_texts s) (flat_map state_texts ss)
texts_among s [] i = absurd i
texts_among s (t ∷ ts) (inl e) = subst (λ x. Within (state_texts x) (flat_map state_texts (t ∷ ts))) (sym e)
    (left (state_texts t) (flat_map state_texts ts))
texts_among s (t ∷ ts) (inr i) = λ x k.
    right (state_texts t) (flat_map state_texts ts) x (texts_among s ts i x k)

-- ---- the entry of a log that has a link

-- an entry stands in a log, with a number
record StandsAt (log : List Logged) (k : Logged) (at : ℕ) : Type 0 where
  before : List Logged
  rest : List Logged
  whole : log ≡ before ++ (k ∷ rest)
  number : span before + 1 + k.skipped ≡ at

module _ (all : List (List ℕ)) (unlike : NoCollision all) (k : Logged) (at : ℕ) (more : List Link)
    (fits : Fits entry_item (entry_value k.entry)) (within : Within (entry_texts k.entry) all) where
  -- the first entry after a number has the first link
  first_is : (n : ℕ) (back : List Logged) → EachLogged back → Within (logged_texts back) all
      → logged_links n back ≡ logged_link at k ∷ more
      → (rest : List Logged) × (back ≡ k ∷ rest) × (n + 1 + k.skipped ≡ at)
  first_is n [] each i h = absurd cc
  first_is n (e ∷ es) each i h =
      let head : logged_link (n + 1 + e.skipped) e ≡ logged_link at k = cc in
      let one : e ≡ k =
      one_logged all unlike (n + 1 + e.skipped) at e k each.0 fits
      (λ t m. i t (left (entry_texts e.entry) (logged_texts es) t m)) within head in (
        es,
        ap (λ x. x ∷ es) one,
        subst (λ (x : Logged). n + 1 + x.skipped ≡ at) one (ap (λ (x : Link). x.number) head),
      )

  -- an entry whose link is among those of a log stands there
  stands_at : (log : List Logged) (before : List Link) → EachLogged log → Within (logged_texts log) all
      → log_links log ≡ before ++ (logged_link at k ∷ more) → StandsAt log k at
  stands_at log before each i h =
      let a = parts.split 0 log before (logged_link at k ∷ more) h in
      let texts : Within (logged_texts a.back) all = λ t m.
      i t (subst (λ zs. Within (logged_texts a.back) (logged_texts zs)) (sym a.whole)
      (texts_back a.front a.back) t m) in
      let found = first_is (last_number 0 before) a.back
      (each_back a.front a.back (subst EachLogged a.whole each)) texts a.other in
      record {
        before = a.front;
        rest = found.0;
        whole = a.whole ∙ ap (λ zs. a.front ++ zs) found.1;
        number = omega (arith, found.2, a.count);
      }

-- ---- the state at a CHECK

-- At a CHECK of an honest log the digest is that of the state, which stays.
record IsAtCheck (ms : List Member) (t : State) (digest : List ℕ) (ps : List Placed) : Type 0 where
  same : digest ≡ state_digest t
  states : List State
  honest : Honest ms t ps states

at_check : (ms : List Member) (t : State) (number skipped : ℕ) (before digest : List ℕ) (ps : List Placed)
    (ts : List State)
    → Honest ms t (logged_place number before (record { skipped = skipped; entry = Check digest }) ∷ ps) ts
    → IsAtCheck ms t digest ps
at_check ms t number skipped before digest ps [] honest = absurd honest
at_check ms t number skipped before digest ps (u ∷ us) honest =
    record {
      same = honest.0.stands.same;
      states = us;
      honest = subst (λ x. Honest ms x ps us) honest.0.after honest.1;
    }

-- the first entries of a log have its version's numbers
numbers_first : (v : LogVersion) (xs ys : List Logged) → HasNumbers v (xs ++ ys) → HasNumbers v xs
numbers_first One xs ys h =
    (all_front (λ (l : Logged). l.skipped ≡ 0) xs ys h.0, omega (arith, h.1, span-append xs ys))
numbers_first Two xs ys h = omega (arith, h, span-append xs ys)

-- ---- bases

module _ (spelled : HonestStatesAreSpelled) (v : LogVersion) (ms : List Member) (m : Member) (low : m.node < 2 ^ 32)
    (log : List Logged) (is : IsLogOf v log) (states : List State)
    (honest : Honest ms (opening_of m) (logged_places 0 zeros log) states) (s : State) (skipped at : ℕ)
    (c : StandsAt log (record { skipped = skipped; entry = Check (state_digest s) }) at) where
  abbrev o : State
  o = opening_of m

  abbrev check : Logged
  check = record { skipped = skipped; entry = Check (state_digest s) }

  abbrev hash : List ℕ
  hash = last_hash zeros (log_links c.before)

  abbrev rest : List Placed
  rest = logged_places (0 + span c.before) hash (check ∷ c.rest)

  -- honest up to the CHECK, and from it on
  parted : Honest ms o (logged_places 0 zeros c.before ++ rest) states
  parted = subst (λ ps. Honest ms o ps states) (places_joined 0 zeros c.before (check ∷ c.rest))
      (subst (λ l. Honest ms o (logged_places 0 zeros l) states) c.whole honest)

  -- the log's state there
  abbrev t : State
  t = last_state o (split ms o (logged_places 0 zeros c.before) rest states parted).first

  abbrev after : List Placed
  after = logged_places (0 + span c.before + 1 + skipped)
      (hash_after hash (logged_link (0 + span c.before + 1 + skipped) check)) c.rest

  there : IsAtCheck ms t (state_digest s) after
  there = at_check ms t (0 + span c.before + 1 + skipped) skipped hash (state_digest s) after
      (split ms o (logged_places 0 zeros c.before) rest states parted).more
      (split ms o (logged_places 0 zeros c.before) rest states parted).rest

  -- it is among all states
  among : IsAmong t (o ∷ states)
  among =
      let p = split ms o (logged_places 0 zeros c.before) rest states parted in
      subst (λ ts. IsAmong t (o ∷ ts)) (sym p.whole) (last_among o p.first p.more)

  -- the log's state there has a spelling of each of its parts
  is_spelled : IsSpelled t
  is_spelled =
      let p = split ms o (logged_places 0 zeros c.before) rest states parted in
      spelled v ms m c.before t low
      (all_front (λ (l : Logged). Fits entry_item (entry_value l.entry)) c.before (check ∷ c.rest)
      (subst (AllByRecursion (λ (l : Logged). Fits entry_item (entry_value l.entry))) c.whole is.each))
      (all_front (λ (l : Logged). HasBytes l.entry) c.before (check ∷ c.rest)
      (subst (AllByRecursion (λ (l : Logged). HasBytes l.entry)) c.whole is.bytes))
      (numbers_first v c.before (check ∷ c.rest) (subst (HasNumbers v) c.whole is.numbers))
      (record { states = p.first; honest = p.honest; last = refl })

  -- so the log has reached the state of the digest at the CHECK
  reached : IsSpelled s → HasFew s → NoCollision (state_texts s ++ state_texts t) → Reached ms log at s
  reached own few unlike =
      let same : s ≡ t = tells s t own few is_spelled unlike there.same in
      let n = 0 + span c.before + 1 + skipped in
      let number : n ≡ at = omega (arith, c.number) in
      let end = last_hash zeros (log_links (c.before ++ check ∷ [])) in
      let joined : end ≡ hash_after hash (logged_link n check) = hash_joined 0 zeros c.before (check ∷ []) in
      record {
        before = c.before ++ check ∷ [];
        rest = c.rest;
        whole = c.whole ∙ sym (append_assoc c.before (check ∷ []) c.rest);
        count = omega (arith, span-append c.before (check ∷ []), c.number);
        states = there.states;
        honest = subst (λ x. Honest ms x (logged_places at end c.rest) there.states) (sym same)
            (subst (λ k. Honest ms t (logged_places k end c.rest) there.states) number
            (subst (λ h. Honest ms t (logged_places n h c.rest) there.states) (sym joined) there.honest));
      }

-- a CHECK of a state's digest has a text
check_fits : (s : State) → Fits entry_item (entry_value (Check (state_digest s)))
unfolding state_digest
check_fits s = (omega arith, refl, length-sha256 (digest_text s))

-- which is among those of the state
check_texts : (s : State) → Within (entry_texts (Check (state_digest s))) (state_texts s)
unfolding content
check_texts s t (inl e) = inr (inl e)
check_texts s t (inr i) = absurd i

-- what stands after the version of a base that has a text
begun_fits : (v : LogVersion) (b : BaseParts) → Fits base_item (base_by v b) → Fits (begun_item v) (begun_value v b)
begun_fits One b fits = fits.2
begun_fits Two b fits = fits.2

-- a good base of an honest log
module _ (spelled : HonestStatesAreSpelled) (ms : List Member) (log : List Logged) (b : BaseParts) (m : Member)
    (s : State) (is : IsLogOf b.log_version log)
    (fits : Fits (begun_item b.log_version) (begun_value b.log_version b)) (good : IsGoodBase ms b m s)
    (states : List State) (honest : Honest ms (opening_of m) (logged_places 0 zeros log) states)
    (i : IsAmong (number_in b.log_version b.showing.closing.word, b.showing.closing.hash) (log_pairs log))
    (unlike : NoCollision (texts_of log
    ++ (showing_texts b.showing ++ flat_map state_texts (s ∷ opening_of m ∷ states)))) where
  abbrev stated : List (List ℕ)
  stated = flat_map state_texts (s ∷ opening_of m ∷ states)

  abbrev beside : List (List ℕ)
  beside = showing_texts b.showing ++ stated

  abbrev all : List (List ℕ)
  all = texts_of log ++ beside

  stands : StandsInLog (log_links log) (b.showing.first - 1) b.showing.opening (links_in b.showing)
  stands =
      let shown : List (List ℕ) = showing_texts b.showing in
      showing_stands b.log_version ms log b.showing is fits.0 good.closed i
      (fewer (texts_of log ++ shown) all
      (both (texts_of log) shown all (left (texts_of log) beside)
      (λ t k. right (texts_of log) beside t (left shown stated t k))) unlike)

  -- the texts of the states
  of_states : Within stated all
  of_states t k = right (texts_of log) beside t (right (showing_texts b.showing) stated t k)

  abbrev skips : ℕ
  skips = good.state.check.skipped

  link : IsAround (check_link skips b.at s) (links_in b.showing)
  link = around (check_link skips b.at s) (links_in b.showing) good.state.check.link

  -- the CHECK is an entry of the log
  checked : StandsAt log (record { skipped = skips; entry = Check (state_digest s) }) b.at
  checked =
      let front : List Link = stands.front ++ link.before in
      let after : List Link = link.rest ++ stands.rest in
      let k = check_link skips b.at s in
      let whole : log_links log ≡ front ++ (k ∷ after) =
      stands.whole
      ∙ ap (λ ls. stands.front ++ (ls ++ stands.rest)) link.whole
      ∙ ap (λ ls. stands.front ++ ls) (append_assoc link.before (k ∷ link.rest) stands.rest)
      ∙ sym (append_assoc stands.front link.before (k ∷ after)) in
      stands_at all unlike (record { skipped = skips; entry = Check (state_digest s) }) b.at after (check_fits s)
      (λ t x. of_states t (texts_among s (s ∷ opening_of m ∷ states) (inl refl) t (check_texts s t x)))
      log front is.each
      (λ t x. left (texts_of log) beside t (right (chain_texts zeros (log_links log)) (logged_texts log) t x))
      whole

  node_low : m.node < 2 ^ 32
  node_low = omega (arith, member_node ms b.showing.node m good.is_member, fits.0.0)

  -- the log has reached the base's state
  pub base_reached : Reached ms log b.at s
  base_reached =
      let own = of_texts s b.state good.state.text in
      let v = b.log_version in
      let t = t spelled v ms m node_low log is states honest s skips b.at checked in
      let both_within : Within (state_texts s ++ state_texts t) all =
      both (state_texts s) (state_texts t) all
      (λ x k. of_states x (texts_among s (s ∷ opening_of m ∷ states) (inl refl) x k))
      (λ x k. of_states x (texts_among t (s ∷ opening_of m ∷ states)
      (inr (among spelled v ms m node_low log is states honest s skips b.at checked)) x k)) in
      reached spelled v ms m node_low log is states honest s skips b.at checked own.0 own.1
      (fewer (state_texts s ++ state_texts t) all both_within unlike)

  -- and what the base shows is the log's
  pub base_in_log : (number : ℕ) (mark : List ℕ) → Shows b.showing number mark
      → IsAmong (number, mark) (marks_of log)
  base_in_log = marks_in (log_links log) (b.showing.first - 1) b.showing.opening (links_in b.showing) stands

-- the same of a base that has a text
pub of_the_log : HonestStatesAreSpelled → BaseIsOfTheLog
of_the_log spelled ms log b m s last is fits good h i unlike =
    let text = begun_fits b.log_version b fits in (
      base_reached spelled ms log b m s is text good h.states h.honest i unlike,
      base_in_log spelled ms log b m s is text good h.states h.honest i unlike,
    )
