-- Showings and segments whose closing is a pair of a log show marks of that log alone.
-- Serves: what_is_shown_is_of_the_log, accepted_evidence_proves.
use Rattle.std.proofs.Common.{◌≡◌, ℕ, ◌+◌, ◌<◌, ◌^◌, List, [], ◌∷◌, ◌++◌, subst, arith}
use Rattle.std.specs.Prelude.{◌-◌, IsTrue}
use Rattle.std.proofs.lemmas.Bool.{ltb-true}
use Rattle.std.specs.List.{AllByRecursion, flat_map}
use Rattle.xdr.specs.Item.{Fits}
use Rattle.replay_spec.specs.authenticator.Numbers.{is_number, number_in}
use Rattle.replay_spec.specs.authenticator.declared.member.LogVersion.{LogVersion}
use Rattle.replay_spec.specs.authenticator.declared.member.LogVersion.TheVariants.{One, Two}
use Rattle.replay_spec.specs.authenticator.declared.member.Member.{Member}
use Rattle.replay_spec.specs.secure_log.LogEntries.Entry.{entry_item, entry_value}
use Rattle.replay_spec.specs.secure_log.LogEntries.Chain.{AreNumbered, IsChain, Logged, zeros, chain_texts}
use Rattle.replay_spec.specs.secure_log.LogEntries.Chain.{IsAmong, NoCollision, last_number}
use Rattle.replay_spec.specs.secure_log.Log.{log_pairs}
use Rattle.replay_spec.specs.secure_log.Versioned.{VersionedParts, IsClosedIn, logged_item, logged_value}
use Rattle.replay_spec.specs.secure_log.Versioned.{logged_values, segment_marks, versioned_links}
use Rattle.replay_spec.specs.secure_log.Versioned.{versioned_value}
use Rattle.replay_spec.proofs.secure_log.OfLogEntries.FewerTexts.{Within, fewer, left, right, both}
use Rattle.evidence_spec.specs.Showing.{ShowingParts, IsClosedShowing, Shows, links_in, showing_item}
use Rattle.evidence_spec.specs.Showing.{showing_value}
use Rattle.evidence_spec.specs.Evidence.{replay_item}
use Rattle.evidence_spec.specs.Proving.{IsLogOf, entry_texts, log_links, marks_of}
use Rattle.evidence_spec.specs.Proving.{showing_texts, texts_of, versioned_texts}
use Rattle.evidence_spec.specs.Laws.{IsPartOf}
use Rattle.evidence_spec.proofs.Chained.{zeros-length}
use Rattle.replay_spec.proofs.secure_log.Gaps.{closing_number, logged_after}
use Rattle.replay_spec.proofs.secure_log.OfLogEntries.Chains.{logged_are_links}
use Rattle.evidence_spec.proofs.Gaps.{log_are_links, shown_after, shown_are_links}
use Rattle.evidence_spec.proofs.Parts.{EachLogged, entries_in_log, logged_texts}
use Rattle.evidence_spec.proofs.ShownMarks.{StandsInLog, marks_in, opening_in, stands_in_log}

-- a number of a text has a next one in 64 bits
pub next_fits : (n : ℕ) → IsTrue (is_number n) → n + 1 < 2 ^ 64
next_fits n h = omega (arith, ltb-true _ _ h)

-- ---- showings

-- the links of a log are a chain of its version
pub log_chain_of : (v : LogVersion) (log : List Logged) → IsLogOf v log → IsChain v zeros (log_links log)
log_chain_of v log is = record { opened = zeros-length; each = log_are_links v log is.numbers }

-- a number in a word of a text is of 64 bits
pub number_low : (v : LogVersion) (w : ℕ) → IsTrue (is_number w) → number_in v w < 2 ^ 64
number_low One w h = omega (arith, next_fits w h)
number_low Two w h = omega arith

-- the links of a closed showing stand in the log, and what it shows is the log's, where its closing's pair is and
-- no two texts have one digest
module _ (v : LogVersion) (ms : List Member) (log : List Logged) (s : ShowingParts) where
  pub showing_stands : IsLogOf v log → Fits (showing_item v) (showing_value v s) → IsClosedShowing v ms s
      → IsAmong (number_in v s.closing.word, s.closing.hash) (log_pairs log)
      → NoCollision (texts_of log ++ showing_texts s)
      → StandsInLog (log_links log) (s.first - 1) s.opening (links_in s)
  showing_stands is fits closed i unlike =
      let links = links_in s in
      let whole = log_links log in
      let numbers : AreNumbered (s.first - 1) links = shown_after (s.first - 1) s.links in
      let last : number_in v s.closing.word ≡ last_number (s.first - 1) links =
      closing_number v (s.first - 1) links s.closing.word closed.skips closed.last in
      let low : last_number (s.first - 1) links < 2 ^ 64 =
      omega (arith, last, number_low v s.closing.word fits.1.1.1.1.1.0.1) in
      let chain : IsChain v s.opening links =
      record {
        opened = fits.1.1.0;
        each = shown_are_links v (s.first - 1) links numbers closed.skips low fits.1.1.1.0.2;
      } in
      let within : Within (chain_texts zeros whole ++ chain_texts s.opening links)
      (texts_of log ++ showing_texts s) =
      both (chain_texts zeros whole) (showing_texts s) (texts_of log ++ showing_texts s)
      (λ t k. left (texts_of log) (showing_texts s) t
      (left (chain_texts zeros whole) (flat_map (λ (l : Logged). entry_texts l.entry) log) t k))
      (right (texts_of log) (showing_texts s)) in
      stands_in_log v whole links (s.first - 1) s.opening (log_chain_of v log is) chain (logged_after 0 log) numbers
      (fewer (chain_texts zeros whole ++ chain_texts s.opening links)
      (texts_of log ++ showing_texts s) within unlike)
      (subst (λ h. IsAmong (last_number (s.first - 1) links, h) (log_pairs log)) closed.hash
      (subst (λ n. IsAmong (n, s.closing.hash) (log_pairs log)) last i))

  pub showing_in_log : IsLogOf v log → Fits (showing_item v) (showing_value v s) → IsClosedShowing v ms s
      → IsAmong (number_in v s.closing.word, s.closing.hash) (log_pairs log)
      → NoCollision (texts_of log ++ showing_texts s)
      → (number : ℕ) (mark : List ℕ) → Shows s number mark → IsAmong (number, mark) (marks_of log)
  showing_in_log is fits closed i unlike =
      marks_in (log_links log) (s.first - 1) s.opening (links_in s) (showing_stands is fits closed i unlike)

-- ---- segments

entry_fits : (v : LogVersion) (n : ℕ) (l : Logged) → Fits (logged_item v) (logged_value v n l)
    → Fits entry_item (entry_value l.entry)
entry_fits One n l fits = fits
entry_fits Two n l fits = fits.1

-- entries whose values each have a spelling each have a text
each_of_logged : (v : LogVersion) (before : ℕ) (ls : List Logged)
    → AllByRecursion (Fits (logged_item v)) (logged_values v before ls) → EachLogged ls
each_of_logged v before [] each = tt
each_of_logged v before (l ∷ ls) each =
    (entry_fits v (before + 1 + l.skipped) l each.0, each_of_logged v (before + 1 + l.skipped) ls each.1)

module _ (ms : List Member) (log : List Logged) (s : VersionedParts) (is : IsLogOf s.log_version log)
    (fits : Fits (replay_item s.log_version) (versioned_value s.log_version s)) (closed : IsClosedIn ms s)
    (i : IsAmong (number_in s.log_version s.closing.word, s.closing.hash) (log_pairs log))
    (unlike : NoCollision (texts_of log ++ versioned_texts s)) where
  abbrev all : List (List ℕ)
  all = texts_of log ++ versioned_texts s

  last : number_in s.log_version s.closing.word ≡ last_number (s.first - 1) (versioned_links s)
  last = closing_number s.log_version (s.first - 1) (versioned_links s) s.closing.word closed.ends.skips
      closed.ends.last

  chain : IsChain s.log_version s.opening (versioned_links s)
  chain = record {
    opened = fits.1.1.0;
    each = logged_are_links s.log_version (s.first - 1) s.entries closed.ends.skips
        (omega (arith, last, number_low s.log_version s.closing.word fits.1.1.1.1.1.0.1));
  }

  -- the texts of both chains
  abbrev log_chained : List (List ℕ)
  log_chained = chain_texts zeros (log_links log)

  abbrev chained : List (List ℕ)
  chained = chain_texts s.opening (versioned_links s)

  chains_within : Within (log_chained ++ chained) all
  chains_within =
      both log_chained chained all
      (λ t k. left (texts_of log) (versioned_texts s) t (left log_chained (logged_texts log) t k))
      (λ t k. right (texts_of log) (versioned_texts s) t (left chained (logged_texts s.entries) t k))

  stands : StandsInLog (log_links log) (s.first - 1) s.opening (versioned_links s)
  stands = stands_in_log s.log_version (log_links log) (versioned_links s) (s.first - 1) s.opening
      (log_chain_of s.log_version log is) chain (logged_after 0 log) (logged_after (s.first - 1) s.entries)
      (fewer (log_chained ++ chained) all chains_within unlike)
      (subst (λ h. IsAmong (last_number (s.first - 1) (versioned_links s), h) (log_pairs log)) closed.ends.hash
      (subst (λ n. IsAmong (n, s.closing.hash) (log_pairs log)) last i))

  -- the segment's marks are the log's
  pub segment_in_log : (number : ℕ) (mark : List ℕ) → IsAmong (number, mark) (segment_marks s)
      → IsAmong (number, mark) (marks_of log)
  segment_in_log number mark shown =
      marks_in (log_links log) (s.first - 1) s.opening (versioned_links s) stands number mark shown

  -- so is the pair before its first number
  pub segment_opens : IsAmong (s.first - 1, s.opening) (log_pairs log)
  segment_opens = opening_in (log_links log) (s.first - 1) s.opening (versioned_links s) stands

  -- and its entries are those of the log at its places
  pub segment_is_part : IsPartOf log s
  segment_is_part =
      let found = entries_in_log all unlike log s.entries (s.first - 1) stands.front stands.rest is.each
      (each_of_logged s.log_version (s.first - 1) s.entries fits.1.1.1.0.2)
      (λ t k. left (texts_of log) (versioned_texts s) t (right log_chained (logged_texts log) t k))
      (λ t k. right (texts_of log) (versioned_texts s) t (right chained (logged_texts s.entries) t k))
      stands.whole stands.is_number in
      record {
        before = found.before;
        rest = found.rest;
        whole = found.whole;
        place = omega (arith, found.place, closed.ends.first);
      }
