-- What is shown of entries has a text, and shows their links.
-- Serves: Showing::of_entries.
use Rattle.std.proofs.Common.{◌≡◌, ℕ, ◌+◌, ◌-◌, ◌<◌, ◌≤◌, ◌^◌, true, List, [], ◌∷◌, length, map, refl, ap, arith}
use Rattle.std.specs.List.{AllByRecursion}
use Rattle.std.proofs.lemmas.List.{length-map}
use Rattle.sha2.proofs.Facts256.{length-sha256}
use Rattle.xdr.specs.Item.{Fits, word_where}
use Rattle.authenticator.specs.declared.authenticator.Authenticator.{Authenticator}
use Rattle.authenticator.specs.declared.member.LogVersion.{LogVersion}
use Rattle.authenticator.specs.declared.member.LogVersion.TheVariants.{One, Two}
use Rattle.authenticator.specs.Signed.{authenticator_item, authenticator_value}
use Rattle.evidence_spec.specs.secure_log.declared.log_entries.entry.Entry.{Entry}
use Rattle.evidence_spec.specs.secure_log.declared.log_entries.entry.Entry.TheVariants.{Send, Recv, Ack, Clock}
use Rattle.evidence_spec.specs.secure_log.declared.log_entries.entry.Entry.TheVariants.{Check}
use Rattle.evidence_spec.specs.secure_log.declared.segment.TheConstants.{MAX_ENTRIES}
use Rattle.evidence_spec.specs.secure_log.LogEntries.Chain.{Link, Logged, logged_link, logged_links}
use Rattle.evidence_spec.specs.secure_log.LogEntries.Entry.{content, is_kind, kind_number}
use Rattle.evidence_spec.specs.secure_log.LogEntries.Words.{MaySkip}
use Rattle.evidence_spec.specs.Showing.{ShowingParts, link_item, link_value, links_follow, links_in, numbered}
use Rattle.evidence_spec.specs.Showing.{showing_value, shown_logged}
use Rattle.evidence_spec.proofs.Gaps.{length-shown}
use Rattle.evidence_showings.specs.Showings.{HasText}
use Rattle.evidence_showings.proofs.Words.{skips_follow}

kind_fits : (e : Entry) → Fits (word_where is_kind) (kind_number e)
kind_fits (Send to body) = (omega arith, refl)
kind_fits (Recv from seq prev body signature) = (omega arith, refl)
kind_fits (Ack to seq mine number prev signature) = (omega arith, refl)
kind_fits (Clock seconds microseconds) = (omega arith, refl)
kind_fits (Check digest) = (omega arith, refl)

links_fit : (before : ℕ) (ls : List Logged)
    → AllByRecursion (Fits (link_item One)) (map (link_value One) (numbered before (map shown_logged ls)))
links_fit before [] = tt
links_fit before (l ∷ ls) =
    ((kind_fits l.entry, length-sha256 (content l.entry)), links_fit (before + 1 + l.skipped) ls)

-- a showing of few entries has a text
pub entries_text : (node first : ℕ) (opening : List ℕ) (ls : List Logged) (closing : Authenticator)
    → node < 2 ^ 32 → first < 2 ^ 64 → length opening ≡ 32 → length ls ≤ MAX_ENTRIES
    → Fits authenticator_item (authenticator_value closing)
    → HasText (record {
      node = node;
      first = first;
      opening = opening;
      links = map shown_logged ls;
      closing = closing;
    })
entries_text node first opening ls closing word low hash few fits =
    let links = numbered (first - 1) (map shown_logged ls) in
    let count = length-map links (link_value One) in
    let shown = length-shown (first - 1) (map shown_logged ls) in
    let all = length-map ls shown_logged in (
      word,
      (
        low,
        (
          hash,
          ((omega (arith, count, shown, all, few), omega (arith, count, shown, all, few), links_fit (first - 1) ls), fits),
        ),
      ),
    )

-- its links are those of the entries
pub entries_links : (before : ℕ) (ls : List Logged) → numbered before (map shown_logged ls) ≡ logged_links before ls
entries_links before [] = refl
entries_links before (l ∷ ls) =
    let n = before + 1 + l.skipped in
    ap (λ (ks : List Link). logged_link n l ∷ ks) (entries_links n ls)

-- where it skips what a log of a version may, its words follow
pub entries_follow : (v : LogVersion) (s : ShowingParts) → AllByRecursion (MaySkip v) (links_in s)
    → links_follow v (showing_value v s) ≡ true
entries_follow One s skips = refl
entries_follow Two s skips = skips_follow (s.first - 1) s.links skips
