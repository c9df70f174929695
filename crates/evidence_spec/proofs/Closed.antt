-- A signed authenticator alone, and the links of a closed segment, are closed showings.
-- Serves: what_is_shown_is_closed.
use Rattle.std.proofs.Common.{◌≡◌, ℕ, ◌+◌, ◌-◌, ◌^◌, List, [], ◌∷◌, length, map, refl, sym, ap, ◌∙◌}
use Rattle.std.proofs.Common.{subst, arith}
use Rattle.std.specs.Prelude.{◌%◌, IsTrue}
use Rattle.std.proofs.lemmas.Bool.{lt-ltb}
use Rattle.std.specs.List.{AllByRecursion}
use Rattle.std.proofs.lemmas.List.{length-map}
use Rattle.sha2.proofs.Facts256.{length-sha256}
use Rattle.xdr.specs.Item.{Fits, word_where, array}
use Rattle.replay_spec.specs.authenticator.declared.authenticator.Authenticator.{Authenticator}
use Rattle.replay_spec.specs.authenticator.declared.member.LogVersion.{LogVersion}
use Rattle.replay_spec.specs.authenticator.declared.member.LogVersion.TheVariants.{One, Two}
use Rattle.replay_spec.specs.authenticator.declared.member.Member.{Member}
use Rattle.replay_spec.specs.authenticator.Numbers.{is_number, number_in, number_item}
use Rattle.replay_spec.specs.authenticator.Signed.{IsSignedIn, authenticator_item, authenticator_value}
use Rattle.replay_spec.specs.secure_log.declared.log_entries.entry.Entry.{Entry}
use Rattle.replay_spec.specs.secure_log.declared.log_entries.entry.Entry.TheVariants.{Send, Recv, Ack, Clock}
use Rattle.replay_spec.specs.secure_log.declared.log_entries.entry.Entry.TheVariants.{Check}
use Rattle.replay_spec.specs.secure_log.LogEntries.Entry.{is_kind, kind_number, content}
use Rattle.replay_spec.specs.secure_log.LogEntries.Chain.{Link, Logged, last_hash, logged_link, logged_links}
use Rattle.replay_spec.specs.secure_log.LogEntries.Chain.{marks}
use Rattle.replay_spec.specs.secure_log.LogEntries.Words.{ClosesAt, MaySkip}
use Rattle.replay_spec.specs.secure_log.declared.segment.TheConstants.{MAX_ENTRIES}
use Rattle.replay_spec.specs.secure_log.Versioned.{VersionedParts, FitsVersion, IsClosedIn, logged_item}
use Rattle.replay_spec.specs.secure_log.Versioned.{logged_value, logged_values, segment_marks}
use Rattle.replay_spec.specs.secure_log.Versioned.{start_number, versioned_links}
use Rattle.replay_spec.proofs.secure_log.Gaps.{length-logged_links}
use Rattle.replay_spec.proofs.secure_log.VersionedTexts.{length-values}
use Rattle.evidence_spec.specs.Showing.{numbered, link_item, link_value, links_in}
use Rattle.evidence_spec.specs.Showing.{authenticator_showing, shown_logged}
use Rattle.evidence_spec.specs.Showing.{start_item, start_value, versioned_showing}
use Rattle.evidence_spec.specs.Laws.{ShowsMarks}
use Rattle.evidence_spec.proofs.Shown.{next_fits}

-- ---- an authenticator

-- the number with which a showing of an authenticator begins fits
start_fits : (v : LogVersion) (w : ℕ) → IsTrue (is_number w)
    → Fits (start_item v) (start_value v (number_in v w + 1))
start_fits One w h = next_fits w h
start_fits Two w h = (omega arith, lt-ltb (w % 2 ^ 32 + 1 - 1) (2 ^ 64 - 1) (omega arith))

-- a signed authenticator, as a showing without links, shows its own pair
pub one_pair : (v : LogVersion) (ms : List Member) (a : Authenticator)
    → Fits authenticator_item (authenticator_value a) → IsSignedIn ms a
    → ShowsMarks v ms (authenticator_showing v a) ((number_in v a.word, a.hash) ∷ [])
one_pair v ms a fits signed =
    let back : number_in v a.word + 1 - 1 ≡ number_in v a.word = omega arith in
    record {
      closed = record {
        first = omega arith;
        skips = tt;
        node = refl;
        last = sym back;
        hash = refl;
        signed = signed;
      };
      text = (
        fits.0,
        (start_fits v a.word fits.1.0.1, (fits.1.1.0, ((omega arith, omega arith, tt), fits))),
      );
      is = ap (λ k. (k, a.hash) ∷ []) back;
    }

-- ---- a segment

kind_fits : (e : Entry) → Fits (word_where is_kind) (kind_number e)
kind_fits (Send to body) = (omega arith, refl)
kind_fits (Recv from seq prev body signature) = (omega arith, refl)
kind_fits (Ack to seq mine number prev signature) = (omega arith, refl)
kind_fits (Clock seconds microseconds) = (omega arith, refl)
kind_fits (Check digest) = (omega arith, refl)

-- the links shown are those of the entries
same_links : (before : ℕ) (ls : List Logged) → numbered before (map shown_logged ls) ≡ logged_links before ls
same_links before [] = refl
same_links before (l ∷ ls) =
    let n = before + 1 + l.skipped in
    ap (λ (ks : List Link). logged_link n l ∷ ks) (same_links n ls)

link_fits : (v : LogVersion) (n : ℕ) (l : Logged) → Fits (logged_item v) (logged_value v n l)
    → Fits (link_item v) (link_value v (logged_link n l))
link_fits One n l fits = (kind_fits l.entry, length-sha256 (content l.entry))
link_fits Two n l fits = (fits.0, (kind_fits l.entry, length-sha256 (content l.entry)))

links_fit : (v : LogVersion) (before : ℕ) (ls : List Logged)
    → AllByRecursion (Fits (logged_item v)) (logged_values v before ls)
    → AllByRecursion (Fits (link_item v)) (map (link_value v) (logged_links before ls))
links_fit v before [] fits = tt
links_fit v before (l ∷ ls) fits =
    let n = before + 1 + l.skipped in (link_fits v n l fits.0, links_fit v n ls fits.1)

begin_fits : (v : LogVersion) (first : ℕ) → Fits number_item (start_number v first)
    → Fits (start_item v) (start_value v first)
begin_fits One first fits = fits.0
begin_fits Two first fits = fits

-- a closed segment, as a showing without its entries, shows all its marks
pub own_marks : (ms : List Member) (s : VersionedParts) → FitsVersion MAX_ENTRIES s → IsClosedIn ms s
    → ShowsMarks s.log_version ms (versioned_showing s) (segment_marks s)
own_marks ms s fits closed =
    let v = s.log_version in
    let links = versioned_links s in
    let same : links_in (versioned_showing s) ≡ links = same_links (s.first - 1) s.entries in
    let count : length (map (link_value v) links) ≡ length (logged_values v (s.first - 1) s.entries) =
    length-map links (link_value v)
    ∙ length-logged_links (s.first - 1) s.entries
    ∙ sym (length-values v (s.first - 1) s.entries) in
    let few = fits.text.1.1.1.0 in
    let fit : Fits (array MAX_ENTRIES (link_item v)) (map (link_value v) links) = (
      omega (arith, count, few.0),
      omega (arith, count, few.1),
      links_fit v (s.first - 1) s.entries few.2,
    ) in
    record {
      closed = record {
        first = closed.ends.first;
        skips = subst (AllByRecursion (MaySkip v)) (sym same) closed.ends.skips;
        node = closed.ends.node;
        last = subst (λ ls. ClosesAt v (s.first - 1) ls s.closing.word) (sym same) closed.ends.last;
        hash = closed.ends.hash ∙ ap (last_hash s.opening) (sym same);
        signed = closed.signed;
      };
      text = (
        fits.text.0,
        (
          begin_fits v s.first fits.text.1.0,
          (
            fits.text.1.1.0,
            (
              subst (λ ls. Fits (array MAX_ENTRIES (link_item v)) (map (link_value v) ls)) (sym same) fit,
              fits.text.1.1.1.1,
            ),
          ),
        ),
      );
      is = ap (marks (s.first - 1) s.opening) same;
    }
