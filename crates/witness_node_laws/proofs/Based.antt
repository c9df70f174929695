-- The base that a node gives is good.
-- Serves: bases_of_nodes_are_good.
use Rattle.std.proofs.Common.{◌≡◌, ℕ, ◌+◌, ◌-◌, ◌≤◌, List, [], ◌∷◌, ◌++◌, map, inl, refl, sym, ap, subst, ◌∙◌, arith}
use Rattle.std.specs.List.{AllByRecursion}
use Rattle.authenticator.specs.declared.member.Member.{Member}
use Rattle.secure_log.specs.LogEntries.Chain.{IsAmong, Link, Logged, last_hash, logged_link}
use Rattle.secure_log.specs.LogEntries.Chain.{logged_links, marks, span, zeros}
use Rattle.secure_log.specs.LogEntries.Words.{ClosesAt, MaySkip}
use Rattle.secure_log.specs.Log.{log_hash}
use Rattle.secure_log.specs.Part.{PartOf}
use Rattle.secure_log.specs.Versioned.{IsClosedIn, VersionedParts}
use Rattle.secure_log.proofs.Gaps.{logged_after}
use Rattle.secure_log.proofs.OfLogEntries.Marks.{one_mark}
use Rattle.secure_log.proofs.OfLogEntries.Pairs.{last_number_is, links_joined}
use Rattle.state_spec.specs.State.{State}
use Rattle.node_logs.specs.Steps.LastChecks.{check_of}
use Rattle.node_logs.specs.Steps.Nodes.{NodeParts, KeepsCheck}
use Rattle.node_logs.specs.Bases.{base_with, begun_segment}
use Rattle.witness_laws.specs.evidence_spec.Base.{check_link}
use Rattle.witness_laws.specs.evidence_spec.Showing.{IsClosedShowing, numbered, shown_logged, versioned_showing}
use Rattle.witness_laws.proofs.evidence_spec.ShownMarks.{StandsInLog, marks_in}
use Rattle.witness_node_laws.specs.Laws.{BasesOfNodesAreGood}

-- ---- the links that are shown

-- they are those of the entries
shown_links : (before : ℕ) (ls : List Logged) → numbered before (map shown_logged ls) ≡ logged_links before ls
shown_links before [] = refl
shown_links before (l ∷ ls) =
    let n = before + 1 + l.skipped in
    ap (λ (ks : List Link). logged_link n l ∷ ks) (shown_links n ls)

-- a closed segment's links are a closed showing
closed_showing : (ms : List Member) (s : VersionedParts) → IsClosedIn ms s
    → IsClosedShowing s.log_version ms (versioned_showing s)
closed_showing ms s closed =
    let same = shown_links (s.first - 1) s.entries in
    record {
      first = closed.ends.first;
      skips = subst (λ ls. AllByRecursion (MaySkip s.log_version) ls) (sym same) closed.ends.skips;
      node = closed.ends.node;
      last = subst (λ ls. ClosesAt s.log_version (s.first - 1) ls s.closing.word) (sym same) closed.ends.last;
      hash = closed.ends.hash ∙ ap (last_hash s.opening) (sym same);
      signed = closed.signed;
    }

-- the first link is that of the CHECK
first_link : (before number skipped : ℕ) (s : State) (es more : List Logged) → es ≡ check_of skipped s ∷ more
    → before + 1 + skipped ≡ number → IsAmong (check_link skipped number s) (numbered before (map shown_logged es))
first_link before number skipped s es more is next =
    subst (λ x. IsAmong (check_link skipped number s) (numbered before (map shown_logged x))) (sym is)
    (inl (ap (λ k. check_link skipped k s) (sym next)))

-- ---- the marks that are shown

first_mark : (links : List Link) → IsAmong (0, zeros) (marks 0 zeros links)
first_mark [] = inl refl
first_mark (l ∷ ls) = inl refl

-- a part of a log shows no other hash than zeros before the first entry
zero_mark : (log : List Logged) (first last : ℕ) (es : List Logged) (p : PartOf log first last es) (mark : List ℕ)
    → IsAmong (0, mark) (marks (first - 1) (log_hash p.before) (numbered (first - 1) (map shown_logged es)))
    → mark ≡ zeros
zero_mark log first last es p mark among =
    let place = p.place in
    let before : 0 + span p.before ≡ first - 1 = omega (arith, place) in
    let stands : StandsInLog (logged_links 0 log) (first - 1) (log_hash p.before) (logged_links (first - 1) es) =
    record {
      front = logged_links 0 p.before;
      rest = logged_links (first - 1 + span es) p.rest;
      whole = ap (logged_links 0) p.whole ∙ links_joined 0 p.before (es ++ p.rest)
          ∙ ap (λ k. logged_links 0 p.before ++ logged_links k (es ++ p.rest)) before
          ∙ ap (λ ls. logged_links 0 p.before ++ ls) (links_joined (first - 1) es p.rest);
      is_number = last_number_is 0 p.before ∙ before;
      is_hash = refl;
    } in
    one_mark 0 zeros (logged_links 0 log) 0 mark zeros (logged_after 0 log)
    (marks_in (logged_links 0 log) (first - 1) (log_hash p.before) (logged_links (first - 1) es) stands 0 mark
    (subst (λ ls. IsAmong (0, mark) (marks (first - 1) (log_hash p.before) ls)) (shown_links (first - 1) es) among))
    (first_mark (logged_links 0 log))

-- ---- the base

-- What a node gives is good.
pub good : (n : NodeParts) → KeepsCheck n → n.signer.used ≤ 65_536 → BasesOfNodesAreGood n
good n keeps few ms m at bytes is listed gives =
    let p = gives.shows in
    let c = p.check in
    let h = keeps c p.kept in
    let s = begun_segment n p gives.closing in
    let place = p.of_log.part.place in
    let number = h.number in
    record {
      base = base_with c s gives.text.state;
      state = c.state;
      number = p.number;
      text = gives.text.text;
      good = record {
        is_member = is;
        closed = closed_showing ms s (gives.closed ms m is listed.key);
        state = record {
          zero = zero_mark n.entries c.first p.last p.entries p.of_log.part;
          check = record {
            skipped = c.number - c.first;
            link = first_link (c.first - 1) c.number (c.number - c.first) c.state p.entries p.of_log.more
                p.of_log.begins (omega (arith, place, number));
          };
          text = gives.text.of_state;
          node = h.of_node;
          few_received = omega (arith, h.few_received, few);
          few_sends = omega (arith, h.few_sends, few);
          sends = h.sends;
        };
        of_member = record { log_version = sym listed.key.version; kind = h.kind ∙ sym listed.kind };
      };
    }
