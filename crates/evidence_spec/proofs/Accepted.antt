-- Evidence that is accepted proves that a node has no honest log.
-- Serves: accepted_evidence_proves.
use Rattle.std.proofs.Common.{◌≡◌, ℕ, List, [], ◌∷◌, ◌++◌, Option, Some, None, inl, refl, sym}
use Rattle.std.proofs.Common.{ap, subst, ◌∙◌, ◌+◌, arith}
use Rattle.std.specs.Prelude.{◌-◌, IsTrue, IsSomeAnd, option_map}
use Rattle.std.specs.List.{AllByRecursion, flat_map}
use Rattle.xdr.specs.Item.{Fits, choice, optional}
use Rattle.replay_spec.specs.authenticator.declared.authenticator.Authenticator.{Authenticator}
use Rattle.replay_spec.specs.authenticator.declared.member.LogVersion.{LogVersion}
use Rattle.replay_spec.specs.authenticator.declared.member.LogVersion.TheVariants.{One, Two}
use Rattle.replay_spec.specs.authenticator.declared.member.Member.{Member}
use Rattle.replay_spec.specs.authenticator.Roster.{is_of_version, keeps_version, member_of, same_version}
use Rattle.replay_spec.specs.authenticator.Signed.{IsSignedBy, IsSignedIn}
use Rattle.replay_spec.proofs.authenticator.Members.{member_node}
use Rattle.replay_spec.specs.secure_log.LogEntries.Chain.{Link, Logged, NoCollision, IsAmong, zeros, marks}
use Rattle.replay_spec.specs.secure_log.LogEntries.Chain.{span}
use Rattle.replay_spec.specs.secure_log.Versioned.{VersionedParts, IsClosedIn, versioned_links}
use Rattle.replay_spec.specs.secure_log.Versioned.{versioned_value}
use Rattle.replay_spec.specs.secure_log.Log.{log_pairs}
use Rattle.replay_spec.specs.authenticator.Numbers.{number_in}
use Rattle.replay_spec.specs.Opening.{opening_of}
use Rattle.replay_spec.specs.StateLaws.{HonestStatesAreSpelled, state_texts}
use Rattle.evidence_spec.specs.Showing.{ShowingParts, IsClosedShowing, Shows, showing_item}
use Rattle.evidence_spec.specs.Showing.{showing_value}
use Rattle.evidence_spec.specs.Base.{BaseParts, begun_item, begun_value}
use Rattle.evidence_spec.specs.Evidence.{Charge, ForkParts, Fork, Replay, Based, charge_item, charge_value}
use Rattle.evidence_spec.specs.Evidence.{based_value, charge_version, is_charge, fork_charge, fork_item}
use Rattle.evidence_spec.specs.Evidence.{fork_value, replay_charge, replay_item, evidence_item}
use Rattle.evidence_spec.specs.Evidence.{AcceptsFork, AcceptsReplay, AcceptsBased, AcceptsCharge}
use Rattle.evidence_spec.specs.Laws.{Reached}
use Rattle.evidence_spec.specs.Proving.{IsLogOf, log_links, marks_of, texts_of, showing_texts, option_texts}
use Rattle.evidence_spec.specs.Proving.{versioned_texts}
use Rattle.evidence_spec.specs.Proving.{IsUnforgedIn, option_closings, Withstands, Proves}
use Rattle.replay_spec.proofs.secure_log.OfLogEntries.FewerTexts.{Within, fewer, left, right, both}
use Rattle.replay_spec.proofs.secure_log.OfLogEntries.Marks.{one_mark}
use Rattle.replay_spec.proofs.secure_log.OfLogEntries.Pairs.{last_number_is}
use Rattle.replay_spec.proofs.secure_log.Gaps.{closing_number, logged_after}
use Rattle.evidence_spec.proofs.Replayed.{first_entries, no_fault}
use Rattle.evidence_spec.proofs.Shown.{segment_is_part, segment_opens, showing_in_log}
use Rattle.evidence_spec.proofs.Reached.{goes_on}
use Rattle.evidence_spec.proofs.Based.{base_reached}

-- the mark of the number before some links is among theirs
mark_head : (n : ℕ) (h : List ℕ) (ls : List Link) → IsAmong (n, h) (marks n h ls)
mark_head n h [] = inl refl
mark_head n h (l ∷ ls) = inl refl

-- ---- replays

one_version : (v w : LogVersion) → IsTrue (same_version v w) → v ≡ w
one_version One One h = refl
one_version One Two h = absurd cc
one_version Two One h = absurd cc
one_version Two Two h = refl

-- the version of a member's log, where the roster gives its node a log of this one
version_is : (v : LogVersion) (ms : List Member) (node : ℕ) (m : Member) → member_of ms node ≡ Some m
    → IsTrue (keeps_version ms node v) → m.log_version ≡ v
version_is v ms node m there keeps =
    one_version m.log_version v (subst (λ o. IsTrue (is_of_version v o)) there keeps)

-- a replay that has a text does, by its version
replay_fits : (v : LogVersion) (s : VersionedParts) → Fits (choice is_charge charge_item) (replay_charge v s)
    → Fits (replay_item v) (versioned_value v s)
replay_fits One s fits = fits.2
replay_fits Two s fits = fits.2

-- no log of the member that signed it stands against a replay
replay_stands : (ms : List Member) (node : ℕ) (s : VersionedParts) (a : AcceptsReplay ms node s)
    → a.member.node ≡ node → a.member.log_version ≡ s.log_version
    → Fits (replay_item s.log_version) (versioned_value s.log_version s) → (log : List Logged)
    → Withstands ms a.member (Replay s) log → ⊥
replay_stands ms node s a same version fits log w =
    let unforged : IsUnforgedIn s.log_version ms a.member.node log s.closing =
    subst (λ v. IsUnforgedIn v ms a.member.node log s.closing) version w.unforged.0 in
    let first = first_entries ms log s (subst (λ v. IsLogOf v log) version w.is_log) fits a.closed
    (unforged (a.closed.ends.node ∙ a.of_node ∙ sym same) a.closed.signed)
    (w.no_collision (opening_of a.member) tt) a.first in
    no_fault ms (opening_of a.member) s log first.0 w.honest.states a.fault a.number a.first a.opening first.1
    w.honest.honest a.found

-- ---- replays from a base

-- a base and a segment that have a text each do, by the base's version
record BothFit (v : LogVersion) (b : BaseParts) (s : VersionedParts) : Type 0 where
  base : Fits (begun_item v) (begun_value v b)
  segment : Fits (replay_item v) (versioned_value v s)

based_fits : (v : LogVersion) (b : BaseParts) (s : VersionedParts)
    → Fits (choice is_charge charge_item) (5, based_value v b s) → BothFit v b s
based_fits One b s fits = record { base = fits.2.2.0; segment = fits.2.2.1 }
based_fits Two b s fits = record { base = fits.2.2.0; segment = fits.2.2.1 }

-- the closing's number of a segment that ends in it
closing_last : (ms : List Member) (s : VersionedParts) → IsClosedIn ms s
    → number_in s.log_version s.closing.word + 1 ≡ s.first + span s.entries
closing_last ms s closed = omega (
  arith,
  closing_number s.log_version (s.first - 1) (versioned_links s) s.closing.word closed.ends.skips
      closed.ends.last,
  last_number_is (s.first - 1) s.entries,
  closed.ends.first,
)

-- no log of the member that signed both stands against a replay from a base
based_stands : HonestStatesAreSpelled → (ms : List Member) (node : ℕ) (b : BaseParts) (s : VersionedParts)
    (a : AcceptsBased ms node b s)
    → a.member.node ≡ node → a.member.log_version ≡ b.log_version → BothFit b.log_version b s
    → (log : List Logged) → Withstands ms a.member (Based b s) log → ⊥
based_stands spelled ms node b s a same version fits log w =
    let v = b.log_version in
    let is : IsLogOf v log = subst (λ x. IsLogOf x log) version w.is_log in
    let unforged : (c : Authenticator) → IsUnforgedIn a.member.log_version ms a.member.node log c → c.node ≡ node
    → IsSignedIn ms c → IsAmong (number_in v c.word, c.hash) (log_pairs log) =
    λ c h of signed. subst (λ x. IsAmong (number_in x c.word, c.hash) (log_pairs log)) version
    (h (of ∙ sym same) signed) in
    let stated : List (List ℕ) =
    flat_map state_texts (a.state ∷ opening_of a.member ∷ w.honest.states) in
    let ls = texts_of log in
    let bs = showing_texts b.showing in
    let gs = versioned_texts s in
    let all = ls ++ ((bs ++ gs) ++ stated) in
    let unlike : NoCollision all = w.no_collision a.state a.good.state.text in
    let rest = (bs ++ gs) ++ stated in
    let reached : Reached ms log b.at a.state =
    base_reached spelled ms log b a.member a.state is fits.base a.good w.honest.states w.honest.honest
    (unforged b.showing.closing w.unforged.0 (a.good.closed.node ∙ a.base_node) a.good.closed.signed)
    (fewer (ls ++ (bs ++ stated)) all
    (both ls (bs ++ stated) all (left ls rest)
    (both bs stated all
    (λ t k. right ls rest t (left (bs ++ gs) stated t (left bs gs t k)))
    (λ t k. right ls rest t (right (bs ++ gs) stated t k)))) unlike) in
    let is' : IsLogOf s.log_version log = subst (λ x. IsLogOf x log) (sym a.version) is in
    let text : Fits (replay_item s.log_version) (versioned_value s.log_version s) =
    subst (λ x. Fits (replay_item x) (versioned_value x s)) (sym a.version) fits.segment in
    let pair : IsAmong (number_in s.log_version s.closing.word, s.closing.hash) (log_pairs log) =
    subst (λ x. IsAmong (number_in x s.closing.word, s.closing.hash) (log_pairs log)) (sym a.version)
    (unforged s.closing w.unforged.1.0 (a.closed.ends.node ∙ a.of_node) a.closed.signed) in
    let apart : NoCollision (ls ++ gs) =
    fewer (ls ++ gs) all
    (both ls gs all (left ls rest)
    (λ t k. right ls rest t (left (bs ++ gs) stated t (right bs gs t k)))) unlike in
    let opens : IsAmong (s.first - 1, s.opening) (log_pairs log) =
    segment_opens ms log s is' text a.closed pair apart in
    let sound = goes_on ms log b.at a.state s reached (record {
      first = a.first;
      last = closing_last ms s a.closed;
      part = segment_is_part ms log s is' text a.closed pair apart;
      opening = subst (λ n. IsAmong (n, s.opening) (log_pairs log)) (omega (arith, a.first)) opens;
    }) in
    let verdict = sound.sound in
    let found = a.found in
    cc

-- ---- forks

module _ (v : LogVersion) (ms : List Member) (member : Member) (node : ℕ) (same : member.node ≡ node)
    (log : List Logged) where
  -- what one showing of the node shows is the log's
  one_shown : (s : ShowingParts) → IsLogOf v log → Fits (showing_item v) (showing_value v s) → s.node ≡ node
      → IsClosedShowing v ms s
      → IsUnforgedIn v ms member.node log s.closing → NoCollision (texts_of log ++ showing_texts s)
      → (number : ℕ) (mark : List ℕ) → Shows s number mark → IsAmong (number, mark) (marks_of log)
  one_shown s is fits of closed unforged unlike =
      showing_in_log v ms log s is fits closed (unforged (closed.node ∙ of ∙ sym same) closed.signed) unlike

  fork_stands : (at : ℕ) (a : ShowingParts) (b : Option ShowingParts) → IsLogOf v log
      → Fits (showing_item v) (showing_value v a)
      → Fits (optional (showing_item v)) (option_map (showing_value v) b) → AcceptsFork v ms node at a b
      → AllByRecursion (IsUnforgedIn v ms member.node log) (a.closing ∷ option_closings b)
      → NoCollision (texts_of log ++ (showing_texts a ++ option_texts b)) → ⊥
  fork_stands at a None is fits fits' two unforged unlike =
      let ls = texts_of log in
      let as' = showing_texts a in
      let within : Within (ls ++ as') (ls ++ (as' ++ [])) =
      both ls as' (ls ++ (as' ++ [])) (left ls (as' ++ []))
      (λ t k. right ls (as' ++ []) t (left as' [] t k)) in
      let x = one_shown a is fits two.a_node two.closed unforged.0
      (fewer (ls ++ as') (ls ++ (as' ++ [])) within unlike) 0 two.hash two.shown in
      two.differs (one_mark 0 zeros (log_links log) 0 two.hash zeros (logged_after 0 log) x
      (mark_head 0 zeros (log_links log)))
  fork_stands at a (Some b) is fits fits' two unforged unlike =
      let ls = texts_of log in
      let as' = showing_texts a in
      let bs = showing_texts b in
      let all = ls ++ (as' ++ bs) in
      let of_a : Within (ls ++ as') all =
      both ls as' all (left ls (as' ++ bs)) (λ t k. right ls (as' ++ bs) t (left as' bs t k)) in
      let of_b : Within (ls ++ bs) all =
      both ls bs all (left ls (as' ++ bs)) (λ t k. right ls (as' ++ bs) t (right as' bs t k)) in
      let x = one_shown a is fits two.a_node two.a_closed unforged.0
      (fewer (ls ++ as') all of_a unlike) at two.one two.one_shown in
      let y = one_shown b is fits' two.b_node two.b_closed unforged.1.0
      (fewer (ls ++ bs) all of_b unlike) at two.other two.other_shown in
      two.differ (one_mark 0 zeros (log_links log) at two.one two.other (logged_after 0 log) x y)

-- ---- evidence

-- the member that signed
signer : (ms : List Member) (a : Authenticator) → IsSignedIn ms a
    → (m : Member) × (member_of ms a.node ≡ Some m)
signer ms a h = by (member_of ms a.node) refl h
  where
    by : (o : Option Member) → member_of ms a.node ≡ o → IsSomeAnd o (λ m. IsSignedBy m a)
        → (m : Member) × (member_of ms a.node ≡ Some m)
    by None e h = absurd h
    by (Some m) e h = (m, e)

-- of a closed showing of a node
shower : (v : LogVersion) (ms : List Member) (node : ℕ) (s : ShowingParts) → s.node ≡ node
    → IsClosedShowing v ms s → (m : Member) × (member_of ms node ≡ Some m)
shower v ms node s of closed =
    let there = signer ms s.closing closed.signed in
    (there.0, ap (member_of ms) (sym (closed.node ∙ of)) ∙ there.1)

forker : (v : LogVersion) (ms : List Member) (node at : ℕ) (a : ShowingParts) (b : Option ShowingParts)
    → AcceptsFork v ms node at a b → (m : Member) × (member_of ms node ≡ Some m)
forker v ms node at a None two = shower v ms node a two.a_node two.closed
forker v ms node at a (Some b) two = shower v ms node a two.a_node two.a_closed

-- a fork that has a text does, by its version
fork_fits : (v : LogVersion) (f : ForkParts) → Fits (choice is_charge charge_item) (fork_charge v f)
    → Fits (fork_item v) (fork_value v f)
fork_fits One f fits = fits.2
fork_fits Two f fits = fits.2

-- a charge that is accepted, and has a text, proves
pub accepted_proves : HonestStatesAreSpelled → (ms : List Member) (node : ℕ) (charge : Charge)
    → Fits evidence_item (node, charge_value charge) → IsTrue (keeps_version ms node (charge_version charge))
    → AcceptsCharge ms node charge → Proves ms (record { node = node; charge = charge })
accepted_proves spelled ms node (Fork f) fits keeps two =
    let v = f.log_version in
    let there = forker v ms node f.at f.a f.b two in
    let same = member_node ms node there.0 there.1 in
    let version = version_is v ms node there.0 there.1 keeps in
    let text = fork_fits v f fits.1 in
    record {
      member = there.0;
      is_member = there.1;
      none = λ log w.
          fork_stands v ms there.0 node same log f.at f.a f.b (subst (λ x. IsLogOf x log) version w.is_log)
          text.1.0 text.1.1 two
          (subst (λ x. AllByRecursion (IsUnforgedIn x ms there.0.node log) (f.a.closing ∷ option_closings f.b))
          version w.unforged)
          (w.no_collision (opening_of there.0) tt);
    }
accepted_proves spelled ms node (Replay s) fits keeps a =
    record {
      member = a.member;
      is_member = a.is_member;
      none = replay_stands ms node s a (member_node ms node a.member a.is_member)
          (version_is s.log_version ms node a.member a.is_member keeps) (replay_fits s.log_version s fits.1);
    }
accepted_proves spelled ms node (Based b s) fits keeps a =
    let there = ap (member_of ms) (sym a.base_node) ∙ a.good.is_member in
    record {
      member = a.member;
      is_member = there;
      none = based_stands spelled ms node b s a (member_node ms node a.member there)
          (version_is b.log_version ms node a.member there keeps) (based_fits b.log_version b s fits.1);
    }
