-- What a node answers to a challenge is accepted where it was asked.
-- Serves: answers_of_nodes_are_accepted.
use Rattle.std.proofs.Common.{◌≡◌, ℕ, ◌+◌, ◌<◌, ◌≤◌, List, [], ◌∷◌, ◌++◌, length, Some, IsSomeAnd, sym, ap, subst, ◌∙◌, arith}
use Rattle.std.proofs.Common.{append_assoc}
use Rattle.xdr.specs.Item.{IsBytes}
use Rattle.authenticator.specs.Roster.{IsRoster, member_of}
use Rattle.authenticator.specs.Signed.{IsSignedBy}
use Rattle.secure_log.specs.Log.{IsOfPlace, LogParts, log_hash, log_pairs}
use Rattle.secure_log.specs.Part.{HasPlaces, IsPart, open_entries, open_links, with_closing}
use Rattle.secure_log.specs.Versioned.{Begins, EndsIn, FitsVersion, IsClosedIn, versioned_text, versioned_value}
use Rattle.secure_log.specs.declared.segment.TheConstants.{MAX_ENTRIES}
use Rattle.authenticator.specs.declared.authenticator.Authenticator.{Authenticator}
use Rattle.authenticator.specs.declared.member.LogVersion.{LogVersion}
use Rattle.authenticator.specs.declared.member.LogVersion.TheVariants.{One, Two}
use Rattle.secure_log.specs.LogEntries.Words.{MaySkip}
use Rattle.secure_log.specs.declared.open.OpenSegment.{OpenSegment}
use Rattle.secure_log.specs.LogEntries.Chain.{IsAmong, Logged, span, zeros}
use Rattle.secure_log.proofs.OfLogEntries.Pairs.{at_place, span-append}
use Rattle.secure_log.proofs.Parts.{closed_at_its_last, part_end}
use Rattle.secure_log.proofs.Places.{each_place}
use Rattle.std.specs.List.{AllByRecursion}
use Rattle.xdr.specs.Texts.Text.{IsText}
use Rattle.packets.specs.Laws.{JudgedAsMeant}
use Rattle.node_logs.specs.Steps.Nodes.{NodeParts, log_of}
use Rattle.node_logs.specs.Nodes.{IsMemberOf}
use Rattle.node_logs.specs.Challenges.{AnswersChallenge}
use Rattle.witness_laws.specs.witness_spec.Starting.{Beginning}
use Rattle.witness_laws.specs.witness_spec.Watched.{Watched, IsInRoster, IsWatchedFrom}
use Rattle.witness_laws.specs.witness_spec.Standing.{Wanted, stage_of}
use Rattle.witness_laws.specs.witness_spec.Histories.{History, own_of}
use Rattle.witness_laws.specs.witness_spec.Laws.{AnswersAreAccepted}
use Rattle.witness_node_laws.specs.Laws.{IsAcceptedAnswer}
use Rattle.witness_node_laws.proofs.Packets.{answer_packet}

-- a first number of at least 1 begins a segment of either version
begins : (v : LogVersion) (first : ℕ) → 0 < first → Begins v first
begins One first some = tt
begins Two first some = some

-- entries with numbers are some
some_entry : (log : List Logged) → 1 ≤ span log → 0 < length log
some_entry [] some = absurd (omega (arith, some))
some_entry (l ∷ log) some = omega arith

-- an authenticator closes a part of a log exactly where it is of the part's last entry
of_part : (log : LogParts) (first last : ℕ) (part : OpenSegment) (closing : Authenticator) → HasPlaces log first last
    → IsPart log first last part → AllByRecursion (MaySkip part.log_version) (open_links part)
    → (EndsIn (with_closing part closing) → IsOfPlace log last closing)
    × (IsOfPlace log last closing → EndsIn (with_closing part closing))
of_part log first last part closing places of_log skips =
    let p = of_log.part in
    let own = open_entries part in
    let order = places.order in
    let place = p.place in
    let count = p.count in
    let all = p.before ++ own in
    let whole : log.entries ≡ all ++ p.rest = p.whole ∙ sym (append_assoc p.before own p.rest) in
    let number : 0 + span all ≡ last = omega (arith, span-append p.before own, count) in
    let there : IsAmong (last, log_hash all) (log_pairs log.entries) =
    subst (λ n. IsAmong (n, log_hash all) (log_pairs log.entries)) number
    (subst (λ ls. IsAmong (0 + span all, log_hash all) (log_pairs ls)) (sym whole) (at_place 0 zeros all p.rest)) in
    closed_at_its_last log first last part of_log (some_entry own (omega (arith, order, place, count))) (log_hash all)
    ((each_place log.entries last (log_hash all)).1 there)
    (sym (part_end log.entries first last part.first part.opening own p of_log.number of_log.opening)) closing skips

-- The bytes that a node answers are those of a segment that is accepted.
pub answered : AnswersAreAccepted → JudgedAsMeant → (g : Beginning) (w : Watched) (history : History)
    (n : NodeParts) (first last : ℕ) (bytes : List ℕ) → IsRoster w.roster → IsInRoster w → IsWatchedFrom g w
    → w.member.node ≡ n.node → IsMemberOf n w.member → stage_of (own_of w history) ≡ Wanted first last
    → AnswersChallenge n first last bytes → IsBytes bytes → IsAcceptedAnswer g w history bytes
answered accepted meant g w history n first last bytes roster is from node key stage h bound =
    let part = h.answer.part in
    let closing = h.answer.closing in
    let s = with_closing part closing in
    let closed : IsClosedIn w.roster s =
    h.answer.closed w.roster w.member (ap (member_of w.roster) (sym node) ∙ is.is_member) key in
    let ends = closed.ends in
    let of_log = h.answer.of_log in
    let version : n.log_version ≡ part.log_version = sym of_log.version in
    let text = subst (λ v. IsText (versioned_text v MAX_ENTRIES) (versioned_value v s) bytes) version
    h.answer.text in
    let place : IsOfPlace (log_of n) last closing =
    (of_part (log_of n) first last part closing h.places of_log ends.skips).0 ends in
    let member : member_of w.roster closing.node ≡ Some w.member =
    ap (member_of w.roster) (place.node ∙ sym node) ∙ is.is_member in
    let signed : IsSignedBy w.member closing =
    subst (λ x. IsSomeAnd x (λ k. IsSignedBy k closing)) member closed.signed in
    let good =
    accepted g w history (log_of n) first last part closing roster is from (sym node) (sym key.version) stage
    (h.places, h.few, of_log) ends.skips place signed in
    let fits : FitsVersion MAX_ENTRIES s = record {
      text = text.0;
      skips = ends.skips;
      begins = begins part.log_version part.first ends.first;
    } in
    record {
      segment = s;
      version = sym version ∙ sym key.version;
      text = text;
      event = record { fits = fits; whole = text.1; closed = closed };
      accepted = good;
      packet = answer_packet meant g w history s bytes from bound fits text closed member good.its;
    }
