-- A log goes on soundly from a state that it has reached.
-- Serves: a_segment_after_a_reached_place_is_sound, accepted_evidence_proves.
use Rattle.std.proofs.Common.{◌≡◌, ℕ, ◌+◌, List, [], ◌∷◌, ◌++◌, refl, sym, ap, subst, ◌∙◌}
use Rattle.std.proofs.Common.{append_assoc, arith}
use Rattle.std.proofs.lemmas.Option.{same_Some}
use Rattle.replay_spec.specs.authenticator.Numbers.{number_in}
use Rattle.replay_spec.specs.authenticator.declared.member.Member.{Member}
use Rattle.replay_spec.specs.secure_log.LogEntries.Chain.{Logged, IsAmong, zeros, hash_after, last_hash}
use Rattle.replay_spec.specs.secure_log.LogEntries.Chain.{logged_link, logged_links, span}
use Rattle.replay_spec.specs.secure_log.Log.{log_pairs}
use Rattle.replay_spec.specs.secure_log.Versioned.{VersionedParts}
use Rattle.replay_spec.proofs.secure_log.OfLogEntries.Pairs.{at_place, hash_joined, same_spans, span-append}
use Rattle.replay_spec.proofs.secure_log.Places.{each_place}
use Rattle.replay_spec.specs.state_spec.State.{State}
use Rattle.replay_spec.specs.Placed.{Placed, logged_place, logged_places, places_from, places_in}
use Rattle.replay_spec.specs.Replay.{Honest, last_state, found, verdict_of}
use Rattle.replay_spec.proofs.Places.{places_joined}
use Rattle.replay_spec.proofs.Runs.{sound}
use Rattle.evidence_spec.specs.Proving.{log_links}
use Rattle.evidence_spec.specs.Laws.{Reached, IsNextIn, IsSoundIn}

-- ---- honest entries in two parts

-- the states after the first part, and those after the second
pub record IsSplit (ms : List Member) (s : State) (ps qs : List Placed) (ts : List State) : Type 0 where
  -- the states of the first part
  pub first : List State
  -- the first part is honest
  pub honest : Honest ms s ps first
  -- the states of the second part
  pub more : List State
  -- the second part is honest from the last state of the first
  pub rest : Honest ms (last_state s first) qs more
  -- they are all states
  pub whole : ts ≡ first ++ more

-- entries that are honest are so in two parts, the second after the last state of the first
pub split : (ms : List Member) (s : State) (ps qs : List Placed) (ts : List State) → Honest ms s (ps ++ qs) ts
    → IsSplit ms s ps qs ts
split ms s [] qs ts h = record { first = []; honest = tt; more = ts; rest = h; whole = refl }
split ms s (p ∷ ps) qs [] h = absurd h
split ms s (p ∷ ps) qs (t ∷ ts) h =
    let g = split ms t ps qs ts h.1 in
    record {
      first = t ∷ g.first;
      honest = (h.0, g.honest);
      more = g.more;
      rest = g.rest;
      whole = ap (λ us. t ∷ us) g.whole;
    }

-- ---- places and hashes

-- entries of a segment stand where they do in a log, after the number before its first
pub places_logged : (before : ℕ) (opening : List ℕ) (ls : List Logged)
    → places_from (before + 1) opening ls ≡ logged_places before opening ls
places_logged before opening [] = refl
places_logged before opening (l ∷ ls) =
    let n = before + 1 + l.skipped in
    ap (λ ps. logged_place n opening l ∷ ps) (places_logged n (hash_after opening (logged_link n l)) ls)

-- a log has one hash at each number
pub one_pair_at : (log : List Logged) (number : ℕ) (one other : List ℕ) → IsAmong (number, one) (log_pairs log)
    → IsAmong (number, other) (log_pairs log) → one ≡ other
one_pair_at log number one other i j =
    same_Some _ _ (sym ((each_place log number one).1 i) ∙ (each_place log number other).1 j)

-- ---- going on

module _ (ms : List Member) (log : List Logged) where
  -- an honest log has reached its opening state at 0
  pub reached_first : (o : State) (states : List State) → Honest ms o (logged_places 0 zeros log) states
      → Reached ms log 0 o
  reached_first o states honest =
      record { before = []; rest = log; whole = refl; count = refl; states = states; honest = honest }

  -- the hash of a place is the opening hash of a segment that follows
  opens : (number : ℕ) (state : State) (s : VersionedParts) (r : Reached ms log number state)
      → IsNextIn log number s → last_hash zeros (log_links r.before) ≡ s.opening
  opens number state s r next =
      let hash = last_hash zeros (log_links r.before) in
      let count : 0 + span r.before ≡ number = omega (arith, r.count) in
      let there : IsAmong (number, hash) (log_pairs log) =
      subst (λ l. IsAmong (number, hash) (log_pairs l)) (sym r.whole)
      (subst (λ n. IsAmong (n, hash) (log_pairs (r.before ++ r.rest))) count
      (at_place 0 zeros r.before r.rest)) in
      one_pair_at log number hash s.opening there next.opening

  -- a segment that follows on a place that is reached replays sound, and its last place is reached
  pub goes_on : (number : ℕ) (state : State) (s : VersionedParts) → Reached ms log number state
      → IsNextIn log number s → IsSoundIn ms log state s
  goes_on number state s r next =
      let es : List Logged = s.entries in
      let more : List Logged = next.part.rest in
      let same = same_spans r.before next.part.before r.rest (es ++ more) (sym r.whole ∙ next.part.whole)
      (omega (arith, r.count, next.part.place, next.first)) in
      let hash : last_hash zeros (log_links r.before) ≡ s.opening = opens number state s r next in
      let own : List Placed = logged_places number s.opening es in
      let end : List ℕ = last_hash s.opening (logged_links number es) in
      let honest : Honest ms state (logged_places number s.opening (es ++ more)) r.states =
      subst (λ l. Honest ms state (logged_places number s.opening l) r.states) same.1
      (subst (λ h. Honest ms state (logged_places number h r.rest) r.states) hash r.honest) in
      let parts = split ms state own (logged_places (number + span es) end more) r.states
      (subst (λ ps. Honest ms state ps r.states) (places_joined number s.opening es more) honest) in
      let places : places_in s ≡ own =
      ap (λ n. places_from n s.opening es) next.first ∙ places_logged number s.opening es in
      let count : 0 + span r.before ≡ number = omega (arith, r.count) in
      let behind : last_hash zeros (log_links (r.before ++ es)) ≡ end =
      hash_joined 0 zeros r.before es
      ∙ ap (λ n. last_hash (last_hash zeros (log_links r.before)) (logged_links n es)) count
      ∙ ap (λ h. last_hash h (logged_links number es)) hash in
      let far : number_in s.log_version s.closing.word ≡ number + span es =
      omega (arith, next.last, next.first) in
      let last : State = last_state state parts.first in
      record {
        after = last;
        found = found state own parts.first;
        sound = ap (verdict_of ms state) places ∙ sound ms state own parts.first parts.honest;
        reached = record {
          before = r.before ++ es;
          rest = more;
          whole = r.whole ∙ (ap (λ l. r.before ++ l) same.1 ∙ sym (append_assoc r.before es more));
          count = omega (arith, span-append r.before es, r.count, far);
          states = parts.more;
          honest = subst (λ n. Honest ms last
              (logged_places n (last_hash zeros (log_links (r.before ++ es))) more) parts.more) (sym far)
              (subst (λ h. Honest ms last
              (logged_places (number + span es) h more) parts.more) (sym behind) parts.rest);
        };
      }
