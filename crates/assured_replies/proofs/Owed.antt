-- A reply that was shown, in a log that was audited, stands there where it is owed.
-- Serves: audited_replies_are_owed.
use Rattle.std.proofs.Common.{◌≡◌, ℕ, ◌+◌, ◌^◌, ◌<◌, ◌≤◌, List, [], ◌∷◌, ◌++◌, length, inl, inr, Some, None, Option}
use Rattle.std.proofs.Common.{refl, sym, ap, subst, ◌∙◌, append_assoc, length-append, arith}
use Rattle.sha2.specs.Sha256.{sha256}
use Rattle.sha2.proofs.Facts256.{length-sha256}
use Rattle.xdr.specs.Item.{Fits}
use Rattle.authenticator.specs.Numbers.{word_of}
use Rattle.authenticator.specs.declared.member.Kind.{Kind}
use Rattle.authenticator.specs.declared.member.Kind.TheVariants as kinds
use Rattle.authenticator.specs.declared.member.Member.{Member}
use Rattle.secure_log.specs.LogEntries.Chain.{IsAmong, Link, Logged, NoCollision, chain_text, chain_texts}
use Rattle.secure_log.specs.LogEntries.Chain.{hash_after, last_hash, logged_link, logged_links, marks}
use Rattle.secure_log.specs.LogEntries.Chain.{entry_text, span}
use Rattle.secure_log.specs.LogEntries.Entry.{content, entry_item, entry_value, kind_number, send_content}
use Rattle.secure_log.specs.LogEntries.Messages.{message_hash}
use Rattle.secure_log.specs.declared.log_entries.entry.Entry.{Entry}
use Rattle.secure_log.specs.declared.log_entries.entry.Entry.TheVariants.{Send, Recv, Ack, Clock, Check}
use Rattle.secure_log.proofs.Gaps.{logged_after}
use Rattle.secure_log.proofs.OfLogEntries.FewerTexts.{Within, left, right}
use Rattle.secure_log.proofs.OfLogEntries.Pairs.{span-append}
use Rattle.envelopes.specs.Envelope.{envelope_item, envelope_shows, envelope_value}
use Rattle.envelopes.specs.declared.envelope.Envelope.{Envelope}
use Rattle.state_spec.specs.State.{State, Machine, Server, Client, Idle, Heard, Owes}
use Rattle.replay_spec.specs.Opening.{kind_of, opening_by}
use Rattle.replay_spec.specs.Placed.{Placed, logged_place, logged_places}
use Rattle.replay_spec.specs.Replay.{Honest, last_state}
use Rattle.replay_spec.specs.Steps.{MaySend, MayStand, OwesNothing}
use Rattle.replay_spec.proofs.Places.{places_joined}
use Rattle.evidence_spec.specs.Proving.{entry_texts}
use Rattle.evidence_spec.specs.Laws.{SameContent}
use Rattle.evidence_spec.proofs.Contents.{one_entry}
use Rattle.evidence_spec.proofs.Parts.{EachLogged, each_back, logged_texts, texts_back}
use Rattle.evidence_spec.proofs.Reached.{split}
use Rattle.witness_spec.specs.Starting.{KnownBase, IsBaseAt, start_hash, start_number, start_state}
use Rattle.witness_spec.specs.Watched.{Watched, IsInRoster}
use Rattle.witness_spec.specs.Steps.{Past}
use Rattle.witness_spec.specs.Standing.{audited, end_of, shown}
use Rattle.witness_laws.specs.Audits.{IsAuditedLog, IsShown}
use Rattle.witness_laws.proofs.OfEvidence.Marks.{has_mark, last_spans}
use Rattle.assured_replies.specs.Owed.{IsOwedIn, Start, start_of}
use Rattle.assured_replies.specs.Laws.{BeginsIdle, audited_texts, message_texts, sent_number}
use Rattle.assured_replies.proofs.Spelled.{one_kind}
use Rattle.assured_replies.proofs.Places.{EntryAt, entry_marked}
use Rattle.assured_replies.proofs.Trails.{At, HasRead, IsTrail, goes_on}

-- ---- chains

-- the hash after links has 32 bytes where the one before them has
pub hash_long : (opening : List ℕ) (links : List Link) → length opening ≡ 32
    → length (last_hash opening links) ≡ 32
unfolding hash_after
hash_long opening [] h = h
hash_long opening (l ∷ links) h = hash_long (hash_after opening l) links (length-sha256 (chain_text opening l))

-- the text that is hashed for an entry is one of its log's
pub text_there : (before : ℕ) (opening : List ℕ) (front : List Logged) (l : Logged) (rest : List Logged) (number : ℕ)
    → before + span front + 1 + l.skipped ≡ number
    → IsAmong (chain_text (last_hash opening (logged_links before front)) (logged_link number l))
    (chain_texts opening (logged_links before (front ++ l ∷ rest)))
text_there before opening [] l rest number place =
    let same : number ≡ before + 1 + l.skipped = omega (arith, place) in
    inl (ap (λ n. chain_text opening (logged_link n l)) same)
text_there before opening (x ∷ front) l rest number place =
    inr (text_there (before + 1 + x.skipped) (hash_after opening (logged_link (before + 1 + x.skipped) x)) front l
    rest number (omega (arith, place)))

-- the number of a kind has four bytes
pub kind_small : (e : Entry) → kind_number e < 2 ^ 32
kind_small (Send to body) = omega arith
kind_small (Recv from seq prev body signature) = omega arith
kind_small (Ack to seq mine number prev signature) = omega arith
kind_small (Clock seconds microseconds) = omega arith
kind_small (Check digest) = omega arith

-- ---- an entry that was shown

module _ (w : Watched) (past : Past) (a : IsAuditedLog w past) where
  abbrev all_logged : List Logged
  all_logged = audited w past

  abbrev n0 : ℕ
  n0 = start_number w.base

  abbrev h0 : List ℕ
  h0 = start_hash w.base

  -- a hash that was shown at a number that was audited is that of an entry there
  pub entry_shown : (number : ℕ) (hash : List ℕ) → n0 < number → number ≤ (end_of w past).number
      → 0 < length hash → IsAmong (number, hash) (shown w past) → EntryAt n0 h0 all_logged number hash
  entry_shown number hash low high long i =
      let links = logged_links n0 all_logged in
      let has = has_mark n0 h0 links number (logged_after n0 all_logged) (omega (arith, low))
      (omega (arith, high, last_spans n0 all_logged, a.count)) in
      entry_marked n0 h0 all_logged number hash low long
      (subst (λ x. IsAmong (number, x) (marks n0 h0 links)) (a.one number has.mark hash has.there i) has.there)

  -- what is before such an entry ends in a hash of 32 bytes
  pub opening_long : (number : ℕ) (hash : List ℕ) (en : EntryAt n0 h0 all_logged number hash)
      → length (last_hash h0 (logged_links n0 en.front)) ≡ 32
  opening_long number hash en =
      hash_long h0 (logged_links n0 en.front)
      (a.opened (omega (arith, ap length en.whole, length-append en.front (en.entry ∷ en.rest))))

  -- its text is one of the log's
  pub own_text : (number : ℕ) (hash : List ℕ) (en : EntryAt n0 h0 all_logged number hash)
      → IsAmong (chain_text (last_hash h0 (logged_links n0 en.front)) (logged_link number en.entry))
      (audited_texts w past)
  own_text number hash en =
      left (chain_texts h0 (logged_links n0 all_logged)) (logged_texts all_logged)
      (chain_text (last_hash h0 (logged_links n0 en.front)) (logged_link number en.entry))
      (subst (λ ls. IsAmong (chain_text (last_hash h0 (logged_links n0 en.front)) (logged_link number en.entry))
      (chain_texts h0 (logged_links n0 ls))) (sym en.whole)
      (text_there n0 h0 en.front en.entry en.rest number en.place))

  -- and so are those of its content
  pub own_contents : (number : ℕ) (hash : List ℕ) (en : EntryAt n0 h0 all_logged number hash)
      → Within (entry_texts en.entry.entry) (audited_texts w past)
  own_contents number hash en t i =
      right (chain_texts h0 (logged_links n0 all_logged)) (logged_texts all_logged) t
      (subst (λ ls. IsAmong t (logged_texts ls)) (sym en.whole)
      (texts_back en.front (en.entry ∷ en.rest) t
      (left (entry_texts en.entry.entry) (logged_texts en.rest) t i)))

  -- it has a text
  pub own_fits : (number : ℕ) (hash : List ℕ) (en : EntryAt n0 h0 all_logged number hash)
      → Fits entry_item (entry_value en.entry.entry)
  own_fits number hash en =
      (each_back en.front (en.entry ∷ en.rest) (subst EachLogged en.whole a.each)).0

  -- ---- the entry of a text that is hashed

  module _ (prev : List ℕ) (entry_word kind : ℕ) (digest : List ℕ) (long : length prev ≡ 32) (small : kind < 2 ^ 32)
      (whole : length digest ≡ 32) (all : List (List ℕ)) (unlike : NoCollision all)
      (own : Within (audited_texts w past) all) (told : IsAmong (entry_text prev entry_word kind digest) all)
      (number : ℕ) where
    -- one text is hashed for both
    same_text : (en : EntryAt n0 h0 all_logged number (sha256 (entry_text prev entry_word kind digest)))
        → entry_text prev entry_word kind digest
        ≡ chain_text (last_hash h0 (logged_links n0 en.front)) (logged_link number en.entry)
    unfolding hash_after
    same_text en =
        unlike (entry_text prev entry_word kind digest)
        (chain_text (last_hash h0 (logged_links n0 en.front)) (logged_link number en.entry))
        told (own _ (own_text number (sha256 (entry_text prev entry_word kind digest)) en)) en.is_hash

    -- it is of one kind, and of one content
    pub same_kind : (en : EntryAt n0 h0 all_logged number (sha256 (entry_text prev entry_word kind digest)))
        → (kind ≡ kind_number en.entry.entry) × (digest ≡ sha256 (content en.entry.entry))
    unfolding chain_text
    same_kind en =
        one_kind prev (last_hash h0 (logged_links n0 en.front)) entry_word (word_of en.entry.skipped number) kind
        (kind_number en.entry.entry) digest (sha256 (content en.entry.entry)) long
        (opening_long number (sha256 (entry_text prev entry_word kind digest)) en) small
        (kind_small en.entry.entry) whole (length-sha256 (content en.entry.entry)) (same_text en)

-- ---- how the server came to it

-- where an audit of a server begins, it owes nothing
start_trail : (start : Start) (m : Machine) → OwesNothing m → kind_of m ≡ kinds.Server → IsTrail start m []
start_trail start (Server w Idle) idle kind = tt
start_trail start (Server w (Heard from body)) idle kind = absurd idle
start_trail start (Server w (Owes to body)) idle kind = absurd idle
start_trail start (Client clock) idle kind = absurd cc

-- a log's beginning owes nothing
opens_idle : (k : Kind) (node : ℕ) → OwesNothing (opening_by k node).machine
opens_idle kinds.Server node = tt
opens_idle kinds.Client node = tt

opens_kind : (k : Kind) (node : ℕ) → kind_of (opening_by k node).machine ≡ k
opens_kind kinds.Server node = refl
opens_kind kinds.Client node = refl

-- nor does a base that is said to
begins_idle : (ms : List Member) (m : Member) (base : Option KnownBase) → BeginsIdle base
    → OwesNothing (start_state m base).machine
begins_idle ms m None idle = opens_idle m.kind m.node
begins_idle ms m (Some b) idle = idle

begins_server : (ms : List Member) (m : Member) (base : Option KnownBase) → IsBaseAt ms m base
    → m.kind ≡ kinds.Server → kind_of (start_state m base).machine ≡ kinds.Server
begins_server ms m None known kind = opens_kind m.kind m.node ∙ kind
begins_server ms m (Some b) known kind = known.good.of_member.kind ∙ kind

-- who sends owes it
sends : (start : Start) (m : Machine) (to : ℕ) (body : List ℕ) (log : List Logged) → IsTrail start m log
    → MaySend m to body → HasRead start to body log
sends start (Server w Idle) to body log trail may = absurd may
sends start (Server w (Heard from heard)) to body log trail may = absurd may
sends start (Server w (Owes whom reply)) to body log trail may =
    subst (λ n. HasRead start n body log) (sym may.0) (subst (λ b. HasRead start whom b log) (sym may.1) trail)
sends start (Client clock) to body log trail may = absurd trail

-- the first of honest entries may stand there
may_stand : (ms : List Member) (s : State) (p : Placed) (ps : List Placed) (ts : List State)
    → Honest ms s (p ∷ ps) ts → MayStand ms s p.entry
may_stand ms s p ps [] h = absurd h
may_stand ms s p ps (t ∷ ts) h = h.0.stands

-- the SEND of a reply in an honest log of a server comes after its call and the clock reading
module _ (start : Start) (idle : OwesNothing start.state.machine)
    (server : kind_of start.state.machine ≡ kinds.Server) (front : List Logged) (sent : Logged) (rest : List Logged)
    (states : List State)
    (honest : Honest start.roster start.state
    (logged_places start.number start.hash (front ++ sent ∷ rest)) states)
    (to : ℕ) (body : List ℕ) (is : Send to body ≡ sent.entry) where
  abbrev end : List ℕ
  end = last_hash start.hash (logged_links start.number front)

  at_first : At start [] start.state
  at_first = record {
    run = record { states = []; honest = tt; last = refl };
    trail = start_trail start start.state.machine idle server;
  }

  pub has_read : HasRead start to body front
  has_read =
      let parts = split start.roster start.state (logged_places start.number start.hash front)
      (logged_places (start.number + span front) end (sent ∷ rest)) states
      (subst (λ ps. Honest start.roster start.state ps states)
      (places_joined start.number start.hash front (sent ∷ rest)) honest) in
      let none : start.number ≡ start.number + 0 = omega arith in
      let at = goes_on start [] front start.state parts.first at_first
      (subst (λ n. Honest start.roster start.state (logged_places n start.hash front) parts.first) none
      parts.honest) in
      let s = last_state start.state parts.first in
      let may : MayStand start.roster s (Send to body) =
      subst (MayStand start.roster s) (sym is)
      (may_stand start.roster s
      (logged_place (start.number + span front + 1 + sent.skipped) end sent)
      (logged_places (start.number + span front + 1 + sent.skipped)
      (hash_after end (logged_link (start.number + span front + 1 + sent.skipped) sent)) rest) parts.more
      parts.rest) in
      sends start s.machine to body front at.trail may

  -- so it is answered there
  pub answered : (number : ℕ) → start.number + span front + 1 + sent.skipped ≡ number
      → (call : List ℕ) × IsOwedIn start (front ++ sent ∷ rest) number to call body
  answered number place =
      let r = has_read in
      let end_of_front : r.before ++ r.received ∷ r.read ∷ sent ∷ [] ≡ front ++ sent ∷ [] =
      sym (append_assoc r.before (r.received ∷ r.read ∷ []) (sent ∷ [])) ∙ ap (λ ls. ls ++ sent ∷ []) (sym r.whole) in (
        r.call,
        record {
          before = r.before;
          received = r.received;
          read = r.read;
          sent = sent;
          rest = rest;
          whole = ap (λ ls. ls ++ sent ∷ rest) r.whole
              ∙ append_assoc r.before (r.received ∷ r.read ∷ []) (sent ∷ rest);
          place = omega (arith, ap span end_of_front, span-append front (sent ∷ []), place);
          seq = r.seq;
          prev = r.prev;
          signature = r.signature;
          is_call = r.is_call;
          time = r.time;
          is_reading = r.is_reading;
          is_reply = sym is;
          world = r.world;
          leads = r.leads;
          owed = r.owed;
        },
      )

-- ---- the reply

-- a reply that was shown at a number that was audited is answered there
module _ (w : Watched) (past : Past) (member : IsInRoster w) (server : w.member.kind ≡ kinds.Server)
    (idle : BeginsIdle w.base) (a : IsAuditedLog w past) (e : Envelope)
    (fits : Fits envelope_item (envelope_value e)) (low : start_number w.base < sent_number w e)
    (high : sent_number w e ≤ (end_of w past).number) (there : IsShown w past (envelope_shows e))
    (all : List (List ℕ)) (unlike : NoCollision all) (own : Within (audited_texts w past) all)
    (told : Within (message_texts e) all) where
  abbrev digest : List ℕ
  digest = sha256 (send_content e.to (sha256 e.body))

  abbrev text : List ℕ
  text = entry_text e.prev e.seq 1 digest

  -- its text's digest is what was shown
  hash_is : message_hash e.to e.seq e.prev (sha256 e.body) ≡ sha256 text
  unfolding message_hash
  hash_is = refl

  shown_text : IsAmong (sent_number w e, sha256 text) (shown w past)
  shown_text = subst (λ x. IsAmong (sent_number w e, x) (shown w past)) hash_is there

  en : EntryAt (start_number w.base) (start_hash w.base) (audited w past) (sent_number w e) (sha256 text)
  en = entry_shown w past a (sent_number w e) (sha256 text) low high (omega (arith, length-sha256 text)) shown_text

  -- it is the SEND of that body
  same_content : SameContent (Send e.to e.body) en.entry.entry
  unfolding content
  same_content =
      let k = same_kind w past a e.prev e.seq 1 digest fits.1.1.1.0 (omega arith)
      (length-sha256 (send_content e.to (sha256 e.body))) all unlike own (told text (inl refl)) (sent_number w e) en in
      record { kind = k.0; digest = k.1 }

  is_sent : Send e.to e.body ≡ en.entry.entry
  is_sent =
      one_entry all unlike (Send e.to e.body) en.entry.entry (omega arith, refl, (fits.1.0, fits.1.1.1.1.0))
      (own_fits w past a (sent_number w e) (sha256 text) en) (λ t i. told t (inr i))
      (λ t i. own t (own_contents w past a (sent_number w e) (sha256 text) en t i)) same_content

  pub reply_answered : (call : List ℕ)
      × IsOwedIn (start_of w) (audited w past) (sent_number w e) e.to call e.body
  reply_answered =
      let number = sent_number w e in
      let honest : Honest w.roster (start_state w.member w.base)
      (logged_places (start_number w.base) (start_hash w.base) (en.front ++ en.entry ∷ en.rest)) a.states =
      subst (λ ls. Honest w.roster (start_state w.member w.base)
      (logged_places (start_number w.base) (start_hash w.base) ls) a.states) en.whole a.honest in
      let found = answered (start_of w) (begins_idle w.roster w.member w.base idle)
      (begins_server w.roster w.member w.base member.base server) en.front en.entry en.rest a.states honest e.to
      e.body is_sent number en.place in
      (found.0, subst (λ ls. IsOwedIn (start_of w) ls number e.to found.0 e.body) (sym en.whole) found.1)
