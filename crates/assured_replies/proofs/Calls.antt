-- A reply with the number two after that of an acknowledgement answers the call that was acknowledged.
-- Serves: audited_replies_answer_their_calls.
use Rattle.std.proofs.Common.{◌≡◌, inl, inr, ℕ, ◌+◌, ◌^◌, ◌<◌, ◌≤◌, List, [], ◌∷◌, ◌++◌, length, refl, sym, ap, ap₂}
use Rattle.std.proofs.Common.{subst, ◌∙◌, append_assoc, arith}
use Rattle.std.proofs.lemmas.List.{append-nil}
use Rattle.sha2.specs.Sha256.{sha256}
use Rattle.sha2.proofs.Facts256.{length-sha256}
use Rattle.xdr.specs.Item.{Item, Value, Fits, word, fixed, pair, number_spelling, spelling}
use Rattle.xdr.proofs.Exact.{one_meaning}
use Rattle.xdr.proofs.Front.{length-number_spelling}
use Rattle.authenticator.specs.Numbers.{number_in}
use Rattle.secure_log.specs.LogEntries.Chain.{IsAmong, Logged, NoCollision, entry_text, span}
use Rattle.secure_log.specs.LogEntries.Entry.{content, entry_item, entry_value, kind_number, recv_content}
use Rattle.secure_log.specs.LogEntries.Messages.{receipt_hash}
use Rattle.secure_log.specs.LogEntries.Signatures.{signature_digest}
use Rattle.secure_log.specs.declared.log_entries.entry.Entry.TheVariants as entries
use Rattle.secure_log.proofs.OfLogEntries.FewerTexts.{Within}
use Rattle.secure_log.proofs.OfLogEntries.Pairs.{span-append}
use Rattle.envelopes.specs.Acknowledgement.{ack_item, ack_shows, ack_value}
use Rattle.envelopes.specs.declared.acknowledgement.Ack.{Ack}
use Rattle.envelopes.specs.declared.envelope.Envelope.{Envelope}
use Rattle.commitment.specs.Senders.LookUps.{FitsEnvelope}
use Rattle.evidence_spec.specs.Proving.{entry_texts}
use Rattle.witness_spec.specs.Starting.{start_hash, start_number}
use Rattle.witness_spec.specs.Watched.{Watched}
use Rattle.witness_spec.specs.Steps.{Past}
use Rattle.witness_spec.specs.Standing.{audited, end_of, shown}
use Rattle.witness_laws.specs.Audits.{IsAuditedLog, IsShown}
use Rattle.assured_replies.specs.Owed.{IsOwedIn, Start, start_of}
use Rattle.assured_replies.specs.Laws.{audited_texts, receipt_texts}
use Rattle.assured_replies.proofs.Places.{EntryAt}
use Rattle.assured_replies.proofs.Owed.{entry_shown, own_contents, own_fits, same_kind}

-- ---- two entries of a log

-- where two entries stand to each other, by what is before each
data Order (f g : List Logged) (x y : Logged) : Type 0 where
  Same : f ≡ g → x ≡ y → Order f g x y
  First : span f + 1 + x.skipped ≤ span g → Order f g x y
  Second : span g + 1 + y.skipped ≤ span f → Order f g x y

order_on : (u v : Logged) (f g : List Logged) (x y : Logged) → u ≡ v → Order f g x y
    → Order (u ∷ f) (v ∷ g) x y
order_on u v f g x y head (Same p q) = Same (ap₂ (λ l ls. l ∷ ls) head p) q
order_on u v f g x y head (First h) = First (omega (arith, h, ap (λ (l : Logged). l.skipped) head))
order_on u v f g x y head (Second h) = Second (omega (arith, h, ap (λ (l : Logged). l.skipped) head))

order : (f g : List Logged) (x y : Logged) (r s : List Logged) → f ++ x ∷ r ≡ g ++ y ∷ s → Order f g x y
order [] [] x y r s e = Same refl cc
order [] (v ∷ g) x y r s e =
    let head : x ≡ v = cc in First (omega (arith, ap (λ (l : Logged). l.skipped) head))
order (u ∷ f) [] x y r s e =
    let head : u ≡ y = cc in Second (omega (arith, ap (λ (l : Logged). l.skipped) head))
order (u ∷ f) (v ∷ g) x y r s e =
    let head : u ≡ v = cc in
    let tail : f ++ x ∷ r ≡ g ++ y ∷ s = cc in
    order_on u v f g x y head (order f g x y r s tail)

-- a RECV two numbers before the SEND of a reply is that of the call
module _ (start : Start) (log : List Logged) (number caller : ℕ) (call reply : List ℕ)
    (b : IsOwedIn start log number caller call reply) (g : List Logged) (y : Logged) (s : List Logged)
    (whole : log ≡ g ++ y ∷ s) (two : start.number + span g + 1 + y.skipped + 2 ≡ number)
    (kind : 2 ≡ kind_number y.entry) where
  one : List Logged
  one = b.before ++ b.received ∷ []

  by_one : b.before ++ b.received ∷ b.read ∷ b.sent ∷ b.rest ≡ one ++ b.read ∷ b.sent ∷ b.rest
  unfolding one
  by_one = sym (append_assoc b.before (b.received ∷ []) (b.read ∷ b.sent ∷ b.rest))

  span_one : span one ≡ span b.before + (1 + b.received.skipped)
  unfolding one
  span_one = omega (arith, span-append b.before (b.received ∷ []))

  by_two : one ++ b.read ∷ b.sent ∷ b.rest ≡ (one ++ b.read ∷ []) ++ b.sent ∷ b.rest
  by_two = sym (append_assoc one (b.read ∷ []) (b.sent ∷ b.rest))

  span_two : span (one ++ b.read ∷ []) ≡ span one + (1 + b.read.skipped)
  span_two = omega (arith, span-append one (b.read ∷ []))

  span_three : number ≡ start.number + span b.before + (3 + b.received.skipped + b.read.skipped + b.sent.skipped)
  span_three =
      omega (arith, b.place, span-append b.before (b.received ∷ b.read ∷ b.sent ∷ []))

  at_sent : span (one ++ b.read ∷ []) ≤ span g → Order (one ++ b.read ∷ []) g b.sent y → b.received ≡ y
  at_sent h (Same p q) =
      absurd (omega (arith, two, span_three, span_two, span_one, ap span p, ap (λ (l : Logged). l.skipped) q))
  at_sent h (First k) = absurd (omega (arith, k, two, span_three, span_two, span_one))
  at_sent h (Second k) = absurd (omega (arith, k, h))

  at_read : span one ≤ span g → Order one g b.read y → b.received ≡ y
  at_read h (Same p q) =
      absurd (omega (arith, kind, ap (λ (l : Logged). kind_number l.entry) q, ap kind_number b.is_reading))
  at_read h (First k) =
      at_sent (omega (arith, k, span_two))
      (order (one ++ b.read ∷ []) g b.sent y b.rest s (sym by_two ∙ sym by_one ∙ sym b.whole ∙ whole))
  at_read h (Second k) = absurd (omega (arith, k, h))

  at_received : Order b.before g b.received y → b.received ≡ y
  at_received (Same p q) = q
  at_received (First k) =
      at_read (omega (arith, k, span_one))
      (order one g b.read y (b.sent ∷ b.rest) s (sym by_one ∙ sym b.whole ∙ whole))
  at_received (Second k) = absurd (omega (arith, k, two, span_three))

  pub is_received : b.received ≡ y
  is_received =
      at_received (order b.before g b.received y (b.read ∷ b.sent ∷ b.rest) s (sym b.whole ∙ whole))

-- the number of a reply is past that of its call, and of the clock reading
pub late : (start : Start) (log : List Logged) (number caller : ℕ) (call reply : List ℕ)
    → IsOwedIn start log number caller call reply → start.number + 3 ≤ number
late start log number caller call reply b =
    omega (arith, b.place, span-append b.before (b.received ∷ b.read ∷ b.sent ∷ []))

-- ---- the content of a RECV

-- a content of a RECV, the word of its message as eight bytes
abbrev recv_seen : Item
recv_seen = pair word (pair (fixed 8) (pair (fixed 32) (pair (fixed 32) (fixed 32))))

abbrev recv_value : (from seq : ℕ) (prev body_digest signed : List ℕ) → Value recv_seen
recv_value from seq prev body_digest signed = (from, (number_spelling 8 seq, (prev, (body_digest, signed))))

spelled : (from seq : ℕ) (prev body_digest signed : List ℕ)
    → recv_content from seq prev body_digest signed ≡ spelling recv_seen (recv_value from seq prev body_digest signed)
spelled from seq prev body_digest signed = simp (append-nil, append_assoc)

-- it tells who sent the message, and the digest of its body
one_message : (f g s t : ℕ) (p q b c i j : List ℕ) → f < 2 ^ 32 → g < 2 ^ 32
    → length p ≡ 32 → length q ≡ 32 → length b ≡ 32 → length c ≡ 32 → length i ≡ 32 → length j ≡ 32
    → recv_content f s p b i ≡ recv_content g t q c j → (f ≡ g) × (b ≡ c)
one_message f g s t p q b c i j lf lg lp lq lb lc li lj e =
    let whole : spelling recv_seen (recv_value f s p b i) ++ [] ≡ spelling recv_seen (recv_value g t q c j) ++ [] =
    ap (λ x. x ++ []) (sym (spelled f s p b i) ∙ e ∙ spelled g t q c j) in
    let same : recv_value f s p b i ≡ recv_value g t q c j =
    (one_meaning recv_seen (recv_value f s p b i) (recv_value g t q c j) [] []
    (lf, (length-number_spelling 8 s, (lp, (lb, li)))) (lg, (length-number_spelling 8 t, (lq, (lc, lj)))) whole).0 in
    (ap (λ (x : Value recv_seen). x.0) same, ap (λ (x : Value recv_seen). x.1.1.1.0) same)

-- ---- the call

module _ (w : Watched) (past : Past) (a : IsAuditedLog w past) (number caller : ℕ) (call reply : List ℕ)
    (b : IsOwedIn (start_of w) (audited w past) number caller call reply) (c : Envelope) (k : Ack)
    (fits : Fits ack_item (ack_value k)) (of_call : FitsEnvelope k c) (there : IsShown w past (ack_shows k))
    (low : start_number w.base < number_in w.member.log_version k.number)
    (two : number ≡ number_in w.member.log_version k.number + 2)
    (high : number ≤ (end_of w past).number) (all : List (List ℕ)) (unlike : NoCollision all)
    (own : Within (audited_texts w past) all) (told : Within (receipt_texts k) all) (body : IsAmong c.body all) where
  abbrev its_number : ℕ
  its_number = number_in w.member.log_version k.number

  abbrev its_content : List ℕ
  its_content = recv_content k.from k.seq k.sender_prev k.body_hash k.signature_hash

  abbrev text : List ℕ
  text = entry_text k.prev k.number 2 (sha256 its_content)

  hash_is : receipt_hash k.from k.seq k.sender_prev k.body_hash k.signature_hash k.number k.prev ≡ sha256 text
  unfolding receipt_hash
  hash_is = refl

  shown_text : IsAmong (its_number, sha256 text) (shown w past)
  shown_text = subst (λ x. IsAmong (its_number, x) (shown w past)) hash_is there

  en : EntryAt (start_number w.base) (start_hash w.base) (audited w past) its_number (sha256 text)
  en = entry_shown w past a its_number (sha256 text) low (omega (arith, two, high)) (omega (arith, length-sha256 text))
      shown_text

  same : (2 ≡ kind_number en.entry.entry) × (sha256 its_content ≡ sha256 (content en.entry.entry))
  same = same_kind w past a k.prev k.number 2 (sha256 its_content) fits.1.1.0 (omega arith)
      (length-sha256 its_content) all unlike own (told text (inl refl)) its_number en

  -- it is the RECV of the call
  is_it : b.received ≡ en.entry
  is_it = is_received (start_of w) (audited w past) number caller call reply b en.front en.entry en.rest en.whole
      (omega (arith, en.place, two)) same.0

  entry_is : en.entry.entry ≡ entries.Recv caller b.seq b.prev call b.signature
  entry_is = ap (λ (l : Logged). l.entry) (sym is_it) ∙ b.is_call

  -- its texts are the log's
  own_entry : Within (entry_texts (entries.Recv caller b.seq b.prev call b.signature)) all
  own_entry t i =
      own t (own_contents w past a its_number (sha256 text) en t
      (subst (λ e. IsAmong t (entry_texts e)) (sym entry_is) i))

  entry_fits : Fits entry_item (entry_value (entries.Recv caller b.seq b.prev call b.signature))
  entry_fits =
      subst (λ e. Fits entry_item (entry_value e)) entry_is (own_fits w past a its_number (sha256 text) en)

  same_content : its_content ≡ content (entries.Recv caller b.seq b.prev call b.signature)
  same_content =
      unlike its_content (content (entries.Recv caller b.seq b.prev call b.signature))
      (told its_content (inr (inl refl))) (own_entry _ (inl refl)) (same.1 ∙ ap (λ e. sha256 (content e)) entry_is)

  message : (k.from ≡ caller) × (k.body_hash ≡ sha256 call)
  unfolding content signature_digest
  message =
      let f = entry_fits.2 in
      one_message k.from caller k.seq b.seq k.sender_prev b.prev k.body_hash (sha256 call) k.signature_hash
      (signature_digest b.signature) fits.1.1.1.0 f.0 fits.1.1.1.1.1.0 f.1.1.0 fits.1.1.1.1.1.1.0 (length-sha256 call)
      fits.1.1.1.1.1.1.1.0 (length-sha256 _) same_content

  pub is_call : (caller ≡ c.from) × (call ≡ c.body)
  is_call = (
    sym message.0 ∙ of_call.sender,
    unlike call c.body (own_entry call (inr (inl refl))) body (sym message.1 ∙ of_call.body),
  )
