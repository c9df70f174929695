-- What a packet is taken for, from what a check of its content found.
-- Serves: read_packet by its four parts.
use Rattle.std.proofs.Common.{◌≡◌, ◌==◌, ◌-◌, ◌<◌, ℕ, Bool, true, false, List, [], ◌∷◌, Result, Ok, Err, Option, Some}
use Rattle.std.proofs.Common.{None, refl, ap, subst, ◌∙◌}
use Rattle.std.proofs.Common.{eqb-true, eq-eqb, inl, inr}
use Rattle.std.specs.Prelude.{◌&&◌, ◌⊎◌, not, is_some, IsSome, IsSomeAnd}
use Rattle.std.proofs.lemmas.Bool.{and_parts, and_from}
use Rattle.xdr.specs.declared.fault.XdrFault.{XdrFault}
use Rattle.xdr.specs.Reading.{number_at}
use Rattle.xdr.specs.Texts.Text.{text_at}
use Rattle.envelopes.specs.secure_log.authenticator.declared.member.LogVersion.{LogVersion}
use Rattle.envelopes.specs.secure_log.authenticator.declared.member.LogVersion.TheVariants.{One, Two}
use Rattle.envelopes.specs.secure_log.authenticator.Roster.{keeps_version, member_of}
use Rattle.envelopes.specs.secure_log.authenticator.Signed.{IsSignedBy, IsSignedIn}
use Rattle.envelopes.specs.secure_log.authenticator.Checking.{Checks}
use Rattle.envelopes.specs.secure_log.authenticator.declared.member.Member.{Member}
use Rattle.envelopes.specs.secure_log.authenticator.declared.authenticator.Authenticator.{Authenticator}
use Rattle.envelopes.specs.secure_log.authenticator.declared.refusal.Refusal.{Refusal}
use Rattle.envelopes.specs.secure_log.authenticator.declared.refusal.Refusal.TheVariants as refusal
use Rattle.envelopes.specs.Checking.{ChecksEnvelope, ChecksAck}
use Rattle.envelopes.specs.declared.envelope.Envelope.{Envelope}
use Rattle.envelopes.specs.declared.acknowledgement.Ack.{Ack}
use Rattle.envelopes.specs.secure_log.authenticator.Numbers.{number_in}
use Rattle.envelopes.specs.secure_log.LogEntries.Chain.{Link, last_hash}
use Rattle.envelopes.specs.secure_log.LogEntries.Words.{ClosesAt, last_word}
use Rattle.envelopes.specs.secure_log.Versioned.{VersionedParts, ClosedParts, Begins, EndsIn, FitsVersion}
use Rattle.envelopes.specs.secure_log.Versioned.{versioned_links, versioned_text, versioned_value}
use Rattle.envelopes.specs.secure_log.declared.segment.TheConstants.{MAX_ENTRIES}
use Rattle.envelopes.specs.secure_log.declared.fault.SegmentFault.{SegmentFault}
use Rattle.envelopes.specs.secure_log.declared.fault.SegmentFault.TheVariants as fault
use Rattle.envelopes.specs.secure_log.Checking.{ChecksSegment, IsVersioned}
use Rattle.packets.specs.Packet.{Delivery, Learn, SendChallenge, Answer, AckIn, answer_number, content_at}
use Rattle.packets.specs.Packet.{delivery_of, delivery_shows}
use Rattle.packets.specs.Values.{segment_said}
use Rattle.envelopes.specs.secure_log.authenticator.Signing.{is_signed_in, is_same}
use Rattle.packets.specs.Judging.{judged, closes_at, ends, may_be, is_member, is_of_members, judged_delivery}
use Rattle.packets.specs.Judging.{judged_option, Refuses, GivesDelivery}
use Rattle.envelopes.proofs.secure_log.authenticator.Signed.{is_false, of_signed_in, signed_by_member}
use Rattle.envelopes.proofs.secure_log.authenticator.Signed.{unsigned_by_member}
use Rattle.envelopes.proofs.secure_log.authenticator.Signed.{same_list, list_same}
use Rattle.packets.proofs.Contents.{first_in, segment_back, text_passes}
use Rattle.packets.proofs.Spelled.{answer_read}

-- ---- the four answers

-- what passes all tests is taken
pub taken : (ms : List Member) (d : Delivery) → may_be ms d ≡ true → is_of_members ms d ≡ true
    → is_signed_in ms (delivery_shows d) ≡ true → judged_delivery ms d ≡ Ok d
taken ms d may of signed = rw (may, of, signed) refl

-- what fails the last alone isn't signed
pub unsigned : (ms : List Member) (d : Delivery) → may_be ms d ≡ true → is_of_members ms d ≡ true
    → is_signed_in ms (delivery_shows d) ≡ false → judged_delivery ms d ≡ Err refusal.BadSignature
unsigned ms d may of signed = rw (may, of, signed) refl

-- what fails the second is of a stranger
pub of_strangers : (ms : List Member) (d : Delivery) → may_be ms d ≡ true → is_of_members ms d ≡ false
    → judged_delivery ms d ≡ Err refusal.UnknownNode
of_strangers ms d may of = rw (may, of) refl

-- what fails the first is garbage
pub cannot_be : (ms : List Member) (d : Delivery) → may_be ms d ≡ false
    → judged_delivery ms d ≡ Err refusal.Garbage
cannot_be ms d may = rw may refl

-- ---- members

known : (ms : List Member) (node : ℕ) (m : Member) → member_of ms node ≡ Some m → is_member ms node ≡ true
known ms node m e = rw e refl

unknown : (ms : List Member) (node : ℕ) → member_of ms node ≡ None → is_member ms node ≡ false
unknown ms node e = rw e refl

-- ---- an authenticator

-- what its check answers is what is owed to its packet
pub learned : {C : Type 0} (ms : List Member) (bytes : List ℕ) (value : C → Authenticator) (member : C
    → Member)
    (r : Result C Refusal) → Checks ms bytes value member r
    → GivesDelivery (judged_option ms (content_at 1 bytes)) (λ c. Learn (value c)) r
learned ms bytes value member (Ok c) h =
    let a : Authenticator = value c in
    rw h.0.text
    (taken ms (Learn a) refl (known ms a.node (member c) h.0.member)
    (signed_by_member ms a (member c) h.0.member h.1))
learned ms bytes value member (Err refusal.Garbage) h = rw h refl
learned ms bytes value member (Err refusal.UnknownNode) h =
    rw h.1.text (of_strangers ms (Learn h.0) refl (unknown ms h.0.node h.1.stranger))
learned ms bytes value member (Err refusal.BadSignature) h =
    let a : Authenticator = h.0 in
    let m : Member = h.1.0 in
    rw h.1.1.0.text
    (unsigned ms (Learn a) refl (known ms a.node m h.1.1.0.member)
    (unsigned_by_member ms a m h.1.1.0.member h.1.1.1))
learned ms bytes value member (Err refusal.NoMemory) h = tt

-- ---- an envelope

-- it may be exactly where it goes to another
pub between : (ms : List Member) (e : Envelope) → ¬ (e.from ≡ e.to) → may_be ms (SendChallenge e) ≡ true
between ms e two = ap not (is_false (e.from == e.to) (λ h. two (eqb-true e.from e.to h)))

to_itself : (ms : List Member) (e : Envelope) → e.from ≡ e.to → may_be ms (SendChallenge e) ≡ false
to_itself ms e same = ap not (eq-eqb e.from e.to same)

-- it is of members exactly where both are
of_two : (ms : List Member) (e : Envelope) (m : Member) → member_of ms e.from ≡ Some m
    → IsSome (member_of ms e.to)
    → is_of_members ms (SendChallenge e) ≡ true
of_two ms e m sender receiver = rw sender receiver

of_one : (ms : List Member) (e : Envelope) → (member_of ms e.from ≡ None) ⊎ (member_of ms e.to ≡ None)
    → is_of_members ms (SendChallenge e) ≡ false
of_one ms e (inl sender) = rw sender refl
of_one ms e (inr receiver) = rw receiver (no_second (is_member ms e.from))
  where
    no_second : (b : Bool) → (b && false) ≡ false
    no_second true = refl
    no_second false = refl

-- what its check answers is what is owed to its packet
pub challenged : {C : Type 0} (ms : List Member) (bytes : List ℕ) (value : C → Envelope) (member : C → Member)
    (r : Result C Refusal) → ChecksEnvelope ms bytes value member r
    → GivesDelivery (judged_option ms (content_at 2 bytes)) (λ c. SendChallenge (value c)) r
challenged ms bytes value member (Ok c) h =
    let e : Envelope = value c in
    let m : Member = member c in
    rw h.0.between.text
    (taken ms (SendChallenge e) (between ms e h.0.between.two) (of_two ms e m h.0.sender h.0.receiver)
    (signed_by_member ms (delivery_shows (SendChallenge e)) m h.0.sender h.1))
challenged ms bytes value member (Err refusal.Garbage) (inl none) = rw none refl
challenged ms bytes value member (Err refusal.Garbage) (inr same) =
    rw same.1.0 (cannot_be ms (SendChallenge same.0) (to_itself ms same.0 same.1.1))
challenged ms bytes value member (Err refusal.UnknownNode) h =
    rw h.1.0.text (of_strangers ms (SendChallenge h.0) (between ms h.0 h.1.0.two) (of_one ms h.0 h.1.1))
challenged ms bytes value member (Err refusal.BadSignature) h =
    let e : Envelope = h.0 in
    let m : Member = h.1.0 in
    let s = h.1.1.0 in
    rw s.between.text
    (unsigned ms (SendChallenge e) (between ms e s.between.two) (of_two ms e m s.sender s.receiver)
    (unsigned_by_member ms (delivery_shows (SendChallenge e)) m s.sender h.1.1.1))
challenged ms bytes value member (Err refusal.NoMemory) h = tt

-- ---- a segment

-- a word closes links exactly where the test says so
closes_of : (v : LogVersion) (before : ℕ) (ls : List Link) (closing : ℕ) → ClosesAt v before ls closing
    → closes_at v before ls closing ≡ true
closes_of v before [] closing h = eq-eqb (number_in v closing) before h
closes_of v before (l ∷ ls) closing h = eq-eqb closing (last_word l ls) h

of_closes : (v : LogVersion) (before : ℕ) (ls : List Link) (closing : ℕ)
    → closes_at v before ls closing ≡ true → ClosesAt v before ls closing
of_closes v before [] closing h = eqb-true (number_in v closing) before h
of_closes v before (l ∷ ls) closing h = eqb-true closing (last_word l ls) h

module _ (s : VersionedParts) where
  closed : Bool
  closed = closes_at s.log_version (s.first - 1) (versioned_links s) s.closing.word

  hashed : Bool
  hashed = is_same s.closing.hash (last_hash s.opening (versioned_links s))

  -- the test whether it ends in its closing is what that means
  pub ends_of : EndsIn s → ends s ≡ true
  unfolding closed hashed
  ends_of e =
      and_from (s.closing.node == s.node) (closed && hashed) (eq-eqb s.closing.node s.node e.node)
      (and_from closed hashed (closes_of s.log_version (s.first - 1) (versioned_links s) s.closing.word e.last)
      (list_same s.closing.hash (last_hash s.opening (versioned_links s)) e.hash))

  -- a segment that passes the tests of its end ends as its closing says, where it says no more than its text
  pub of_ends : FitsVersion MAX_ENTRIES s → 0 < s.first → ends s ≡ true → EndsIn s
  unfolding closed hashed
  of_ends fits first h =
      let one = and_parts (s.closing.node == s.node) (closed && hashed) h in
      let two = and_parts closed hashed one.1 in
      record {
        first = first;
        skips = fits.skips;
        node = eqb-true s.closing.node s.node one.0;
        last = of_closes s.log_version (s.first - 1) (versioned_links s) s.closing.word two.0;
        hash = same_list s.closing.hash (last_hash s.opening (versioned_links s)) two.1;
      }

-- it may be exactly where it ends so, and is of a log of the right version
pub may_end : (ms : List Member) (s : VersionedParts) → keeps_version ms s.node s.log_version ≡ true → EndsIn s
    → may_be ms (Answer s) ≡ true
may_end ms s version e = rw version (ends_of s e)

-- what its text delivers
segment_at : (ms : List Member) (v : LogVersion) (bytes : List ℕ) (s : VersionedParts) → IsVersioned v bytes s
    → judged_option ms (content_at (answer_number v) bytes) ≡ judged_delivery ms (Answer s)
segment_at ms v bytes s of =
    ap (judged_option ms) (answer_read v bytes (versioned_value v s) of.text)
    ∙ ap (λ (t : VersionedParts). judged_delivery ms (Answer t)) (said v s of.version of.fits)
  where
    said : (v : LogVersion) (s : VersionedParts) → s.log_version ≡ v → FitsVersion MAX_ENTRIES s
        → segment_said v (versioned_value v s) ≡ s
    said v s is fits = subst (λ (w : LogVersion). segment_said w (versioned_value w s) ≡ s) is (segment_back s fits)

-- the member that its closing names
closer : (ms : List Member) (s : VersionedParts) (o : Option Member) → EndsIn s → member_of ms s.node ≡ o
    → member_of ms s.closing.node ≡ o
closer ms s o e is = ap (member_of ms) e.node ∙ is

-- a member signed it, so it is of one
member_of_signed : (ms : List Member) (a : Authenticator) → IsSignedIn ms a → is_member ms a.node ≡ true
member_of_signed ms a h = by_member (member_of ms a.node) h
  where
    by_member : (o : Option Member) → IsSomeAnd o (λ m. IsSignedBy m a) → is_some o ≡ true
    by_member None h = absurd h
    by_member (Some m) h = refl

-- what its check gives is what is owed to its packet
pub given : (ms : List Member) (v : LogVersion) (bytes : List ℕ) (c : ClosedParts)
    → ChecksSegment v ms bytes (Ok c)
    → judged_option ms (content_at (answer_number v) bytes) ≡ Ok (Answer c.segment)
given ms v bytes c h =
    let s : VersionedParts = c.segment in
    segment_at ms v bytes s h.0
    ∙ taken ms (Answer s) (may_end ms s h.2.version h.2.ends) (member_of_signed ms s.closing h.2.signed)
    (of_signed_in ms s.closing h.2.signed)

-- the refusal that a fault of a segment is; the first two are no answers of a check
abbrev pub refusal_of : SegmentFault → Refusal
refusal_of fault.UnknownNode = refusal.UnknownNode
refusal_of fault.BadSignature = refusal.BadSignature
refusal_of fault.NoMemory = refusal.NoMemory
refusal_of fault.Garbage = refusal.Garbage
refusal_of fault.BrokenChain = refusal.Garbage
refusal_of fault.OutOfRange = refusal.Garbage
refusal_of fault.TooLong = refusal.Garbage

-- a segment that was read speaks of numbers from 1 on
read_first : (v : LogVersion) (bytes : List ℕ) (s : VersionedParts) → IsVersioned v bytes s → 0 < s.first
read_first v bytes s of =
    first_in v s (subst (λ w. Begins w s.first) of.version of.fits.begins)
    (text_passes (versioned_text v MAX_ENTRIES) bytes (versioned_value v s) of.text)

-- bytes that are no segment's text hold none
unread : (v : LogVersion) (bytes : List ℕ) → text_at (versioned_text v MAX_ENTRIES) bytes ≡ None
    → content_at (answer_number v) bytes ≡ None
unread One bytes none = rw none refl
unread Two bytes none = rw none refl

-- what its check refuses is refused to its packet
pub answered : (ms : List Member) (v : LogVersion) (bytes : List ℕ) (f : SegmentFault)
    → ChecksSegment v ms bytes (Err f)
    → Refuses (judged_option ms (content_at (answer_number v) bytes)) (refusal_of f)
answered ms v bytes fault.Garbage (inl none) = ap (judged_option ms) (unread v bytes none)
answered ms v bytes fault.Garbage (inr other) =
    segment_at ms v bytes other.0 other.1.0
    ∙ cannot_be ms (Answer other.0) (rw (ap (keeps_version ms other.0.node) other.1.0.version ∙ other.1.1) refl)
answered ms v bytes fault.BrokenChain h =
    let s : VersionedParts = h.0 in
    let ends_no = is_false (ends s) (λ e. h.1.1 (of_ends s h.1.0.0.fits (read_first v bytes s h.1.0.0) e)) in
    segment_at ms v bytes s h.1.0.0
    ∙ cannot_be ms (Answer s) (rw (ap (keeps_version ms s.node) h.1.0.0.version ∙ h.1.0.1, ends_no) refl)
answered ms v bytes fault.UnknownNode h =
    let s : VersionedParts = h.0 in
    segment_at ms v bytes s h.1.0.0
    ∙ of_strangers ms (Answer s) (may_end ms s (ap (keeps_version ms s.node) h.1.0.0.version ∙ h.1.0.1) h.1.1)
    (unknown ms s.closing.node (closer ms s None h.1.1 h.1.2))
answered ms v bytes fault.BadSignature h =
    let s : VersionedParts = h.0 in
    let m : Member = h.1.0 in
    let there : member_of ms s.closing.node ≡ Some m = closer ms s (Some m) h.1.1.1 h.1.1.2 in
    segment_at ms v bytes s h.1.1.0.0
    ∙ unsigned ms (Answer s) (may_end ms s (ap (keeps_version ms s.node) h.1.1.0.0.version ∙ h.1.1.0.1) h.1.1.1)
    (known ms s.closing.node m there)
    (unsigned_by_member ms s.closing m there h.1.1.3)
answered ms v bytes fault.NoMemory h = tt
answered ms v bytes fault.OutOfRange h = absurd h
answered ms v bytes fault.TooLong h = absurd h

-- ---- an acknowledgement

-- what its check answers is what is owed to its packet
pub acknowledged : {C : Type 0} (ms : List Member) (bytes : List ℕ) (value : C → Ack) (member : C → Member)
    (r : Result C Refusal) → ChecksAck ms bytes value member r
    → GivesDelivery (judged_option ms (content_at 4 bytes)) (λ c. AckIn (value c)) r
acknowledged ms bytes value member (Ok c) h =
    let a : Ack = value c in
    rw h.0
    (taken ms (AckIn a) refl (known ms a.by (member c) h.1)
    (signed_by_member ms (delivery_shows (AckIn a)) (member c) h.1 h.2))
acknowledged ms bytes value member (Err refusal.Garbage) h = rw h refl
acknowledged ms bytes value member (Err refusal.UnknownNode) h =
    rw h.1.0 (of_strangers ms (AckIn h.0) refl (unknown ms h.0.by h.1.1))
acknowledged ms bytes value member (Err refusal.BadSignature) h =
    let a : Ack = h.0 in
    let m : Member = h.1.0 in
    rw h.1.1.0
    (unsigned ms (AckIn a) refl (known ms a.by m h.1.1.1)
    (unsigned_by_member ms (delivery_shows (AckIn a)) m h.1.1.1 h.1.1.2))
acknowledged ms bytes value member (Err refusal.NoMemory) h = tt

-- ---- its number

-- a packet is judged by what stands after its number
pub behind : (ms : List Member) (bytes : List ℕ) (n : ℕ) (rest : List ℕ) → number_at 4 bytes ≡ Ok (n, rest)
    → judged ms bytes ≡ judged_option ms (content_at n rest)
unfolding judged delivery_of
behind ms bytes n rest e = rw e refl

-- bytes without a number are garbage
pub without_number : (ms : List Member) (bytes : List ℕ) (f : XdrFault) → number_at 4 bytes ≡ Err f
    → judged ms bytes ≡ Err refusal.Garbage
unfolding judged delivery_of
without_number ms bytes f e = rw e refl

-- what is owed to what stands after its number is owed to the packet
pub answers_after : {P : Type 0} (ms : List Member) (bytes : List ℕ) (n : ℕ) (rest : List ℕ) (delivery : P
    → Delivery)
    (r : Result P Refusal) → number_at 4 bytes ≡ Ok (n, rest)
    → GivesDelivery (judged_option ms (content_at n rest)) delivery r
    → GivesDelivery (judged ms bytes) delivery r
answers_after ms bytes n rest delivery r e h = rw (behind ms bytes n rest e) h
