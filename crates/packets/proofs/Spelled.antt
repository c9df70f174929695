-- Bytes are read as a packet exactly where they spell it.
-- Serves: packets_are_read_as_spelled, packets_are_taken_as_meant.
use Rattle.std.proofs.Common.{◌≡◌, ◌==◌, ℕ, ◌<◌, Bool, true, false, cond, List, ◌++◌}
use Rattle.std.proofs.Common.{Ok, Err, Option, Some, None, refl, sym, ap, subst, ◌∙◌, eqb-true}
use Rattle.std.proofs.Common.{arith}
use Rattle.std.specs.Prelude.{◌↔◌, option_map, ◌^◌}
use Rattle.xdr.specs.Item.{Value, IsBytes, word, number_spelling}
use Rattle.xdr.specs.Reading.{Read, number_at}
use Rattle.xdr.proofs.Exact.{takes}
use Rattle.xdr.proofs.Front.{number_again}
use Rattle.xdr.specs.Texts.Text.{IsText, text_at}
use Rattle.xdr.proofs.OfTexts.WholeTexts.{is_text}
use Rattle.envelopes.specs.secure_log.authenticator.Signed.{authenticator_text, authenticator_value}
use Rattle.envelopes.specs.Envelope.{envelope_text, envelope_value}
use Rattle.envelopes.specs.Acknowledgement.{ack_text, ack_value}
use Rattle.envelopes.specs.secure_log.authenticator.declared.member.LogVersion.{LogVersion}
use Rattle.envelopes.specs.secure_log.authenticator.declared.member.LogVersion.TheVariants.{One, Two}
use Rattle.envelopes.specs.secure_log.Versioned.{versioned_item, versioned_text, versioned_value}
use Rattle.envelopes.specs.secure_log.declared.segment.TheConstants.{MAX_ENTRIES}
use Rattle.packets.specs.Values.{authenticator_said, envelope_said, segment_said}
use Rattle.packets.specs.Values.{ack_said}
use Rattle.packets.specs.Packet.{Delivery, Learn, SendChallenge, Answer, AckIn, answer_number, packet_number}
use Rattle.packets.specs.Packet.{IsContent}
use Rattle.packets.specs.Packet.{Says, content_at, after_number, delivery_of}
use Rattle.packets.proofs.Contents.{segment_back, segment_fits, segment_says}

-- ---- what is read is spelled

-- what is made of an option's value
mapped : {A B : Type 0} (f : A → B) (o : Option A) (b : B) → option_map f o ≡ Some b
    → (a : A) × ((o ≡ Some a) × (f a ≡ b))
mapped f None b e = absurd cc
mapped f (Some a) b e = (a, (refl, cc))

-- bytes with a number before them are a packet's content
record IsOf (n : ℕ) (text : List ℕ) (d : Delivery) : Type 0 where
  number : packet_number d ≡ n
  content : IsContent d text

read_is_of : (n : ℕ) (text : List ℕ) (d : Delivery) → IsBytes text → content_at n text ≡ Some d
    → IsOf n text d
read_is_of n text d bound e = first (n == 1) refl e
  where
    -- a segment of a log of a version
    answers : (v : LogVersion) (x : Value (versioned_item v MAX_ENTRIES))
        → text_at (versioned_text v MAX_ENTRIES) text ≡ Some x
        → IsOf (answer_number v) text (Answer (segment_said v x))
    answers v x e =
        let is = (is_text (versioned_text v MAX_ENTRIES) x text bound).0 e in
        let fits = segment_fits v x is.0 is.1 in
        record {
          number = refl;
          content = record {
            fits = fits;
            is = subst (λ (y : Value (versioned_item v MAX_ENTRIES)). IsText (versioned_text v MAX_ENTRIES) y text)
                (sym (segment_says v x is.0 is.1)) is;
          };
        }

    fifth : (b : Bool) → (n == 5) ≡ b
        → cond b (option_map (λ x. Answer (segment_said Two x)) (text_at (versioned_text Two MAX_ENTRIES) text)) None
        ≡ Some d → IsOf n text d
    fifth true h e =
        let m = mapped (λ x. Answer (segment_said Two x)) (text_at (versioned_text Two MAX_ENTRIES) text) d e in
        let five : 5 ≡ n = sym (eqb-true n 5 h) in
        subst (IsOf n text) m.1.1 (subst (λ k. IsOf k text (Answer (segment_said Two m.0))) five (answers Two m.0 m.1.0))
    fifth false h e = absurd cc

    fourth : (b : Bool) → (n == 4) ≡ b
        → cond b (option_map (λ v. AckIn (ack_said v)) (text_at ack_text text))
        (cond (n == 5) (option_map (λ x. Answer (segment_said Two x)) (text_at (versioned_text Two MAX_ENTRIES) text))
        None) ≡ Some d → IsOf n text d
    fourth true h e =
        let m = mapped (λ v. AckIn (ack_said v)) (text_at ack_text text) d e in
        let four : 4 ≡ n = sym (eqb-true n 4 h) in
        subst (IsOf n text) m.1.1 (record {
          number = four;
          content = (is_text ack_text m.0 text bound).0 m.1.0;
        })
    fourth false h e = fifth (n == 5) refl e

    third : (b : Bool) → (n == 3) ≡ b
        → cond b (option_map (λ x. Answer (segment_said One x)) (text_at (versioned_text One MAX_ENTRIES) text))
        (cond (n == 4) (option_map (λ v. AckIn (ack_said v)) (text_at ack_text text))
        (cond (n == 5) (option_map (λ x. Answer (segment_said Two x)) (text_at (versioned_text Two MAX_ENTRIES) text))
        None)) ≡ Some d → IsOf n text d
    third true h e =
        let m = mapped (λ x. Answer (segment_said One x)) (text_at (versioned_text One MAX_ENTRIES) text) d e in
        let three : 3 ≡ n = sym (eqb-true n 3 h) in
        subst (IsOf n text) m.1.1 (subst (λ k. IsOf k text (Answer (segment_said One m.0))) three (answers One m.0 m.1.0))
    third false h e = fourth (n == 4) refl e

    second : (b : Bool) → (n == 2) ≡ b
        → cond b (option_map (λ v. SendChallenge (envelope_said v)) (text_at envelope_text text))
        (cond (n == 3) (option_map (λ x. Answer (segment_said One x)) (text_at (versioned_text One MAX_ENTRIES) text))
        (cond (n == 4) (option_map (λ v. AckIn (ack_said v)) (text_at ack_text text))
        (cond (n == 5) (option_map (λ x. Answer (segment_said Two x)) (text_at (versioned_text Two MAX_ENTRIES) text))
        None))) ≡ Some d
        → IsOf n text d
    second true h e =
        let m = mapped (λ v. SendChallenge (envelope_said v)) (text_at envelope_text text) d e in
        let two : 2 ≡ n = sym (eqb-true n 2 h) in
        subst (IsOf n text) m.1.1 (record {
          number = two;
          content = (is_text envelope_text m.0 text bound).0 m.1.0;
        })
    second false h e = third (n == 3) refl e

    first : (b : Bool) → (n == 1) ≡ b
        → cond b (option_map (λ v. Learn (authenticator_said v)) (text_at authenticator_text text))
        (cond (n == 2) (option_map (λ v. SendChallenge (envelope_said v)) (text_at envelope_text text))
        (cond (n == 3) (option_map (λ x. Answer (segment_said One x)) (text_at (versioned_text One MAX_ENTRIES) text))
        (cond (n == 4) (option_map (λ v. AckIn (ack_said v)) (text_at ack_text text))
        (cond (n == 5) (option_map (λ x. Answer (segment_said Two x)) (text_at (versioned_text Two MAX_ENTRIES) text))
        None)))) ≡ Some d → IsOf n text d
    first true h e =
        let m = mapped (λ v. Learn (authenticator_said v)) (text_at authenticator_text text) d e in
        let one : 1 ≡ n = sym (eqb-true n 1 h) in
        subst (IsOf n text) m.1.1 (record {
          number = one;
          content = (is_text authenticator_text m.0 text bound).0 m.1.0;
        })
    first false h e = second (n == 2) refl e

-- what is read is said
read_is_said : (bytes : List ℕ) (d : Delivery) → IsBytes bytes → delivery_of bytes ≡ Some d → Says bytes d
unfolding delivery_of
read_is_said bytes d bound e = by_read (number_at 4 bytes) refl e
  where
    by_read : (r : Read ℕ) → number_at 4 bytes ≡ r → after_number r ≡ Some d → Says bytes d
    by_read (Err f) h e = absurd cc
    by_read (Ok x) h e =
        let t = takes word bytes x bound h in
        let is = read_is_of x.0 x.1 d t.0.rest_fits e in
        record {
          content = x.1;
          whole = subst (λ n. bytes ≡ number_spelling 4 n ++ x.1) (sym is.number) t.0.parts;
          is_content = is.content;
        }

-- ---- what is spelled is read

-- a segment's packet is read by its number
pub answer_read : (v : LogVersion) (text : List ℕ) (x : Value (versioned_item v MAX_ENTRIES))
    → text_at (versioned_text v MAX_ENTRIES) text ≡ Some x
    → content_at (answer_number v) text ≡ Some (Answer (segment_said v x))
answer_read One text x e = rw e refl
answer_read Two text x e = rw e refl

content_read : (d : Delivery) (text : List ℕ) → IsBytes text → IsContent d text
    → content_at (packet_number d) text ≡ Some d
content_read (Learn a) text bound is =
    rw ((is_text authenticator_text (authenticator_value a) text bound).1 is) refl
content_read (SendChallenge e) text bound is =
    rw ((is_text envelope_text (envelope_value e) text bound).1 is) refl
content_read (Answer s) text bound is =
    answer_read s.log_version text (versioned_value s.log_version s)
    ((is_text (versioned_text s.log_version MAX_ENTRIES) (versioned_value s.log_version s) text bound).1 is.is)
    ∙ ap (λ t. Some (Answer t)) (segment_back s is.fits)
content_read (AckIn a) text bound is = rw ((is_text ack_text (ack_value a) text bound).1 is) refl

small_answer : (v : LogVersion) → answer_number v < 256 ^ 4
small_answer One = omega arith
small_answer Two = omega arith

small : (d : Delivery) → packet_number d < 256 ^ 4
small (Learn a) = omega arith
small (SendChallenge e) = omega arith
small (Answer s) = small_answer s.log_version
small (AckIn a) = omega arith

-- what is said is read
said_is_read : (bytes : List ℕ) (d : Delivery) → IsBytes bytes → Says bytes d → delivery_of bytes ≡ Some d
unfolding delivery_of
said_is_read bytes d bound says =
    let e : number_at 4 bytes ≡ Ok (packet_number d, says.content) =
    ap (number_at 4) says.whole ∙ number_again 4 (packet_number d) says.content (small d) in
    let rest : IsBytes says.content =
    (takes word bytes (packet_number d, says.content) bound e).0.rest_fits in
    rw e (content_read d says.content rest says.is_content)

-- both at once
pub exact : (bytes : List ℕ) (d : Delivery) → IsBytes bytes → (delivery_of bytes ≡ Some d) ↔ Says bytes d
exact bytes d bound = (read_is_said bytes d bound, said_is_read bytes d bound)

-- bytes are one packet at most
pub one_delivery : (bytes : List ℕ) (c d : Delivery) → IsBytes bytes → Says bytes c → Says bytes d → c ≡ d
one_delivery bytes c d bound a b =
    let both : Some c ≡ Some d = sym (said_is_read bytes c bound a) ∙ said_is_read bytes d bound b in cc
