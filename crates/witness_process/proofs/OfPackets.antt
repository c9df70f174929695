-- Whose book a packet is for, by its first words.
-- Serves: brought_by, node_brought, is_below_base.
use Rattle.std.proofs.Common.{◌≡◌, ℕ, ◌<◌, ◌==◌, ◌&&◌, Bool, true, false, List, ◌++◌, Ok, Err, Option, Some, None}
use Rattle.std.proofs.Common.{Result, refl, sym, ap, subst, ◌∙◌, arith, eqb-true}
use Rattle.std.specs.Prelude.{◌^◌, if◌then◌else◌}
use Rattle.xdr.specs.Item.{IsBytes, number_spelling}
use Rattle.xdr.specs.Reading.{Read, number_at}
use Rattle.xdr.specs.declared.fault.XdrFault.{XdrFault}
use Rattle.xdr.proofs.Front.{number_again, ok_is}
use Rattle.authenticator.specs.Roster.{keeps_version, member_of}
use Rattle.authenticator.specs.Signing.{is_signed_in}
use Rattle.authenticator.specs.declared.member.Member.{Member}
use Rattle.authenticator.specs.declared.refusal.Refusal as checks
use Rattle.authenticator.proofs.Members.{member_node}
use Rattle.packets.specs.Packet.{Delivery, Learn, SendChallenge, Answer, AckIn, Says, delivery_of}
use Rattle.packets.specs.Packet.{IsContent, answer_number, delivery_shows, packet_number}
use Rattle.authenticator.specs.declared.member.LogVersion.{LogVersion}
use Rattle.authenticator.specs.declared.member.LogVersion.TheVariants.{One, Two}
use Rattle.envelopes.specs.declared.envelope.Envelope.{Envelope}
use Rattle.packets.specs.Judging.{ends, is_of_members, judged, judged_option, may_be}
use Rattle.packets.proofs.Spelled.{exact}
use Rattle.witness_books.specs.node_book.witness_spec.Events as events
use Rattle.witness_books.specs.node_book.witness_spec.Refusals.{Refusal, UnknownNode}
use Rattle.witness_books.specs.node_book.witness_spec.Steps.{OwnStep, Step}
use Rattle.witness_books.specs.node_book.witness_spec.Steps as steps
use Rattle.witness_books.specs.node_book.witness_spec.Whose.{delivered_step, judged_step, step_of, whose}
use Rattle.witness_process.specs.Brought.{named_node}

judged_is : (ms : List Member) (packet : List ℕ) → judged_option ms (delivery_of packet) ≡ judged ms packet
unfolding judged
judged_is ms packet = refl

-- what is taken was read, and may be
taken : (ms : List Member) (o : Option Delivery) (d : Delivery) → judged_option ms o ≡ Ok d
    → (o ≡ Some d) × (may_be ms d ≡ true)
taken ms None d e = absurd cc
taken ms (Some x) d e = by (may_be ms x) refl e
  where
    signed : (b : Bool) → (if b then Ok x else Err checks.TheVariants.BadSignature) ≡ Ok d → x ≡ d
    signed true h = cc
    signed false h = absurd cc

    members : (b : Bool)
        → (if b then (if is_signed_in ms (delivery_shows x) then Ok x else Err checks.TheVariants.BadSignature)
        else Err checks.TheVariants.UnknownNode) ≡ Ok d → x ≡ d
    members true h = signed (is_signed_in ms (delivery_shows x)) h
    members false h = absurd cc

    by : (b : Bool) → may_be ms x ≡ b
        → (if b then (if is_of_members ms x
        then (if is_signed_in ms (delivery_shows x) then Ok x else Err checks.TheVariants.BadSignature)
        else Err checks.TheVariants.UnknownNode) else Err checks.TheVariants.Garbage) ≡ Ok d
        → (Some x ≡ Some d) × (may_be ms d ≡ true)
    by true may h =
        let same = members (is_of_members ms x) h in
        (ap (λ y. Some y) same, subst (λ y. may_be ms y ≡ true) same may)
    by false may h = absurd cc

ok_same : (x y : OwnStep) → ◌≡◌ {A = Result OwnStep Refusal} (Ok x) (Ok y) → x ≡ y
ok_same x y h = cc

-- a step of a node is that of the member with its number
step_node : (ms : List Member) (node : ℕ) (step : Step) (own : OwnStep)
    → step_of (member_of ms node) step ≡ Ok own → own.member.node ≡ node
step_node ms node step own e = by (member_of ms node) refl e
  where
    by : (o : Option Member) → member_of ms node ≡ o → step_of o step ≡ Ok own → own.member.node ≡ node
    by None is h = absurd cc
    by (Some m) is h = ap (λ (x : OwnStep). x.member.node) (sym (ok_same (record { member = m; step = step }) own h))
        ∙ member_node ms node m is

-- where both hold, each does
both : (a b : Bool) → (a && b) ≡ true → (a ≡ true) × (b ≡ true)
both true true e = (refl, refl)
both true false e = absurd cc
both false b e = absurd cc

-- what is delivered is a step of the node that its first words name
named : (ms : List Member) (d : Delivery) (own : OwnStep) → may_be ms d ≡ true → delivered_step ms d ≡ Ok own
    → own.member.node ≡ named_node d
named ms (Learn a) own may e = step_node ms a.node (steps.Learn a) own e
named ms (SendChallenge x) own may e = step_node ms x.to (steps.SendChallenge x) own e
named ms (Answer s) own may e =
    let ends = (both (keeps_version ms s.node s.log_version) (ends s) may).1 in
    step_node ms s.closing.node (steps.Answer (record { segment = s; roster = ms })) own e
    ∙ eqb-true s.closing.node s.node (both (s.closing.node == s.node) _ ends).0
named ms (AckIn a) own may e = step_node ms a.by (steps.AckIn a) own e

-- a packet that is somebody's step was read, and its first words name that member
pub whose_node : (ms : List Member) (packet : List ℕ) (own : OwnStep) → IsBytes packet
    → whose ms (events.Deliver packet) ≡ Ok own
    → (d : Delivery) × (Says packet d × (own.member.node ≡ named_node d))
whose_node ms packet own bytes e = by (judged ms packet) refl e
  where
    by : (r : Result Delivery checks.Refusal) → judged ms packet ≡ r → judged_step ms r ≡ Ok own
        → (d : Delivery) × (Says packet d × (own.member.node ≡ named_node d))
    by (Ok d) is h =
        let t = taken ms (delivery_of packet) d (judged_is ms packet ∙ is) in
        (d, ((exact packet d bytes).0 t.0, named ms d own t.1 h))
    by (Err refusal) is h = absurd cc

-- ---- its first words

-- one number alone is read of bytes
pub same_number : (bytes : List ℕ) (m n : ℕ) (left rest : List ℕ) → number_at 4 bytes ≡ Ok (m, left)
    → number_at 4 bytes ≡ Ok (n, rest) → m ≡ n
same_number bytes m n left rest one other =
    ap (λ (p : ℕ × List ℕ). p.0) (ok_is (m, left) (n, rest) (sym one ∙ other))

-- or none
pub not_both : (bytes : List ℕ) (fault : XdrFault) (n : ℕ) (rest : List ℕ) → number_at 4 bytes ≡ Err fault
    → number_at 4 bytes ≡ Ok (n, rest) → ⊥
not_both bytes fault n rest one other = none (sym one ∙ other)
  where
    none : ◌≡◌ {A = Read ℕ} (Err fault) (Ok (n, rest)) → ⊥
    none e = absurd cc

-- a number at the front is read
front : (n : ℕ) (rest : List ℕ) → n < 2 ^ 32 → number_at 4 (number_spelling 4 n ++ rest) ≡ Ok (n, rest)
front n rest small = number_again 4 n rest (omega (arith, small))

-- what is read at the front of bytes is what stands there
read_front : (n : ℕ) (bytes rest : List ℕ) (x : ℕ) (left : List ℕ) → n < 2 ^ 32
    → bytes ≡ number_spelling 4 n ++ rest → number_at 4 bytes ≡ Ok (x, left) → (x ≡ n) × (left ≡ rest)
read_front n bytes rest x left small is read = parts (sym read ∙ ap (λ b. number_at 4 b) is ∙ front n rest small)
  where
    parts : ◌≡◌ {A = Read ℕ} (Ok (x, left)) (Ok (n, rest)) → (x ≡ n) × (left ≡ rest)
    parts e =
        let same = ok_is (x, left) (n, rest) e in
        (ap (λ (p : ℕ × List ℕ). p.0) same, ap (λ (p : ℕ × List ℕ). p.1) same)

-- and nothing but that number is
no_fault : (n : ℕ) (bytes rest : List ℕ) (fault : XdrFault) → n < 2 ^ 32 → bytes ≡ number_spelling 4 n ++ rest
    → number_at 4 bytes ≡ Err fault → ⊥
no_fault n bytes rest fault small is read =
    none (sym read ∙ ap (λ b. number_at 4 b) is ∙ front n rest small)
  where
    none : ◌≡◌ {A = Read ℕ} (Err fault) (Ok (n, rest)) → ⊥
    none e = absurd cc

-- the first number of what stands after a packet's own number: of an envelope its sender
abbrev pub first_node : Delivery → ℕ
first_node (Learn a) = a.node
first_node (SendChallenge e) = e.from
first_node (Answer s) = s.node
first_node (AckIn a) = a.by

-- it stands there
pub record Begins (content : List ℕ) (d : Delivery) : Type 0 where
  pub small : first_node d < 2 ^ 32
  pub rest : List ℕ
  pub is : content ≡ number_spelling 4 (first_node d) ++ rest

pub begins : (d : Delivery) (content : List ℕ) → IsContent d content → Begins content d
begins (Learn a) content is = record { small = is.0.0; rest = _; is = is.2 }
begins (SendChallenge e) content is = record { small = is.0.0; rest = _; is = is.2 }
begins (Answer s) content is = record { small = is.is.0.0; rest = _; is = is.is.2 }
begins (AckIn a) content is = record { small = is.0.0; rest = _; is = is.2 }

-- the receiver of an envelope stands behind its sender
pub record Follows (rest : List ℕ) (d : Delivery) : Type 0 where
  pub small : named_node d < 2 ^ 32
  pub after : List ℕ
  pub is : rest ≡ number_spelling 4 (named_node d) ++ after

-- the number of a packet with an envelope
is_envelope : (d : Delivery) → packet_number d ≡ 2 → (e : Envelope) × (d ≡ SendChallenge e)
is_envelope (Learn a) n = absurd cc
is_envelope (SendChallenge e) n = (e, refl)
is_envelope (Answer s) n = absurd (other s.log_version n)
  where
    other : (v : LogVersion) → answer_number v ≡ 2 → ⊥
    other One n = absurd cc
    other Two n = absurd cc
is_envelope (AckIn a) n = absurd cc

-- of any other packet the node stands first
named_first : (d : Delivery) → (packet_number d ≡ 2 → ⊥) → first_node d ≡ named_node d
named_first (Learn a) other = refl
named_first (SendChallenge e) other = absurd (other refl)
named_first (Answer s) other = refl
named_first (AckIn a) other = refl

small_number : (d : Delivery) → packet_number d < 2 ^ 32
small_number (Learn a) = omega arith
small_number (SendChallenge e) = omega arith
small_number (Answer s) = of_version s.log_version
  where
    of_version : (v : LogVersion) → answer_number v < 2 ^ 32
    of_version One = omega arith
    of_version Two = omega arith
small_number (AckIn a) = omega arith

-- ---- what is read of a packet

-- its number is
pub has_number : (bytes : List ℕ) (fault : XdrFault) (d : Delivery) → number_at 4 bytes ≡ Err fault
    → Says bytes d → ⊥
has_number bytes fault d read says =
    no_fault (packet_number d) bytes says.content fault (small_number d) says.whole read

-- the number that is read is its own
number_is : (bytes : List ℕ) (number : ℕ) (rest : List ℕ) (d : Delivery) → number_at 4 bytes ≡ Ok (number, rest)
    → (says : Says bytes d) → (number ≡ packet_number d) × (rest ≡ says.content)
number_is bytes number rest d read says =
    read_front (packet_number d) bytes says.content number rest (small_number d) says.whole read

-- a node stands behind it
pub has_first : (bytes : List ℕ) (number : ℕ) (rest : List ℕ) (fault : XdrFault) (d : Delivery)
    → number_at 4 bytes ≡ Ok (number, rest) → number_at 4 rest ≡ Err fault → Says bytes d → ⊥
has_first bytes number rest fault d read none says =
    let b = begins d says.content says.is_content in
    no_fault (first_node d) rest b.rest fault b.small ((number_is bytes number rest d read says).1 ∙ b.is) none

-- where it is no envelope, that is the node
pub is_first : (bytes : List ℕ) (number : ℕ) (rest : List ℕ) (node : ℕ) (after : List ℕ) (d : Delivery)
    → number_at 4 bytes ≡ Ok (number, rest) → number_at 4 rest ≡ Ok (node, after) → (number ≡ 2 → ⊥)
    → Says bytes d → node ≡ named_node d
is_first bytes number rest node after d read first other says =
    let own = number_is bytes number rest d read says in
    let b = begins d says.content says.is_content in
    (read_front (first_node d) rest b.rest node after b.small (own.1 ∙ b.is) first).0
    ∙ named_first d (λ two. other (own.0 ∙ two))

-- what stands behind the sender of an envelope
behind_sender : (d : Delivery) (e : Envelope) (content rest : List ℕ) (from : ℕ) → d ≡ SendChallenge e
    → IsContent d content → number_at 4 content ≡ Ok (from, rest) → Follows rest d
behind_sender d e content rest from is text read =
    let own : IsContent (SendChallenge e) content = subst (λ x. IsContent x content) is text in
    let both = read_front e.from content _ from rest own.0.0 own.2 read in
    subst (λ x. Follows rest x) (sym is) (record { small = own.0.1.0; after = _; is = both.1 })

-- and of an envelope the next one is there
pub has_second : (bytes : List ℕ) (number : ℕ) (rest : List ℕ) (from : ℕ) (after : List ℕ) (fault : XdrFault)
    (d : Delivery) → number_at 4 bytes ≡ Ok (number, rest) → number_at 4 rest ≡ Ok (from, after) → number ≡ 2
    → number_at 4 after ≡ Err fault → Says bytes d → ⊥
has_second bytes number rest from after fault d read first two none says =
    let own = number_is bytes number rest d read says in
    let e = is_envelope d (sym own.0 ∙ two) in
    let f = behind_sender d e.0 says.content after from e.1 says.is_content (ap (number_at 4) (sym own.1) ∙ first) in
    no_fault (named_node d) after f.after fault f.small f.is none

-- and is the node
pub is_second : (bytes : List ℕ) (number : ℕ) (rest : List ℕ) (from : ℕ) (after : List ℕ) (node : ℕ) (last : List ℕ)
    (d : Delivery) → number_at 4 bytes ≡ Ok (number, rest) → number_at 4 rest ≡ Ok (from, after) → number ≡ 2
    → number_at 4 after ≡ Ok (node, last) → Says bytes d → node ≡ named_node d
is_second bytes number rest from after node last d read first two second says =
    let own = number_is bytes number rest d read says in
    let e = is_envelope d (sym own.0 ∙ two) in
    let f = behind_sender d e.0 says.content after from e.1 says.is_content (ap (number_at 4) (sym own.1) ∙ first) in
    (read_front (named_node d) after f.after node last f.small f.is second).0
