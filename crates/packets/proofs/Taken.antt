-- What bytes are taken for is what that means.
-- Serves: packets_are_taken_as_meant.
use Rattle.std.proofs.Common.{◌++◌, ◌≡◌, ◌==◌, ℕ, Bool, true, false, cond, List, Result, Ok, Err, Option}
use Rattle.std.proofs.Common.{Some, None, refl, ap, subst, ◌∙◌, eq-eqb}
use Rattle.std.specs.Prelude.{◌↔◌, not, is_some, IsSome}
use Rattle.std.proofs.lemmas.Bool.{and_parts, and_from}
use Rattle.xdr.specs.Item.{IsBytes, number_spelling}
use Rattle.envelopes.specs.secure_log.authenticator.Roster.{keeps_version, member_of}
use Rattle.envelopes.specs.secure_log.authenticator.declared.member.Member.{Member}
use Rattle.envelopes.specs.secure_log.authenticator.declared.refusal.Refusal.{Refusal}
use Rattle.envelopes.specs.secure_log.authenticator.declared.refusal.Refusal.TheVariants.{UnknownNode}
use Rattle.envelopes.specs.secure_log.authenticator.declared.refusal.Refusal.TheVariants.{Garbage}
use Rattle.envelopes.specs.secure_log.authenticator.declared.refusal.Refusal.TheVariants.{BadSignature}
use Rattle.envelopes.specs.secure_log.authenticator.declared.refusal.Refusal.TheVariants.{NoMemory}
use Rattle.packets.specs.Packet.{Delivery, Learn, SendChallenge, Answer, AckIn, Says, IsContent, content_text}
use Rattle.packets.specs.Packet.{packet_number, packet_text, delivery_of, delivery_shows}
use Rattle.envelopes.specs.secure_log.authenticator.Signing.{is_signed_in}
use Rattle.packets.specs.Judging.{ends, may_be, is_member, is_of_members, judged_delivery, judged_option}
use Rattle.packets.specs.Judging.{judged}
use Rattle.packets.specs.Taking.{MayBe, IsOfMembers, Means}
use Rattle.envelopes.proofs.secure_log.authenticator.Signed.{is_false, signed_in_of, of_signed_in}
use Rattle.packets.proofs.Contents.{first_in}
use Rattle.packets.proofs.Judged.{of_ends, may_end, taken, unsigned, of_strangers, between}
use Rattle.packets.proofs.Spelled.{exact, one_delivery}

-- ---- the tests are what they mean

differ : (a b : ℕ) → not (a == b) ≡ true → ¬ (a ≡ b)
differ a b h e = let same : (a == b) ≡ true = eq-eqb a b e in let nay : not true ≡ true =
    subst (λ (t : Bool). not t ≡ true) same h in absurd cc

module _ (ms : List Member) where
  may_of : (d : Delivery) (text : List ℕ) → IsContent d text → may_be ms d ≡ true → MayBe ms d
  may_of (Learn a) text is h = tt
  may_of (SendChallenge e) text is h = differ e.from e.to h
  may_of (Answer s) text is h =
      let both = and_parts (keeps_version ms s.node s.log_version) (ends s) h in
      (both.0, of_ends s is.fits (first_in s.log_version s is.fits.begins is.is.1) both.1)
  may_of (AckIn a) text is h = tt

  of_may : (d : Delivery) → MayBe ms d → may_be ms d ≡ true
  of_may (Learn a) h = refl
  of_may (SendChallenge e) h = between ms e h
  of_may (Answer s) h = may_end ms s h.0 h.1
  of_may (AckIn a) h = refl

some_of : {A : Type 0} (o : Option A) → is_some o ≡ true → IsSome o
some_of o h = h

of_some : {A : Type 0} (o : Option A) → IsSome o → is_some o ≡ true
of_some o h = h

members_of : (ms : List Member) (d : Delivery) → is_of_members ms d ≡ true → IsOfMembers ms d
members_of ms (Learn a) h = some_of (member_of ms a.node) h
members_of ms (SendChallenge e) h =
    let both = and_parts (is_member ms e.from) (is_member ms e.to) h in
    (some_of (member_of ms e.from) both.0, some_of (member_of ms e.to) both.1)
members_of ms (Answer s) h = some_of (member_of ms s.closing.node) h
members_of ms (AckIn a) h = some_of (member_of ms a.by) h

of_members : (ms : List Member) (d : Delivery) → IsOfMembers ms d → is_of_members ms d ≡ true
of_members ms (Learn a) h = of_some (member_of ms a.node) h
of_members ms (SendChallenge e) h =
    and_from (is_member ms e.from) (is_member ms e.to) (of_some (member_of ms e.from) h.0)
    (of_some (member_of ms e.to) h.1)
of_members ms (Answer s) h = of_some (member_of ms s.closing.node) h
of_members ms (AckIn a) h = of_some (member_of ms a.by) h

-- ---- what bytes are taken for

module _ (ms : List Member) (bytes : List ℕ) (bound : IsBytes bytes) where
  -- where nothing is said, nothing is said well
  garbage_none : delivery_of bytes ≡ None → Means ms bytes (Err Garbage)
  garbage_none none d well = let some = (exact bytes d bound).1 well.says in absurd cc

  -- nor where what is said may not be
  garbage_some : (d : Delivery) → Says bytes d → may_be ms d ≡ false → Means ms bytes (Err Garbage)
  garbage_some d says may_not c well =
      let same : c ≡ d = one_delivery bytes c d bound well.says says in
      let yes : may_be ms d ≡ true = of_may ms d (subst (MayBe ms) same well.may_be) in
      absurd cc

  -- a test that fails isn't met
  failed : (b : Bool) → b ≡ false → ¬ (b ≡ true)
  failed b e h = absurd cc

  by_tests : (d : Delivery) → Says bytes d → (may of signed : Bool) → may_be ms d ≡ may → is_of_members ms d ≡ of
      → is_signed_in ms (delivery_shows d) ≡ signed
      → Means ms bytes (cond may (cond of (cond signed (Ok d) (Err BadSignature)) (Err UnknownNode))
      (Err Garbage))
  by_tests d says true true true may of signed = record {
    of_members = record {
      well = record { says = says; may_be = may_of ms d says.content says.is_content may };
      members = members_of ms d of;
    };
    signed = signed_in_of ms (delivery_shows d) signed;
  }
  by_tests d says true true false may of signed = (
    d,
    (
      record { well = record { says = says; may_be = may_of ms d says.content says.is_content may }; members = members_of ms d of },
      (λ s. failed (is_signed_in ms (delivery_shows d)) signed (of_signed_in ms (delivery_shows d) s)),
    ),
  )
  by_tests d says true false signed may of s = (
    d,
    (
      record { says = says; may_be = may_of ms d says.content says.is_content may },
      λ m. failed (is_of_members ms d) of
          (of_members ms d m),
    ),
  )
  by_tests d says false of signed may o s = garbage_some d says may

  by_delivery : (o : Option Delivery) → delivery_of bytes ≡ o → Means ms bytes (judged_option ms o)
  by_delivery None e = garbage_none e
  by_delivery (Some d) e =
      by_tests d ((exact bytes d bound).0 e) (may_be ms d) (is_of_members ms d)
      (is_signed_in ms (delivery_shows d)) refl refl refl

  -- what they are taken for holds
  means : Means ms bytes (judged ms bytes)
  unfolding judged
  means = by_delivery (delivery_of bytes) refl

  -- what bytes say decides
  of_said : (d : Delivery) → Says bytes d → judged ms bytes ≡ judged_delivery ms d
  unfolding judged
  of_said d says = ap (judged_option ms) ((exact bytes d bound).1 says)

  -- bytes that say nothing well are garbage
  garbage : (r : Result Delivery Refusal) → Means ms bytes r → Means ms bytes (Err Garbage) → r ≡ Err Garbage
  garbage (Ok d) h none = absurd (none d h.of_members.well)
  garbage (Err Garbage) h none = refl
  garbage (Err UnknownNode) h none = absurd (none h.0 h.1.0)
  garbage (Err BadSignature) h none = absurd (none h.0 h.1.0.well)
  garbage (Err NoMemory) h none = absurd h

  -- and nothing else means it
  meant : (r : Result Delivery Refusal) → Means ms bytes r → judged ms bytes ≡ r
  meant (Ok d) h =
      of_said d h.of_members.well.says
      ∙ taken ms d (of_may ms d h.of_members.well.may_be) (of_members ms d h.of_members.members)
      (of_signed_in ms (delivery_shows d) h.signed)
  meant (Err Garbage) h = garbage (judged ms bytes) means h
  meant (Err UnknownNode) h =
      let d : Delivery = h.0 in
      of_said d h.1.0.says
      ∙ of_strangers ms d (of_may ms d h.1.0.may_be)
      (is_false (is_of_members ms d) (λ t. h.1.1 (members_of ms d t)))
  meant (Err BadSignature) h =
      let d : Delivery = h.0 in
      of_said d h.1.0.well.says
      ∙ unsigned ms d (of_may ms d h.1.0.well.may_be) (of_members ms d h.1.0.members)
      (is_false (is_signed_in ms (delivery_shows d)) (λ t. h.1.1 (signed_in_of ms (delivery_shows d) t)))
  meant (Err NoMemory) h = absurd h

-- what bytes are taken for is what that means, and nothing else means it
pub as_meant : (ms : List Member) (bytes : List ℕ) (r : Result Delivery Refusal) → IsBytes bytes
    → (judged ms bytes ≡ r) ↔ Means ms bytes r
as_meant ms bytes r bound = ((λ e. subst (Means ms bytes) e (means ms bytes bound)), meant ms bytes bound r)

-- a packet's text is taken for what it delivers
pub as_spelled : (ms : List Member) (bytes : List ℕ) (d : Delivery) → IsBytes bytes → Says bytes d
    → judged ms bytes ≡ judged_delivery ms d
as_spelled ms bytes d bound says = of_said ms bytes bound d says

content_is : (d : Delivery) (text : List ℕ) → IsContent d text → text ≡ content_text d
content_is (Learn a) text is = is.2
content_is (SendChallenge e) text is = is.2
content_is (Answer s) text is = is.is.2
content_is (AckIn a) text is = is.2

-- what is taken is written back
pub written_back : (ms : List Member) (bytes : List ℕ) (d : Delivery) → IsBytes bytes → judged ms bytes ≡ Ok d
    → bytes ≡ packet_text d
written_back ms bytes d bound e =
    let taken_as = subst (Means ms bytes) e (means ms bytes bound) in
    let says = taken_as.of_members.well.says in
    says.whole ∙ ap (λ text. number_spelling 4 (packet_number d) ++ text)
    (content_is d says.content says.is_content)
