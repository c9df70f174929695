-- A message whose number no message in a log reaches is new to it.
-- Serves: Called, Answered.
use Rattle.std.proofs.Common.{◌≡◌, ℕ, ◌+◌, ◌<◌, ◌≤◌, Bool, true, false, cond, List, [], ◌∷◌, ◌++◌, Some, None}
use Rattle.std.proofs.Common.{refl}
use Rattle.std.proofs.Common.{ap, ◌∙◌, arith, ◌==◌}
use Rattle.std.proofs.lemmas.Bool.Decides.{nat_tests}
use Rattle.std.specs.Map.{lookup}
use Rattle.std.specs.BTreeMap.{is_at}
use Rattle.std.specs.Ordering.{is_eq, ordering_then}
use Rattle.std.specs.declared.cmp.Ordering.{Ordering}
use Rattle.std.specs.declared.cmp.Ordering.TheVariants.{Less, Equal, Greater}
use Rattle.std.specs.Cmp.{unsigned_tied}
use Rattle.sha2.specs.Sha256.{sha256}
use Rattle.merkle_keys.specs.Signing.{SignatureParts}
use Rattle.authenticator.specs.declared.member.LogVersion.{LogVersion}
use Rattle.authenticator.specs.Numbers.{number_in}
use Rattle.secure_log.specs.LogEntries.Chain.{Logged}
use Rattle.secure_log.specs.LogEntries.Messages.{message_hash}
use Rattle.secure_log.specs.declared.log_entries.entry.Entry.{Entry}
use Rattle.secure_log.specs.declared.log_entries.entry.Entry.TheVariants.{Send, Recv, Ack, Clock, Check}
use Rattle.envelopes.specs.declared.message.Message.{Message}
use Rattle.commitment.specs.Received.{message_cmp, receipts_from, receipts_of}
use Rattle.nodes.specs.Exchanges.Reaching.{ReceivesUpTo, number_from}

apart : (f r : Ordering) → is_eq f ≡ false → is_eq (ordering_then f r) ≡ false
apart Less r h = refl
apart Equal r h = absurd (cc)
apart Greater r h = refl

apart_next : (f r : Ordering) → is_eq r ≡ false → is_eq (ordering_then f r) ≡ false
apart_next Less r h = refl
apart_next Equal r h = h
apart_next Greater r h = refl

-- words that stand for two numbers are two
two_words : (v : LogVersion) (a b : ℕ) → number_in v b < number_in v a → (a == b) ≡ false
two_words v a b h = by (a == b) refl
  where
    by : (t : Bool) → (a == b) ≡ t → t ≡ false
    by false e = refl
    by true e =
        let same : a ≡ b = grind (arith, nat_tests, e) in
        let number = ap (number_in v) same in
        absurd (omega (arith, h, number))

-- one of another number is another
other : (v : LogVersion) (m x : Message) → number_in v x.seq < number_in v m.seq
    → is_at (message_cmp m) x ≡ false
other v m x h =
    apart_next _ _ (apart _ _ (unsigned_tied m.seq x.seq ∙ two_words v m.seq x.seq h))

-- one of another sender is another
other_sender : (m x : Message) → (x.from == m.from) ≡ false → is_at (message_cmp m) x ≡ false
other_sender m x h =
    let tied : (m.from == x.from) ≡ false = grind (arith, nat_tests, h) in
    apart _ _ (unsigned_tied m.from x.from ∙ tied)

-- One more entry doesn't show a message with a number past those that it received.
not_this : (v : LogVersion) (node n limit : ℕ) (e : Entry) (rest : List (Message × ℕ)) (m : Message)
    → number_from v m.from e ≤ limit → limit < number_in v m.seq
    → lookup (is_at (message_cmp m)) (receipts_of node n e ++ rest) ≡ lookup (is_at (message_cmp m)) rest
not_this v node n limit (Send to body) rest m few h = refl
not_this v node n limit (Recv from seq prev body signature) rest m few h =
    let x : Message = record { from = from; seq = seq; hash = message_hash node seq prev (sha256 body) } in
    ap (λ (b : Bool). cond b (Some n) (lookup (is_at (message_cmp m)) rest)) (by x (x.from == m.from) refl few)
  where
    by : (x : Message) (b : Bool) → (x.from == m.from) ≡ b → cond b (number_in v x.seq) 0 ≤ limit
        → is_at (message_cmp m) x ≡ false
    by x true same below =
        let past : number_in v x.seq < number_in v m.seq = omega (arith, below, h) in other v m x past
    by x false another below = other_sender m x another
not_this v node n limit (Ack to seq mine theirs prev signature) rest m few h = refl
not_this v node n limit (Clock seconds microseconds) rest m few h = refl
not_this v node n limit (Check digest) rest m few h = refl

-- A message with a number past those that were received from its sender isn't found among the messages of
-- entries.
pub not_received : (v : LogVersion) (node k limit : ℕ) (es : List Logged) (m : Message)
    → ReceivesUpTo v m.from limit es → limit < number_in v m.seq
    → lookup (is_at (message_cmp m)) (receipts_from node k es) ≡ None
unfolding receipts_from
not_received v node k limit [] m few h = refl
not_received v node k limit (l ∷ es) m few h =
    not_this v node (k + 1 + l.skipped) limit l.entry (receipts_from node (k + 1 + l.skipped) es) m few.0 h
    ∙ not_received v node (k + 1 + l.skipped) limit es m few.1 h

-- ---- logs that grow

-- The numbers that entries received lie within any higher limit too.
pub up_to_more : (v : LogVersion) (from low high : ℕ) (es : List Logged) → low ≤ high
    → ReceivesUpTo v from low es → ReceivesUpTo v from high es
up_to_more v from low high [] h few = tt
up_to_more v from low high (e ∷ es) h few = (omega (arith, few.0, h), up_to_more v from low high es h few.1)

-- Entries joined have received no further than both of them.
pub up_to_both : (v : LogVersion) (from limit : ℕ) (es fs : List Logged) → ReceivesUpTo v from limit es
    → ReceivesUpTo v from limit fs
    → ReceivesUpTo v from limit (es ++ fs)
up_to_both v from limit [] fs few more = more
up_to_both v from limit (e ∷ es) fs few more = (few.0, up_to_both v from limit es fs few.1 more)

-- A message with a number within a limit is received within it, whoever sent it.
pub recv_up_to : (v : LogVersion) (from limit sender seq : ℕ) (prev body : List ℕ) (signature : SignatureParts)
    → number_in v seq ≤ limit → number_from v from (Recv sender seq prev body signature) ≤ limit
recv_up_to v from limit sender seq prev body signature h =
    elim (sender == from) as (λ (b : Bool). cond b (number_in v seq) 0 ≤ limit) [ true ↦ h | false ↦ omega arith ]
