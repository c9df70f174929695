-- The messages in the last state of an honest log whose entries have texts can be spelled.
-- Serves: honest_states_are_spelled.
use Rattle.std.proofs.Common.{◌≡◌, ℕ, List, [], ◌∷◌, map, length}
use Rattle.std.proofs.Common.{subst, sym, ap, ◌∙◌, refl, arith}
use Rattle.std.specs.List.{AllByRecursion}
use Rattle.std.specs.declared.cmp.Ordering.TheVariants.{Less, Equal, Greater}
use Rattle.std.specs.FinMap as finite
use Rattle.std.specs.FinMap.Entries.{by_order}
use Rattle.std.specs.FinSet.{FinSet}
use Rattle.sha2.specs.Sha256.{sha256}
use Rattle.sha2.proofs.Facts256.{length-sha256}
use Rattle.nfs_items.specs.xdr.Item.{Fits}
use Rattle.secure_log.specs.authenticator.declared.member.Member.{Member}
use Rattle.secure_log.specs.declared.log_entries.entry.Entry.{Entry}
use Rattle.secure_log.specs.declared.log_entries.entry.Entry.TheVariants.{Send, Recv, Ack, Clock, Check}
use Rattle.secure_log.specs.LogEntries.Entry.{entry_item, entry_value}
use Rattle.secure_log.specs.LogEntries.Chain.{Link, Logged, zeros, hash_after, last_hash, logged_links}
use Rattle.secure_log.specs.LogEntries.Messages.{message_hash}
use Rattle.secure_log.specs.authenticator.declared.member.LogVersion.{LogVersion}
use Rattle.secure_log.specs.Log.{HasNumbers, log_hash}
use Rattle.secure_log.proofs.authenticator.Words.{word_below}
use Rattle.state_spec.specs.State.{ReceivedMessage, received_cmp, with_received, SentMessage, Machine, State}
use Rattle.state_spec.specs.State.{opened_with}
use Rattle.state_spec.specs.StateItems.{received_item, received_value, sent_item, sent_value}
use Rattle.state_spec.proofs.Orders.{received_total}
use Rattle.state_spec.proofs.Worlds.{all_found, all_mapped}
use Rattle.replay_spec.specs.HonestLogs.{IsHonestLog}
use Rattle.replay_spec.specs.LogLaws.LoggedMessages.{IsSentAt}
use Rattle.replay_spec.specs.Steps.{after_entry, received_message}
use Rattle.replay_spec.proofs.OfLogLaws.Numbers.{at_entry, entry_number}
use Rattle.replay_spec.proofs.OfLogLaws.Sends.{sends_are_logged}

-- ---- received

abbrev FitsReceived : ReceivedMessage → Type 0
FitsReceived m = Fits received_item (received_value m)

abbrev KeysFit : List (ReceivedMessage × Unit {0}) → Type 0
KeysFit es = AllByRecursion (λ (e : ReceivedMessage × Unit {0}). FitsReceived e.0) es

-- each message of a set can be spelled
abbrev pub AllFit : FinSet received_cmp → Type 0
AllFit received = KeysFit (finite.entries received)

-- what holds of each key, and of one more, holds of all
all_put : (es : List (ReceivedMessage × Unit {0})) (m : ReceivedMessage) → FitsReceived m → KeysFit es
    → KeysFit (finite.put received_cmp m tt es)
all_put [] m fits all = (fits, tt)
all_put (e ∷ es) m fits all =
    elim (received_cmp m e.0) as (λ o. KeysFit
    (by_order o ((m, tt) ∷ e ∷ es) ((e.0, tt) ∷ es) (e ∷ finite.put received_cmp m tt es))) [
      | Less ↦ (fits, all)
      | Equal ↦ all
      | Greater ↦ (all.0, all_put es m fits all.1)
    ]

-- the messages with one more
one_more : (received : FinSet received_cmp) (m : ReceivedMessage) → FitsReceived m → AllFit received
    → AllFit (with_received received m)
one_more received m fits all =
    subst KeysFit (sym (finite.entries-insert received_total received m tt))
    (all_put (finite.entries received) m fits all)

hash_long : (to seq : ℕ) (prev digest : List ℕ) → length (message_hash to seq prev digest) ≡ 32
unfolding message_hash hash_after
hash_long to seq prev digest = length-sha256 _

-- after an entry that has a text
pub fit_after : (s : State) (entry_word : ℕ) (before : List ℕ) (e : Entry) → Fits entry_item (entry_value e)
    → AllFit s.received → AllFit (after_entry s entry_word before e).received
fit_after s entry_word before (Send to body) fits all = all
fit_after s entry_word before (Recv from seq prev body signature) fits all =
    one_more s.received (received_message s.node from seq prev body)
    (fits.2.0, (fits.2.1.0.0, hash_long s.node seq prev (sha256 body))) all
fit_after s entry_word before (Ack to seq mine theirs prev signature) fits all = all
fit_after s entry_word before (Clock seconds microseconds) fits all = all
fit_after s entry_word before (Check digest) fits all = all

-- none are there
pub nothing_fits : AllFit finite.empty
nothing_fits =
    by (finite.entries finite.empty)
    (sym (finite.len-entries finite.empty) ∙ finite.len-empty received_cmp (Unit {0}))
  where
    by : (es : List (ReceivedMessage × Unit {0})) → length es ≡ 0 → KeysFit es
    by [] h = tt
    by (e ∷ es) h = absurd (omega arith)

-- so of what is said of them each can be spelled
pub received_said : (received : FinSet received_cmp) → AllFit received
    → AllByRecursion (Fits received_item) (map received_value (finite.keys received))
received_said received all =
    all_mapped received_value (Fits received_item) (finite.keys received)
    (all_mapped (λ (e : ReceivedMessage × Unit {0}). e.0) FitsReceived (finite.entries received) all)

-- ---- sent

last_long : (opening : List ℕ) (links : List Link) → length opening ≡ 32
    → length (last_hash opening links) ≡ 32
unfolding hash_after
last_long opening [] h = h
last_long opening (link ∷ links) h = last_long (hash_after opening link) links (length-sha256 _)

log_hash_long : (log : List Logged) → length (log_hash log) ≡ 32
unfolding zeros
log_hash_long log = last_long zeros (logged_links 0 log) refl

abbrev HasText : Logged → Type 0
HasText l = Fits entry_item (entry_value l.entry)

-- a message that was sent can be spelled, where its SEND has a text and the log numbers
sent_fits : (v : LogVersion) (log : List Logged) (k : ℕ) (m : SentMessage)
    → AllByRecursion HasText log → HasNumbers v log → IsSentAt log k m
    → Fits sent_item (sent_value (k, m))
sent_fits v log k m all has sent =
    let l : Logged = record { skipped = sent.skipped; entry = Send m.to sent.body } in
    let numbered = entry_number v log sent.number l has sent.there in
    let fits = at_entry HasText log sent.number l sent.there all in (
      omega (arith, sent.is_word, word_below v sent.skipped sent.number numbered),
      (
        fits.2.0,
        (
          ap (λ (h : List ℕ). length h) sent.before ∙ log_hash_long sent.there.before,
          ap (λ (h : List ℕ). length h) sent.digest ∙ length-sha256 sent.body,
        ),
      ),
    )

-- so of what is said of those in the last state of a log each can be spelled
pub sends_said : (v : LogVersion) (ms : List Member) (node : ℕ) (machine : Machine) (s : State) (log : List Logged)
    → AllByRecursion HasText log → HasNumbers v log
    → IsHonestLog ms (opened_with node machine) log s
    → AllByRecursion (Fits sent_item) (map sent_value (finite.entries s.sends))
sends_said v ms node machine s log all has honest =
    all_mapped sent_value (Fits sent_item) (finite.entries s.sends)
    (all_found (λ k m. Fits sent_item (sent_value (k, m))) (finite.entries s.sends)
    (finite.entries_sorted s.sends) (λ k m at.
    sent_fits v log k m all has
    ((sends_are_logged v ms node machine s log k m has honest).0 (finite.get-entries s.sends k ∙ at)).0))
