-- What evidence proves: that no log of the node is honest, unless its signatures are forged or two texts have
-- one digest.
use Rattle.std.specs.Prelude.{◌≡◌, ℕ, List, [], ◌∷◌, ◌++◌, flat_map, Option, Some, None}
use Rattle.std.specs.List.{AllByRecursion}
use Rattle.xdr.specs.Item.{Fits, spelling}
use Rattle.merkle_keys.specs.Signing.{SignatureParts, signature_item, signature_value}
use Rattle.replay_spec.specs.authenticator.declared.member.LogVersion.{LogVersion}
use Rattle.replay_spec.specs.authenticator.declared.member.Member.{Member}
use Rattle.replay_spec.specs.authenticator.Numbers.{number_in}
use Rattle.replay_spec.specs.authenticator.declared.authenticator.Authenticator.{Authenticator}
use Rattle.replay_spec.specs.authenticator.Roster.{member_of}
use Rattle.replay_spec.specs.authenticator.Signed.{IsSignedIn}
use Rattle.replay_spec.specs.secure_log.declared.log_entries.entry.Entry.{Entry}
use Rattle.replay_spec.specs.secure_log.declared.log_entries.entry.Entry.TheVariants.{Send, Recv, Ack, Clock}
use Rattle.replay_spec.specs.secure_log.declared.log_entries.entry.Entry.TheVariants.{Check}
use Rattle.replay_spec.specs.secure_log.LogEntries.Entry.{entry_item, entry_value, content}
use Rattle.replay_spec.specs.secure_log.LogEntries.Chain.{zeros, chain_texts, NoCollision}
use Rattle.replay_spec.specs.secure_log.LogEntries.Chain.{IsAmong}
use Rattle.replay_spec.specs.secure_log.LogEntries.Chain.{Link, Logged, logged_links, marks}
use Rattle.replay_spec.specs.secure_log.Log.{HasNumbers, log_pairs}
use Rattle.replay_spec.specs.secure_log.Versioned.{VersionedParts, versioned_links}
use Rattle.replay_spec.specs.state_spec.State.{State}
use Rattle.replay_spec.specs.state_spec.StateText.{IsStateText}
use Rattle.replay_spec.specs.Bodies.{HasBytes}
use Rattle.replay_spec.specs.StateLaws.{state_texts}
use Rattle.replay_spec.specs.Opening.{opening_of}
use Rattle.replay_spec.specs.HonestLogs.{IsHonestLog}
use Rattle.evidence_spec.specs.Showing.{ShowingParts, links_in}
use Rattle.evidence_spec.specs.Evidence.{Charge, Fork, Replay, Based, EvidenceParts}

-- Entries are those of a log of a version, each with how many numbers are skipped just before it: each has a
-- text, bodies are bytes, and their numbers are such a log's.
pub record IsLogOf (v : LogVersion) (log : List Logged) : Type 0 where
  pub each : AllByRecursion (λ l. Fits entry_item (entry_value l.entry)) log
  pub bytes : AllByRecursion (λ l. HasBytes l.entry) log
  pub numbers : HasNumbers v log

-- the links of a log
abbrev pub log_links : List Logged → List Link
log_links log = logged_links 0 log

-- its marks: the pairs, and of each number that is skipped that no entry has it
abbrev pub marks_of : List Logged → List (ℕ × List ℕ)
marks_of log = marks 0 zeros (log_links log)

-- ---- texts that are hashed

-- a signature's text
abbrev pub signature_text : SignatureParts → List ℕ
signature_text signature = spelling signature_item (signature_value signature)

-- the texts that an entry's content is made from: the content itself, its body and its signature's text
abbrev pub entry_texts : Entry → List (List ℕ)
entry_texts (Send to body) = content (Send to body) ∷ body ∷ []
entry_texts (Recv from seq prev body signature) =
    content (Recv from seq prev body signature) ∷ body ∷ signature_text signature ∷ []
entry_texts (Ack to seq mine number prev signature) =
    content (Ack to seq mine number prev signature) ∷ signature_text signature ∷ []
entry_texts (Clock seconds microseconds) = content (Clock seconds microseconds) ∷ []
entry_texts (Check digest) = content (Check digest) ∷ []

-- the texts of a whole log: those of its chain, and those of each entry
abbrev pub texts_of : List Logged → List (List ℕ)
texts_of log = chain_texts zeros (log_links log) ++ flat_map (λ l. entry_texts l.entry) log

-- the texts that are hashed for a segment
abbrev pub versioned_texts : VersionedParts → List (List ℕ)
versioned_texts s =
    chain_texts s.opening (versioned_links s) ++ flat_map (λ l. entry_texts l.entry) s.entries

-- a showing has texts of its chain alone
abbrev pub showing_texts : ShowingParts → List (List ℕ)
showing_texts s = chain_texts s.opening (links_in s)

-- the texts of a showing that may be there, or none
abbrev pub option_texts : Option ShowingParts → List (List ℕ)
option_texts None = []
option_texts (Some s) = showing_texts s

-- the texts of a fork's showings, of a replay's segment, or of a base's showing and a segment
abbrev pub charge_texts : Charge → List (List ℕ)
charge_texts (Fork f) = showing_texts f.a ++ option_texts f.b
charge_texts (Replay s) = versioned_texts s
charge_texts (Based b s) = showing_texts b.showing ++ versioned_texts s

-- A state is that of a charge's base; of a charge without a base nothing is asked.
abbrev pub IsBesideCharge : Charge → State → Type 0
IsBesideCharge (Fork f) t = Unit {0}
IsBesideCharge (Replay s) t = Unit {0}
IsBesideCharge (Based b s) t = IsStateText t b.state

-- all texts that are hashed for a log and a charge; with a base also those of its state, and of the states that the
-- log comes to
abbrev pub texts_beside : List Logged → Charge → (own : State) → List State → List (List ℕ)
texts_beside log (Fork f) own states = texts_of log ++ charge_texts (Fork f)
texts_beside log (Replay s) own states = texts_of log ++ charge_texts (Replay s)
texts_beside log (Based b s) own states =
    texts_of log ++ (charge_texts (Based b s) ++ flat_map state_texts (own ∷ states))

-- ---- what is signed

-- the closing of a showing that may be there, or none
abbrev pub option_closings : Option ShowingParts → List Authenticator
option_closings None = []
option_closings (Some s) = s.closing ∷ []

-- the closings of the showings, or of the segment, or of a base's showing and the segment
abbrev pub closings : Charge → List Authenticator
closings (Fork f) = f.a.closing ∷ option_closings f.b
closings (Replay s) = s.closing ∷ []
closings (Based b s) = b.showing.closing ∷ s.closing ∷ []

-- An authenticator isn't forged against a log of a version of a node: if it is of that node, and signed, then its
-- number and hash are a pair of the log.
abbrev pub IsUnforgedIn : LogVersion → List Member → (node : ℕ) → List Logged → Authenticator → Type 0
IsUnforgedIn v ms node log a =
    a.node ≡ node → IsSignedIn ms a → IsAmong (number_in v a.word, a.hash) (log_pairs log)

-- ---- what is proved

-- A log of a node, of the version that the roster gives it, stands against evidence: it is honest from the
-- state that the node begins with, none of the evidence's signatures is forged, and no two of their texts
-- have one digest: with a base also none of those of the states.
pub record Withstands (ms : List Member) (member : Member) (charge : Charge) (log : List Logged) : Type 0 where
  pub is_log : IsLogOf member.log_version log
  pub state : State
  pub honest : IsHonestLog ms (opening_of member) log state
  pub unforged : AllByRecursion (IsUnforgedIn member.log_version ms member.node log) (closings charge)
  pub no_collision : (own : State) → IsBesideCharge charge own
      → NoCollision (texts_beside log charge own (opening_of member ∷ honest.states))

-- Evidence proves that a member of the roster has no honest log: none stands against it.
pub record Proves (ms : List Member) (e : EvidenceParts) : Type 0 where
  pub member : Member
  pub is_member : member_of ms e.node ≡ Some member
  pub none : (log : List Logged) → ¬ Withstands ms member e.charge log
