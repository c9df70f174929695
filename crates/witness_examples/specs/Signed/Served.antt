-- A history of values that are really signed: of a server, whatever its secret, that was called by a client
-- and answered. Its log is the call that it received, a reading of the clock, and the reply.
use Rattle.std.specs.Prelude.{ℕ, List, [], ◌∷◌, replicate}
use Rattle.sha2.specs.Sha256.{sha256}
use Rattle.lamport.specs.declared.key.TheConstants.{TEXT_SIZE}
use Rattle.merkle_keys.specs.Signing.{SignatureParts}
use Rattle.merkle_keys.specs.Tree.{root, path_end}
use Rattle.authenticator.specs.Signed.{signed_digest}
use Rattle.authenticator.specs.Signing.{shown_leaf}
use Rattle.authenticator.specs.declared.authenticator.Authenticator.{Authenticator}
use Rattle.authenticator.specs.declared.member.Kind.TheVariants.{Server, Client}
use Rattle.authenticator.specs.declared.member.LogVersion.TheVariants.{One}
use Rattle.authenticator.specs.declared.member.Member.{Member}
use Rattle.secure_log.specs.LogEntries.Chain.{zeros, without_gaps}
use Rattle.secure_log.specs.LogEntries.Messages.{message_hash}
use Rattle.secure_log.specs.declared.log_entries.entry.Entry.{Entry}
use Rattle.secure_log.specs.declared.log_entries.entry.Entry.TheVariants.{Recv, Clock, Send}
use Rattle.secure_log.specs.Versioned.{VersionedParts, ClosedParts, of_plain}
use Rattle.secure_log.specs.Log.{log_hash}
use Rattle.state_spec.specs.State.{State, opening_server}
use Rattle.nfs_items.specs.Timeval.{Timeval}
use Rattle.state_spec.specs.server_spec.World.{World, opening_world}
use Rattle.replay_spec.specs.Shown.{sender_shown}
use Rattle.replay_spec.specs.LogLaws.HonestServers.{state_served}
use Rattle.replay_spec.specs.Replay.{Sound}
use Rattle.witness_spec.specs.Events.{PublicKey, JobParts, DoneParts, ItsIndication}
use Rattle.witness_spec.specs.Events as events
use Rattle.witness_spec.specs.Replies.{Noted, Accepted, Asked, Job, Filed, Told, Trusted}
use Rattle.witness_spec.specs.Steps.{Learn, Answer, Audit, Begin, File, Ask, Past}
use Rattle.witness_spec.specs.Histories.{History}
use Rattle.witness_examples.specs.Signed.Audited.{signed}

-- ---- the call and its reply (RFC 5531, section 9)

-- a call of NFS, procedure NULL, by AUTH_NONE: xid 1, CALL, RPC version 2, program 100003, version 2,
-- procedure 0, and credential and verifier, each of flavor 0 without a body
abbrev pub call : List ℕ
call =
    0 ∷ 0 ∷ 0 ∷ 1 ∷ 0 ∷ 0 ∷ 0 ∷ 0 ∷ 0 ∷ 0 ∷ 0 ∷ 2 ∷ 0 ∷ 1 ∷ 134 ∷ 163 ∷ 0 ∷ 0 ∷ 0 ∷ 2
    ∷ replicate 20 0

-- the reply to it: xid 1, REPLY, MSG_ACCEPTED, a verifier of flavor 0 without a body, SUCCESS
abbrev pub reply : List ℕ
reply = 0 ∷ 0 ∷ 0 ∷ 1 ∷ 0 ∷ 0 ∷ 0 ∷ 1 ∷ replicate 16 0

-- when the server reads its clock for it
abbrev pub call_time : Timeval
call_time = record { seconds = 1; microseconds = 0 }

-- the server's world before it
abbrev pub world_before : World
world_before = opening_world 5

-- ---- the client that calls

-- the hash of the call in the client's log, of which it is the first entry
abbrev pub call_hash : List ℕ
call_hash = message_hash 5 1 zeros (sha256 call)

-- as many bytes of zero as a signature shows of secrets
unfoldable pub zero_text : List ℕ
zero_text = replicate TEXT_SIZE 0

-- The client's signature of it: the secrets that it shows, the hashes beside them and its path are bytes of
-- zero.
abbrev pub call_signature : SignatureParts
call_signature = record {
  leaf = 0;
  shown = zero_text;
  other = zero_text;
  path = replicate 32 0 ∷ [];
}

-- the root of the client's tree of keys: where this signature leads
abbrev pub caller_root : List ℕ
caller_root = path_end 0 (shown_leaf (signed_digest 6 1 call_hash) call_signature) call_signature.path

-- the client, as a member
abbrev pub caller : Member
caller = record { node = 6; kind = Client; root = caller_root; height = 1; log_version = One }

-- what the call shows of the client's log
abbrev pub caller_shown : Authenticator
caller_shown = sender_shown 5 6 1 zeros call call_signature

-- ---- the server

-- the server with a secret, as a member
abbrev pub server : (secret : List ℕ) → Member
server secret = record { node = 5; kind = Server; root = root secret 1; height = 1; log_version = One }

-- the server's public key
abbrev pub server_key : (secret : List ℕ) → PublicKey
server_key secret = record { root = root secret 1; height = 1 }

-- the roster of both
abbrev pub server_and_caller : (secret : List ℕ) → List Member
server_and_caller secret = server secret ∷ caller ∷ []

-- the entries of the server's log: the call is received, the clock is read, the reply is sent
abbrev pub served : List Entry
served = Recv 6 1 zeros call call_signature ∷ Clock 1 0 ∷ Send 6 reply ∷ []

-- the hash at its end
abbrev pub served_hash : List ℕ
served_hash = log_hash (without_gaps served)

-- the server's state after it
abbrev pub state_after : State
state_after = state_served (opening_server 5) world_before 0 6 1 zeros call call_signature call_time 0 zeros

-- the server's authenticator of its log's end
abbrev pub served_end : (secret : List ℕ) → Authenticator
served_end secret = signed secret 0 3 served_hash

-- its whole log, closed by that authenticator
abbrev pub served_segment : (secret : List ℕ) → VersionedParts
served_segment secret = of_plain (record {
  node = 5;
  first = 1;
  opening = zeros;
  entries = served;
  closing = served_end secret;
})

-- the same under the roster
abbrev pub served_closed : (secret : List ℕ) → ClosedParts
served_closed secret = record { segment = served_segment secret; roster = server_and_caller secret }

-- the job of replaying it
abbrev pub served_job : (secret : List ℕ) → JobParts
served_job secret =
    record { node = 5; number = 1; state = opening_server 5; segment = served_closed secret }

-- the job done: its replay was Sound, and shows the client's authenticator
abbrev pub served_done : (secret : List ℕ) → DoneParts
served_done secret = record { job = served_job secret; verdict = Sound state_after (caller_shown ∷ []) }

-- ---- its log is audited

-- what is handed in, the newest first
abbrev pub served_learned : (secret : List ℕ) → History
served_learned secret = (events.Learn (served_end secret) (server_key secret), Noted) ∷ []

-- then the whole log is asked for
abbrev pub served_asked : (secret : List ℕ) → History
served_asked secret = (events.Audit 5, Asked 1 3) ∷ served_learned secret

-- then it is answered
abbrev pub served_answered : (secret : List ℕ) → History
served_answered secret = (events.Answer (served_closed secret), Accepted) ∷ served_asked secret

-- then its replay is begun
abbrev pub served_begun : (secret : List ℕ) → History
served_begun secret = (events.Begin 5, Job (served_job secret)) ∷ served_answered secret

-- then its verdict is filed
abbrev pub served_filed : (secret : List ℕ) → History
served_filed secret = (events.File (served_done secret), Filed) ∷ served_begun secret

-- and the server is Trusted
abbrev pub served_events : (secret : List ℕ) → History
served_events secret = (events.Ask 5 ItsIndication, Told Trusted) ∷ served_filed secret

-- the same as steps of the server
abbrev pub learned_served : (secret : List ℕ) → Past
learned_served secret = (Learn (served_end secret), Noted) ∷ []

-- then the whole log was asked for
abbrev pub asked_served : (secret : List ℕ) → Past
asked_served secret = (Audit, Asked 1 3) ∷ learned_served secret

-- then it was answered
abbrev pub answered_served : (secret : List ℕ) → Past
answered_served secret = (Answer (served_closed secret), Accepted) ∷ asked_served secret

-- then its replay was begun
abbrev pub begun_served : (secret : List ℕ) → Past
begun_served secret = (Begin, Job (served_job secret)) ∷ answered_served secret

-- then its verdict was filed
abbrev pub filed_served : (secret : List ℕ) → Past
filed_served secret = (File (served_done secret), Filed) ∷ begun_served secret

-- and the server was Trusted
abbrev pub served_steps : (secret : List ℕ) → Past
served_steps secret = (Ask ItsIndication, Told Trusted) ∷ filed_served secret
