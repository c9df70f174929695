-- A worked run: a new server, whatever its secret, was called by a client, answered, and its log was audited
-- (`witness_examples`). Here are the client's call, the server's acknowledgement of it and the server's reply.
use Rattle.std.specs.Prelude.{ℕ, List, [], ◌∷◌}
use Rattle.sha2.specs.Sha256.{sha256}
use Rattle.secure_log.specs.LogEntries.Chain.{without_gaps, zeros}
use Rattle.secure_log.specs.LogEntries.Messages.{receipt_hash}
use Rattle.secure_log.specs.LogEntries.Signatures.{signature_digest}
use Rattle.secure_log.specs.Log.{log_hash}
use Rattle.secure_log.specs.declared.log_entries.entry.Entry.TheVariants.{Clock, Recv}
use Rattle.envelopes.specs.declared.acknowledgement.Ack.{Ack}
use Rattle.envelopes.specs.declared.envelope.Envelope.{Envelope}
use Rattle.witness_spec.specs.Watched.{Watched}
use Rattle.witness_examples.specs.Reaching.{watched_in}
use Rattle.witness_examples.specs.Signed.Audited.{signed}
use Rattle.witness_examples.specs.Signed.Served.{call, call_signature, reply, server, server_and_caller, served_end}

-- the server, as it is watched
abbrev pub watched_server : (secret : List ℕ) → Watched
watched_server secret = watched_in (server_and_caller secret) (server secret)

-- the call, of which the client, node 6, signed the first entry of its log
abbrev pub its_call : Envelope
its_call = record { from = 6; to = 5; seq = 1; prev = zeros; body = call; signature = call_signature }

-- the server's acknowledgement of it, at number 1 of its own log
abbrev pub its_ack : (secret : List ℕ) → Ack
its_ack secret = record {
  by = 5;
  number = 1;
  prev = zeros;
  from = 6;
  seq = 1;
  sender_prev = zeros;
  body_hash = sha256 call;
  signature_hash = signature_digest call_signature;
  signature =
      (signed secret 1 1 (receipt_hash 6 1 zeros (sha256 call) (signature_digest call_signature) 1 zeros)).signature;
}

-- its reply, at number 3
abbrev pub its_reply : (secret : List ℕ) → Envelope
its_reply secret = record {
  from = 5;
  to = 6;
  seq = 3;
  prev = log_hash (without_gaps (Recv 6 1 zeros call call_signature ∷ Clock 1 0 ∷ []));
  body = reply;
  signature = (served_end secret).signature;
}
