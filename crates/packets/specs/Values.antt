-- What texts say, as the values that they are of: of each of these the value comes back from its text's.
use Rattle.std.specs.Prelude.{ℕ, zero, suc, ◌+◌, ◌/◌, ◌^◌, [], map}
use Rattle.xdr.specs.Item.{Value}
use Rattle.merkle_keys.specs.Signing.{SignatureParts, signature_item}
use Rattle.envelopes.specs.secure_log.authenticator.Signed.{authenticator_item}
use Rattle.envelopes.specs.secure_log.authenticator.declared.authenticator.Authenticator.{Authenticator}
use Rattle.envelopes.specs.secure_log.LogEntries.Entry.{entry_item, kind_item}
use Rattle.envelopes.specs.secure_log.declared.log_entries.entry.Entry.{Entry}
use Rattle.envelopes.specs.secure_log.declared.log_entries.entry.Entry.TheVariants as entry
use Rattle.envelopes.specs.Envelope.{envelope_item}
use Rattle.envelopes.specs.Acknowledgement.{ack_item}
use Rattle.envelopes.specs.declared.envelope.Envelope.{Envelope}
use Rattle.envelopes.specs.declared.acknowledgement.Ack.{Ack}
use Rattle.envelopes.specs.secure_log.authenticator.declared.member.LogVersion.{LogVersion}
use Rattle.envelopes.specs.secure_log.authenticator.declared.member.LogVersion.TheVariants.{One, Two}
use Rattle.envelopes.specs.secure_log.LogEntries.Chain.{Logged}
use Rattle.envelopes.specs.secure_log.Versioned.{VersionedParts, logged_item, versioned_item}
use Rattle.envelopes.specs.secure_log.declared.segment.TheConstants.{MAX_ENTRIES}

abbrev pub signature_said : Value signature_item → SignatureParts
signature_said v = record { leaf = v.0; shown = v.1.0; other = v.1.1.0; path = v.1.1.1 }

abbrev pub authenticator_said : Value authenticator_item → Authenticator
authenticator_said v =
    record { node = v.0; word = v.1.0; hash = v.1.1.0; signature = signature_said v.1.1.1 }

abbrev pub envelope_said : Value envelope_item → Envelope
envelope_said v = record {
  from = v.0;
  to = v.1.0;
  seq = v.1.1.0;
  prev = v.1.1.1.0;
  body = v.1.1.1.1.0;
  signature = signature_said v.1.1.1.1.1;
}

abbrev pub ack_said : Value ack_item → Ack
ack_said v = record {
  by = v.0;
  number = v.1.0;
  prev = v.1.1.0;
  from = v.1.1.1.0;
  seq = v.1.1.1.1.0;
  sender_prev = v.1.1.1.1.1.0;
  body_hash = v.1.1.1.1.1.1.0;
  signature_hash = v.1.1.1.1.1.1.1.0;
  signature = signature_said v.1.1.1.1.1.1.1.1;
}

-- The entry of a kind. A number that is no kind's has none; no text has one, and the last line stands for it.
abbrev pub entry_of_kind : (kind : ℕ) → Value (kind_item kind) → Entry
entry_of_kind (suc zero) v = entry.Send v.0 v.1
entry_of_kind (suc (suc zero)) v = entry.Recv v.0 v.1.0 v.1.1.0 v.1.1.1.0 (signature_said v.1.1.1.1)
entry_of_kind (suc (suc (suc zero))) v =
    entry.Ack v.0 v.1.0 v.1.1.0 v.1.1.1.0 v.1.1.1.1.0 (signature_said v.1.1.1.1.1)
entry_of_kind (suc (suc (suc (suc zero)))) v = entry.Clock v.0 v.1
entry_of_kind (suc (suc (suc (suc (suc zero))))) v = entry.Check v
entry_of_kind (suc (suc (suc (suc (suc (suc n)))))) v = entry.Check []
entry_of_kind zero v = entry.Check []

abbrev pub entry_said : Value entry_item → Entry
entry_said v = entry_of_kind v.0 v.1

-- an entry, with what its word says is skipped before it; in a log of version 1 it has no word
abbrev pub logged_said : (v : LogVersion) → Value (logged_item v) → Logged
logged_said One x = record { skipped = 0; entry = entry_said x }
logged_said Two x = record { skipped = x.0 / 2 ^ 32; entry = entry_said x.1 }

-- the first number of a segment whose text begins with this one
abbrev pub first_said : LogVersion → (start : ℕ) → ℕ
first_said One start = start
first_said Two start = start + 1

-- a segment of a log of a version
abbrev pub segment_said : (v : LogVersion) → Value (versioned_item v MAX_ENTRIES) → VersionedParts
segment_said v x = record {
  log_version = v;
  node = x.0;
  first = first_said v x.1.0;
  opening = x.1.1.0;
  entries = map (logged_said v) x.1.1.1.0;
  closing = authenticator_said x.1.1.1.1;
}
