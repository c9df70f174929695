-- The log of a client that read its clock once: it is honest, and its two texts have two digests.
-- Serves: what_proves_nothing.
use Rattle.std.proofs.Common.{◌≡◌, ℕ, List, [], ◌∷◌, Some, inl, inr, refl, sym, ap, ap₂, subst, ◌∙◌, arith}
use Rattle.std.specs.Prelude.{slice_index}
use Rattle.sha2.specs.Sha256.{first_words, schedule, rounds, compress, digest_bytes, sha256}
use Rattle.sha2.specs.Sha256 as sha
use Rattle.xdr.specs.Item.{number_spelling}
use Rattle.replay_spec.specs.authenticator.declared.authenticator.Authenticator.{Authenticator}
use Rattle.replay_spec.specs.authenticator.declared.member.Member.{Member}
use Rattle.replay_spec.specs.authenticator.declared.member.Kind.TheVariants.{Client}
use Rattle.replay_spec.specs.authenticator.Roster.{member_of}
use Rattle.replay_spec.specs.authenticator.declared.member.LogVersion.{LogVersion}
use Rattle.replay_spec.specs.authenticator.declared.member.LogVersion.TheVariants.{One, Two}
use Rattle.replay_spec.specs.authenticator.Numbers.{number_in}
use Rattle.replay_spec.specs.secure_log.declared.log_entries.entry.Entry.TheVariants.{Clock}
use Rattle.replay_spec.specs.secure_log.LogEntries.Entry.{content}
use Rattle.replay_spec.specs.secure_log.LogEntries.Chain.{Logged, zeros, chain_text, logged_link}
use Rattle.replay_spec.specs.secure_log.LogEntries.Chain.{NoCollision}
use Rattle.replay_spec.specs.secure_log.Log.{HasNumbers, log_hash}
use Rattle.replay_spec.specs.state_spec.State.{State, opening_client}
use Rattle.replay_spec.specs.Steps.{after_entry}
use Rattle.replay_spec.specs.Opening.{opening_of, opening_by}
use Rattle.replay_spec.specs.HonestLogs.{IsHonestLog}
use Rattle.evidence_spec.specs.Evidence.{Replay}
use Rattle.evidence_spec.specs.Proving.{IsLogOf, texts_of, Proves}
use Rattle.evidence_spec.specs.Laws.{one_reading}
use Rattle.evidence_spec.proofs.Nothing.{own_texts}

abbrev read : Logged
read = record { skipped = 0; entry = Clock 1 0 }

abbrev reading : List Logged
reading = read ∷ []

-- the state after it
abbrev read_once : (node : ℕ) → State
read_once node = after_entry (opening_client node) 1 zeros (Clock 1 0)

reading_honest : (ms : List Member) (node : ℕ) → IsHonestLog ms (opening_client node) reading (read_once node)
reading_honest ms node = record {
  states = read_once node ∷ [];
  honest = (record { stands = record { turn = tt; valid = omega arith; late = refl }; after = refl }, tt);
  last = refl;
}

-- its two texts have two digests, as they are worked out
pub two_digests : sha256 (chain_text zeros (logged_link 1 read)) ≡ sha256 (content (Clock 1 0)) → ⊥
unfolding first_words schedule rounds compress sha.hash_after digest_bytes sha256 chain_text zeros content
    number_spelling
two_digests e = absurd (omega (arith, ap (λ xs. slice_index xs 0) e))

-- so no two of them have one
pub reading_texts : NoCollision (texts_of reading)
reading_texts s t (inl a) (inl b) e = a ∙ sym b
reading_texts s t (inl a) (inr (inl b)) e = absurd (two_digests (ap sha256 (sym a) ∙ e ∙ ap sha256 b))
reading_texts s t (inl a) (inr (inr j)) e = absurd j
reading_texts s t (inr (inl a)) (inl b) e = absurd (two_digests (ap sha256 (sym b) ∙ sym e ∙ ap sha256 a))
reading_texts s t (inr (inl a)) (inr (inl b)) e = a ∙ sym b
reading_texts s t (inr (inl a)) (inr (inr j)) e = absurd j
reading_texts s t (inr (inr i)) j e = absurd i

reading_numbers : (v : LogVersion) → HasNumbers v reading
reading_numbers One = ((refl, tt), omega arith)
reading_numbers Two = omega arith

reading_log : (v : LogVersion) → IsLogOf v reading
reading_log v = record {
  each = ((omega arith, refl, (omega arith, omega arith)), tt);
  bytes = (tt, tt);
  numbers = reading_numbers v;
}

first_number : (v : LogVersion) (w : ℕ) → w ≡ 1 → number_in v w ≡ 1
first_number One w h = h
first_number Two w h = omega (arith, h)

-- a client's segment of one clock reading proves nothing, whatever signature closes it
pub reading_proves_nothing : (v : LogVersion) (ms : List Member) (member : Member) (node : ℕ)
    (closing : Authenticator)
    → member_of ms node ≡ Some member → member.kind ≡ Client → closing.word ≡ 1
    → closing.hash ≡ log_hash reading
    → ¬ Proves ms (record { node = node; charge = Replay (one_reading v node closing) })
reading_proves_nothing v ms member node closing there kind number hash =
    let opening : opening_client member.node ≡ opening_of member =
    sym (ap (λ k. opening_by k member.node) kind) in
    own_texts ms member (record { node = node; charge = Replay (one_reading v node closing) }) reading
    (read_once member.node)
    there (reading_log member.log_version)
    (subst (λ o. IsHonestLog ms o reading (read_once member.node)) opening (reading_honest ms member.node))
    ((λ of signed. inr (inl (ap₂ (λ n h. (n, h)) (first_number member.log_version closing.word number) hash))), tt)
    tt (λ t i. i) reading_texts
