-- The nine texts of the log of a server that answered have nine digests, as they are worked out.
-- Serves: premises_of_answers_are_possible.
use Rattle.std.proofs.Common.{◌≡◌, ℕ, List, [], ◌∷◌, map, refl, ap, ap₂, ◌∙◌}
use Rattle.std.specs.Prelude.{slice_index}
use Rattle.sha2.specs.Sha256.{first_words, schedule, rounds, compress, digest_bytes, sha256}
use Rattle.sha2.specs.Sha256 as sha
use Rattle.xdr.specs.Item.{number_spelling}
use Rattle.replay_spec.specs.LogLaws.HonestServers.{next_logged}
use Rattle.secure_log.specs.declared.log_entries.entry.Entry.{Entry}
use Rattle.secure_log.specs.declared.log_entries.entry.Entry.TheVariants.{Recv, Clock, Send}
use Rattle.secure_log.specs.LogEntries.Entry.{content, send_content, recv_content}
use Rattle.secure_log.specs.LogEntries.Chain.{Link, NoCollision, chain_text, hash_after, logged_link}
use Rattle.secure_log.specs.LogEntries.Chain.{without_gaps, zeros}
use Rattle.secure_log.specs.LogEntries.Signatures.{signature_digest}
use Rattle.state_spec.specs.State.{State}
use Rattle.witness_spec.specs.evidence_spec.Proving.{texts_of, signature_text}
use Rattle.witness_spec.specs.Premises.{NoCollisionWith}
use Rattle.witness_examples.specs.Reaching.{watched_in}
use Rattle.witness_examples.specs.Signed.Served.{call, reply, call_signature, served, served_steps}
use Rattle.witness_examples.specs.Signed.Served.{server, server_and_caller}
use Rattle.witness_examples.proofs.OfSigned.Auditing.{in_both}
use Rattle.witness_examples.proofs.OfSigned.FirstBytes.{all_differ, first_byte, link_text, no_two}
use Rattle.witness_examples.proofs.OfSigned.ZeroBlocks.{signature_bytes, signature_worked}

-- ---- the nine texts

abbrev received : Entry
received = Recv 6 1 zeros call call_signature

abbrev read : Entry
read = Clock 1 0

abbrev sent : Entry
sent = Send 6 reply

-- the digests, byte by byte: those of the bodies,
abbrev call_bytes : List ℕ
call_bytes =
    231 ∷ 61 ∷ 180 ∷ 30 ∷ 234 ∷ 211 ∷ 130 ∷ 156 ∷ 228 ∷ 170 ∷ 207 ∷ 44 ∷ 38 ∷ 241 ∷ 79 ∷ 143 ∷
    254 ∷ 230 ∷ 180 ∷ 128 ∷ 187 ∷ 128 ∷ 83 ∷ 188 ∷ 69 ∷ 113 ∷ 68 ∷ 61 ∷ 228 ∷ 248 ∷ 189 ∷ 137 ∷ []

abbrev reply_bytes : List ℕ
reply_bytes =
    107 ∷ 155 ∷ 186 ∷ 134 ∷ 52 ∷ 57 ∷ 132 ∷ 53 ∷ 11 ∷ 135 ∷ 70 ∷ 6 ∷ 59 ∷ 10 ∷ 120 ∷ 234 ∷
    7 ∷ 27 ∷ 185 ∷ 54 ∷ 137 ∷ 232 ∷ 202 ∷ 193 ∷ 110 ∷ 24 ∷ 76 ∷ 145 ∷ 115 ∷ 104 ∷ 48 ∷ 54 ∷ []

-- of the contents,
abbrev received_bytes : List ℕ
received_bytes =
    49 ∷ 197 ∷ 44 ∷ 223 ∷ 221 ∷ 186 ∷ 63 ∷ 91 ∷ 15 ∷ 80 ∷ 156 ∷ 203 ∷ 111 ∷ 180 ∷ 43 ∷ 61 ∷
    87 ∷ 108 ∷ 102 ∷ 141 ∷ 146 ∷ 249 ∷ 152 ∷ 102 ∷ 140 ∷ 129 ∷ 71 ∷ 247 ∷ 147 ∷ 12 ∷ 68 ∷ 27 ∷ []

abbrev read_bytes : List ℕ
read_bytes =
    203 ∷ 188 ∷ 72 ∷ 117 ∷ 13 ∷ 235 ∷ 184 ∷ 83 ∷ 80 ∷ 147 ∷ 179 ∷ 222 ∷ 175 ∷ 136 ∷ 172 ∷ 127 ∷
    76 ∷ 255 ∷ 135 ∷ 66 ∷ 85 ∷ 118 ∷ 165 ∷ 141 ∷ 226 ∷ 186 ∷ 199 ∷ 84 ∷ 172 ∷ 219 ∷ 70 ∷ 22 ∷ []

abbrev sent_bytes : List ℕ
sent_bytes =
    130 ∷ 219 ∷ 205 ∷ 167 ∷ 239 ∷ 133 ∷ 227 ∷ 155 ∷ 237 ∷ 171 ∷ 162 ∷ 60 ∷ 112 ∷ 31 ∷ 225 ∷ 36 ∷
    240 ∷ 171 ∷ 156 ∷ 141 ∷ 158 ∷ 204 ∷ 118 ∷ 192 ∷ 168 ∷ 197 ∷ 17 ∷ 187 ∷ 191 ∷ 208 ∷ 15 ∷ 232 ∷ []

-- and of the chain
abbrev first_bytes : List ℕ
first_bytes =
    25 ∷ 70 ∷ 113 ∷ 154 ∷ 58 ∷ 31 ∷ 74 ∷ 175 ∷ 46 ∷ 93 ∷ 153 ∷ 0 ∷ 207 ∷ 0 ∷ 207 ∷ 176 ∷
    249 ∷ 143 ∷ 209 ∷ 194 ∷ 111 ∷ 143 ∷ 1 ∷ 245 ∷ 36 ∷ 159 ∷ 125 ∷ 139 ∷ 218 ∷ 200 ∷ 153 ∷ 207 ∷ []

abbrev second_bytes : List ℕ
second_bytes =
    45 ∷ 223 ∷ 255 ∷ 37 ∷ 39 ∷ 164 ∷ 210 ∷ 246 ∷ 229 ∷ 6 ∷ 103 ∷ 192 ∷ 140 ∷ 233 ∷ 41 ∷ 233 ∷
    21 ∷ 97 ∷ 218 ∷ 89 ∷ 24 ∷ 116 ∷ 176 ∷ 68 ∷ 213 ∷ 133 ∷ 207 ∷ 66 ∷ 233 ∷ 125 ∷ 135 ∷ 245 ∷ []

abbrev third_bytes : List ℕ
third_bytes =
    61 ∷ 63 ∷ 50 ∷ 198 ∷ 131 ∷ 37 ∷ 230 ∷ 58 ∷ 119 ∷ 219 ∷ 63 ∷ 139 ∷ 105 ∷ 109 ∷ 32 ∷ 205 ∷
    105 ∷ 79 ∷ 196 ∷ 4 ∷ 84 ∷ 102 ∷ 148 ∷ 157 ∷ 119 ∷ 239 ∷ 202 ∷ 161 ∷ 235 ∷ 174 ∷ 122 ∷ 72 ∷ []

call_worked : sha256 call ≡ call_bytes
unfolding first_words schedule rounds compress sha.hash_after digest_bytes sha256
call_worked = refl

reply_worked : sha256 reply ≡ reply_bytes
unfolding first_words schedule rounds compress sha.hash_after digest_bytes sha256
reply_worked = refl

received_from : sha256 (recv_content 6 1 zeros call_bytes signature_bytes) ≡ received_bytes
unfolding first_words schedule rounds compress sha.hash_after digest_bytes sha256 zeros number_spelling
received_from = refl

received_worked : sha256 (content received) ≡ received_bytes
unfolding content
received_worked =
    ap₂ (λ b d. sha256 (recv_content 6 1 zeros b d)) call_worked signature_worked ∙ received_from

read_worked : sha256 (content read) ≡ read_bytes
unfolding first_words schedule rounds compress sha.hash_after digest_bytes sha256 content number_spelling
read_worked = refl

sent_from : sha256 (send_content 6 reply_bytes) ≡ sent_bytes
unfolding first_words schedule rounds compress sha.hash_after digest_bytes sha256 number_spelling
sent_from = refl

sent_worked : sha256 (content sent) ≡ sent_bytes
unfolding content
sent_worked = ap (λ b. sha256 (send_content 6 b)) reply_worked ∙ sent_from

first_from : sha256 (link_text zeros 1 2 received_bytes) ≡ first_bytes
unfolding first_words schedule rounds compress sha.hash_after digest_bytes sha256 zeros number_spelling
    chain_text
first_from = refl

-- the links of the log
abbrev first_link : Link
first_link = logged_link 1 (next_logged received)

abbrev second_link : Link
second_link = logged_link 2 (next_logged read)

abbrev third_link : Link
third_link = logged_link 3 (next_logged sent)

first_worked : sha256 (chain_text zeros first_link) ≡ first_bytes
first_worked = ap (λ d. sha256 (link_text zeros 1 2 d)) received_worked ∙ first_from

second_from : sha256 (link_text first_bytes 2 4 read_bytes) ≡ second_bytes
unfolding first_words schedule rounds compress sha.hash_after digest_bytes sha256 number_spelling chain_text
second_from = refl

second_worked : sha256 (chain_text (hash_after zeros first_link) second_link) ≡ second_bytes
unfolding hash_after
second_worked = ap₂ (λ h d. sha256 (link_text h 2 4 d)) first_worked read_worked ∙ second_from

third_from : sha256 (link_text second_bytes 3 1 sent_bytes) ≡ third_bytes
unfolding first_words schedule rounds compress sha.hash_after digest_bytes sha256 number_spelling chain_text
third_from = refl

third_worked : sha256 (chain_text (hash_after (hash_after zeros first_link) second_link) third_link) ≡ third_bytes
unfolding hash_after
third_worked = ap₂ (λ h d. sha256 (link_text h 3 1 d)) second_worked sent_worked ∙ third_from

signature_text_worked : sha256 (signature_text call_signature) ≡ signature_bytes
unfolding signature_digest
signature_text_worked = signature_worked

-- the first bytes of their digests
first_bytes_are : map first_byte (texts_of (without_gaps served))
    ≡ 25 ∷ 45 ∷ 61 ∷ 49 ∷ 231 ∷ 55 ∷ 203 ∷ 130 ∷ 107 ∷ []
first_bytes_are =
    let first = λ (d : List ℕ). slice_index d 0 in
    λ k. first (first_worked k) ∷ first (second_worked k) ∷ first (third_worked k)
    ∷ first (received_worked k) ∷ first (call_worked k) ∷ first (signature_text_worked k)
    ∷ first (read_worked k) ∷ first (sent_worked k) ∷ first (reply_worked k) ∷ []

-- no two of them have one digest
texts_differ : NoCollision (texts_of (without_gaps served))
texts_differ = no_two (texts_of (without_gaps served)) (ap all_differ first_bytes_are)

-- no two texts of the log and of what was answered have one digest
pub unlike : (secret : List ℕ) (states : List State)
    → NoCollisionWith (watched_in (server_and_caller secret) (server secret)) (without_gaps served)
    states (served_steps secret)
unlike secret states s t i j e =
    let texts = texts_of (without_gaps served) in
    texts_differ s t (in_both s texts i) (in_both t texts j) e
