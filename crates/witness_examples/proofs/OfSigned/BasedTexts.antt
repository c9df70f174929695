-- The texts of a log with a base, and of the states that it comes to, have digests of their own, as they are
-- worked out.
-- Serves: premises_with_a_base_are_possible.
use Rattle.std.proofs.Common.{◌≡◌, false, inl, inr, ℕ, zero, suc, List, [], ◌∷◌, ◌++◌, map, refl, sym, ap}
use Rattle.std.proofs.Common.{Option, Some, None, ap₂, subst, ◌∙◌}
use Rattle.std.specs.Prelude.{flat_map, slice_index}
use Rattle.std.specs.List.{AllByRecursion}
use Rattle.sha2.specs.Sha256.{first_words, schedule, rounds, compress, digest_bytes, sha256}
use Rattle.sha2.specs.Sha256 as sha
use Rattle.xdr.specs.Item.{number_spelling, fixed, spelling}
use Rattle.authenticator.specs.Signing.{is_same}
use Rattle.secure_log.specs.LogEntries.Entry.{content}
use Rattle.secure_log.specs.LogEntries.Chain.{IsAmong, Link, NoCollision, chain_text, hash_after, logged_link, zeros}
use Rattle.secure_log.proofs.OfLogEntries.FewerTexts.{Within, fewer}
use Rattle.state_spec.specs.server_spec.FileItems.{file_digest}
use Rattle.state_spec.specs.State.{State, opening_client}
use Rattle.state_spec.specs.StateItems.{state_item}
use Rattle.state_spec.specs.StateText.{digest_text, state_digest}
use Rattle.state_spec.specs.Steps.{having_read}
use Rattle.witness_spec.specs.evidence_spec.Proving.{texts_of}
use Rattle.witness_spec.specs.Premises.{NoCollisionWith, base_texts, texts_in}
use Rattle.witness_examples.specs.Signed.Audited.{state_read}
use Rattle.witness_examples.specs.Signed.Based.{checked_log, first_reading, its_check, later_steps, second_reading}
use Rattle.witness_examples.specs.Signed.Based.{first_hash, check_hash, state_later, watched_later}
use Rattle.witness_examples.specs.Signed.Shown.{ones}
use Rattle.witness_examples.proofs.OfSigned.BaseStates.{parts, read_says}
use Rattle.witness_examples.proofs.OfSigned.FirstBytes.{all_differ, first_byte, link_text, no_two}

-- ---- the digests, byte by byte

-- the digest of the state after the first reading
abbrev read_digest : List ℕ
read_digest =
    153 ∷ 199 ∷ 109 ∷ 187 ∷ 189 ∷ 147 ∷ 46 ∷ 188 ∷ 238 ∷ 24 ∷ 132 ∷ 43 ∷ 246 ∷ 244 ∷ 235 ∷ 243 ∷
    169 ∷ 142 ∷ 184 ∷ 119 ∷ 252 ∷ 227 ∷ 129 ∷ 188 ∷ 142 ∷ 138 ∷ 38 ∷ 198 ∷ 204 ∷ 187 ∷ 123 ∷ 174 ∷ []

-- of the state before it
abbrev opening_digest : List ℕ
opening_digest =
    206 ∷ 142 ∷ 2 ∷ 211 ∷ 222 ∷ 38 ∷ 28 ∷ 35 ∷ 71 ∷ 74 ∷ 63 ∷ 218 ∷ 110 ∷ 0 ∷ 53 ∷ 218 ∷
    236 ∷ 62 ∷ 88 ∷ 95 ∷ 192 ∷ 114 ∷ 244 ∷ 79 ∷ 193 ∷ 248 ∷ 250 ∷ 2 ∷ 79 ∷ 61 ∷ 66 ∷ 132 ∷ []

-- of the state after the second
abbrev later_digest : List ℕ
later_digest =
    31 ∷ 128 ∷ 178 ∷ 78 ∷ 254 ∷ 12 ∷ 47 ∷ 135 ∷ 111 ∷ 179 ∷ 68 ∷ 172 ∷ 14 ∷ 2 ∷ 55 ∷ 62 ∷
    117 ∷ 134 ∷ 63 ∷ 56 ∷ 179 ∷ 53 ∷ 189 ∷ 174 ∷ 151 ∷ 36 ∷ 181 ∷ 225 ∷ 78 ∷ 71 ∷ 14 ∷ 165 ∷ []

-- the digests of the contents
abbrev first_content : List ℕ
first_content =
    203 ∷ 188 ∷ 72 ∷ 117 ∷ 13 ∷ 235 ∷ 184 ∷ 83 ∷ 80 ∷ 147 ∷ 179 ∷ 222 ∷ 175 ∷ 136 ∷ 172 ∷ 127 ∷
    76 ∷ 255 ∷ 135 ∷ 66 ∷ 85 ∷ 118 ∷ 165 ∷ 141 ∷ 226 ∷ 186 ∷ 199 ∷ 84 ∷ 172 ∷ 219 ∷ 70 ∷ 22 ∷ []

-- that of the CHECK
abbrev check_content : List ℕ
check_content =
    250 ∷ 155 ∷ 111 ∷ 100 ∷ 124 ∷ 60 ∷ 164 ∷ 27 ∷ 22 ∷ 118 ∷ 232 ∷ 168 ∷ 86 ∷ 128 ∷ 224 ∷ 194 ∷
    18 ∷ 228 ∷ 21 ∷ 148 ∷ 253 ∷ 224 ∷ 222 ∷ 236 ∷ 139 ∷ 219 ∷ 226 ∷ 29 ∷ 37 ∷ 132 ∷ 96 ∷ 164 ∷ []

-- that of the second reading
abbrev second_content : List ℕ
second_content =
    14 ∷ 51 ∷ 123 ∷ 121 ∷ 151 ∷ 121 ∷ 233 ∷ 102 ∷ 32 ∷ 27 ∷ 126 ∷ 149 ∷ 163 ∷ 38 ∷ 229 ∷ 100 ∷
    38 ∷ 127 ∷ 164 ∷ 214 ∷ 87 ∷ 48 ∷ 98 ∷ 227 ∷ 222 ∷ 111 ∷ 120 ∷ 53 ∷ 208 ∷ 98 ∷ 61 ∷ 23 ∷ []

-- the digests of the other digests
abbrev opening_of_digest : List ℕ
opening_of_digest =
    177 ∷ 146 ∷ 50 ∷ 250 ∷ 205 ∷ 222 ∷ 77 ∷ 63 ∷ 13 ∷ 142 ∷ 212 ∷ 69 ∷ 100 ∷ 43 ∷ 173 ∷ 218 ∷
    151 ∷ 94 ∷ 157 ∷ 138 ∷ 19 ∷ 46 ∷ 35 ∷ 196 ∷ 70 ∷ 98 ∷ 217 ∷ 73 ∷ 72 ∷ 250 ∷ 113 ∷ 20 ∷ []

-- of the other
abbrev later_of_digest : List ℕ
later_of_digest =
    111 ∷ 70 ∷ 106 ∷ 55 ∷ 124 ∷ 12 ∷ 139 ∷ 250 ∷ 84 ∷ 3 ∷ 165 ∷ 55 ∷ 251 ∷ 203 ∷ 171 ∷ 50 ∷
    72 ∷ 95 ∷ 247 ∷ 77 ∷ 60 ∷ 0 ∷ 18 ∷ 172 ∷ 96 ∷ 40 ∷ 40 ∷ 16 ∷ 238 ∷ 0 ∷ 49 ∷ 147 ∷ []

-- and those of the chain
abbrev first_link_bytes : List ℕ
first_link_bytes =
    32 ∷ 175 ∷ 201 ∷ 1 ∷ 112 ∷ 158 ∷ 218 ∷ 145 ∷ 163 ∷ 137 ∷ 62 ∷ 202 ∷ 58 ∷ 224 ∷ 99 ∷ 13 ∷
    78 ∷ 9 ∷ 153 ∷ 159 ∷ 69 ∷ 246 ∷ 93 ∷ 199 ∷ 93 ∷ 25 ∷ 200 ∷ 252 ∷ 111 ∷ 178 ∷ 111 ∷ 255 ∷ []

-- at the CHECK
abbrev check_link_bytes : List ℕ
check_link_bytes =
    134 ∷ 246 ∷ 162 ∷ 204 ∷ 67 ∷ 243 ∷ 200 ∷ 0 ∷ 109 ∷ 171 ∷ 250 ∷ 194 ∷ 221 ∷ 164 ∷ 117 ∷ 53 ∷
    178 ∷ 140 ∷ 191 ∷ 246 ∷ 25 ∷ 61 ∷ 21 ∷ 37 ∷ 186 ∷ 6 ∷ 103 ∷ 7 ∷ 122 ∷ 13 ∷ 201 ∷ 99 ∷ []

-- at the second reading
abbrev second_link_bytes : List ℕ
second_link_bytes =
    98 ∷ 190 ∷ 156 ∷ 120 ∷ 87 ∷ 64 ∷ 162 ∷ 111 ∷ 114 ∷ 108 ∷ 120 ∷ 121 ∷ 149 ∷ 167 ∷ 9 ∷ 254 ∷
    14 ∷ 191 ∷ 111 ∷ 78 ∷ 182 ∷ 9 ∷ 156 ∷ 220 ∷ 42 ∷ 194 ∷ 143 ∷ 88 ∷ 101 ∷ 221 ∷ 30 ∷ 220 ∷ []

-- ---- how they are worked out

-- the text under the digest of a client's state of a time
abbrev text_at : (seconds : ℕ) → List ℕ
text_at seconds = spelling (state_item (fixed 32)) (parts (fixed 32) [] [] seconds)

-- the text under a state's digest is that
text_is : (seconds : ℕ)
    → digest_text (having_read (opening_client 5) (record { seconds = seconds; microseconds = 0 }))
    ≡ text_at seconds
text_is seconds = ap (spelling (state_item (fixed 32))) (read_says (fixed 32) file_digest seconds)

opening_from : sha256 (text_at 0) ≡ opening_digest
unfolding first_words schedule rounds compress sha.hash_after digest_bytes sha256 number_spelling
opening_from = refl

read_from : sha256 (text_at 1) ≡ read_digest
unfolding first_words schedule rounds compress sha.hash_after digest_bytes sha256 number_spelling
read_from = refl

later_from : sha256 (text_at 3) ≡ later_digest
unfolding first_words schedule rounds compress sha.hash_after digest_bytes sha256 number_spelling
later_from = refl

opening_worked : sha256 (digest_text (opening_client 5)) ≡ opening_digest
opening_worked = ap sha256 (text_is 0) ∙ opening_from

read_worked : sha256 (digest_text state_read) ≡ read_digest
read_worked = ap sha256 (text_is 1) ∙ read_from

later_worked : sha256 (digest_text state_later) ≡ later_digest
later_worked = ap sha256 (text_is 3) ∙ later_from

opening_again : sha256 opening_digest ≡ opening_of_digest
unfolding first_words schedule rounds compress sha.hash_after digest_bytes sha256
opening_again = refl

read_again : sha256 read_digest ≡ check_content
unfolding first_words schedule rounds compress sha.hash_after digest_bytes sha256
read_again = refl

later_again : sha256 later_digest ≡ later_of_digest
unfolding first_words schedule rounds compress sha.hash_after digest_bytes sha256
later_again = refl

opening_twice : sha256 (state_digest (opening_client 5)) ≡ opening_of_digest
unfolding state_digest
opening_twice = ap sha256 opening_worked ∙ opening_again

read_twice : sha256 (state_digest state_read) ≡ check_content
unfolding state_digest
read_twice = ap sha256 read_worked ∙ read_again

later_twice : sha256 (state_digest state_later) ≡ later_of_digest
unfolding state_digest
later_twice = ap sha256 later_worked ∙ later_again

first_worked : sha256 (content first_reading.entry) ≡ first_content
unfolding first_words schedule rounds compress sha.hash_after digest_bytes sha256 content number_spelling
first_worked = refl

check_worked : sha256 (content its_check.entry) ≡ check_content
unfolding content
check_worked = read_twice

second_worked : sha256 (content second_reading.entry) ≡ second_content
unfolding first_words schedule rounds compress sha.hash_after digest_bytes sha256 content number_spelling
second_worked = refl

-- the links of the log
abbrev first_link : Link
first_link = logged_link 1 first_reading

abbrev check_link : Link
check_link = logged_link 2 its_check

abbrev second_link : Link
second_link = logged_link 3 second_reading

first_link_from : sha256 (link_text zeros 1 4 first_content) ≡ first_link_bytes
unfolding first_words schedule rounds compress sha.hash_after digest_bytes sha256 zeros number_spelling chain_text
first_link_from = refl

first_link_worked : sha256 (chain_text zeros first_link) ≡ first_link_bytes
first_link_worked = ap (λ d. sha256 (link_text zeros 1 4 d)) first_worked ∙ first_link_from

check_link_from : sha256 (link_text first_link_bytes 2 5 check_content) ≡ check_link_bytes
unfolding first_words schedule rounds compress sha.hash_after digest_bytes sha256 number_spelling chain_text
check_link_from = refl

check_link_worked : sha256 (chain_text first_hash check_link) ≡ check_link_bytes
unfolding hash_after
check_link_worked = ap₂ (λ h d. sha256 (link_text h 2 5 d)) first_link_worked check_worked ∙ check_link_from

-- The hash at the CHECK is this, and so no other.
check_hash_is : check_hash ≡ check_link_bytes
unfolding hash_after
check_hash_is = check_link_worked

pub ones_apart : is_same ones check_hash ≡ false
ones_apart = ap (is_same ones) check_hash_is

second_link_from : sha256 (link_text check_link_bytes 3 4 second_content) ≡ second_link_bytes
unfolding first_words schedule rounds compress sha.hash_after digest_bytes sha256 number_spelling chain_text
second_link_from = refl

second_link_worked : sha256 (chain_text check_hash second_link) ≡ second_link_bytes
unfolding hash_after
second_link_worked =
    ap₂ (λ h d. sha256 (link_text h 3 4 d)) check_link_worked second_worked ∙ second_link_from

-- ---- all texts

-- each text once: those of the chain, of the entries, and of the states
abbrev texts : List (List ℕ)
texts =
    chain_text zeros first_link ∷ chain_text first_hash check_link ∷ chain_text check_hash second_link
    ∷ content first_reading.entry ∷ content its_check.entry ∷ content second_reading.entry
    ∷ digest_text (opening_client 5) ∷ digest_text state_read ∷ digest_text state_later
    ∷ state_digest (opening_client 5) ∷ state_digest state_later ∷ []

-- the first bytes of their digests
first_bytes_are : map first_byte texts
    ≡ 32 ∷ 134 ∷ 98 ∷ 203 ∷ 250 ∷ 14 ∷ 206 ∷ 153 ∷ 31 ∷ 177 ∷ 111 ∷ []
first_bytes_are =
    let first = λ (d : List ℕ). slice_index d 0 in
    λ k. first (first_link_worked k) ∷ first (check_link_worked k) ∷ first (second_link_worked k)
    ∷ first (first_worked k) ∷ first (check_worked k) ∷ first (second_worked k)
    ∷ first (opening_worked k) ∷ first (read_worked k) ∷ first (later_worked k)
    ∷ first (opening_twice k) ∷ first (later_twice k) ∷ []

-- no two of them have one digest
texts_differ : NoCollision texts
texts_differ = no_two texts (ap all_differ first_bytes_are)

-- texts of which each is among some
each_within : (few many : List (List ℕ)) → AllByRecursion (λ t. IsAmong t many) few → Within few many
each_within [] many h t i = absurd i
each_within (x ∷ few) many h t (inl e) = subst (λ s. IsAmong s many) (sym e) h.0
each_within (x ∷ few) many h t (inr i) = each_within few many h.1 t i

-- the states that the log comes to, with the one that it begins with
abbrev states : List State
states = opening_client 5 ∷ state_read ∷ state_read ∷ state_later ∷ []

-- those of the log, of the base and the states, and of what was answered
abbrev all_texts : (secret : List ℕ) → List (List ℕ)
all_texts secret =
    texts_of checked_log
    ++ (base_texts (watched_later secret).base states ++ flat_map (λ p. texts_in p.0) (later_steps secret))

-- the text at a place, if there is one
abbrev text_of : List (List ℕ) → ℕ → Option (List ℕ)
text_of [] k = None
text_of (t ∷ ts) zero = Some t
text_of (t ∷ ts) (suc k) = text_of ts k

is_at : (ts : List (List ℕ)) (k : ℕ) {t : List ℕ} → text_of ts k ≡ Some t → IsAmong t ts
is_at [] k e = absurd (cc)
is_at (x ∷ ts) zero e = inl (cc)
is_at (x ∷ ts) (suc k) e = inr (is_at ts k e)

-- texts that stand at these places are among them
are_at : (places : List ℕ) (ts : List (List ℕ)) → map (text_of texts) places ≡ map Some ts
    → AllByRecursion (λ t. IsAmong t texts) ts
are_at [] [] e = tt
are_at [] (t ∷ ts) e = absurd (cc)
are_at (k ∷ places) [] e = absurd (cc)
are_at (k ∷ places) (t ∷ ts) e = (is_at texts k (cc), are_at places ts (cc))

-- Each is one of these; the text of the CHECK is the digest of its state.
each_is : (secret : List ℕ) → AllByRecursion (λ t. IsAmong t texts) (all_texts secret)
unfolding content
each_is secret =
    are_at (0 ∷ 1 ∷ 2 ∷ 3 ∷ 4 ∷ 5 ∷ 1 ∷ 2 ∷ 7 ∷ 4 ∷
    6 ∷ 9 ∷ 7 ∷ 4 ∷ 7 ∷ 4 ∷ 8 ∷ 10 ∷ 2 ∷ 5 ∷ []) (all_texts secret) refl

-- No two texts have one digest.
pub unlike : (secret : List ℕ)
    → NoCollisionWith (watched_later secret) checked_log states (later_steps secret)
unlike secret =
    fewer (all_texts secret) texts (each_within (all_texts secret) texts (each_is secret)) texts_differ
