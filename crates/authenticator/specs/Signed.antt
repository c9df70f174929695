-- What an authenticator says, and what it means that it is signed.
use Rattle.std.specs.Prelude.{ℕ, true, List, ◌++◌, IsSomeAnd}
use Rattle.sha2.specs.Sha256.{sha256}
use Rattle.xdr.specs.Item.{Item, Value, word, fixed, pair, number_spelling}
use Rattle.xdr.specs.Texts.Text.{Text}
use Rattle.merkle_keys.specs.Signing.{Signed, signature_item, signature_value}
use Rattle.authenticator.specs.Numbers.{number_item}
use Rattle.authenticator.specs.Roster.{member_of}
use Rattle.authenticator.specs.declared.member.Member.{Member}
use Rattle.authenticator.specs.declared.authenticator.Authenticator.{Authenticator}

-- The digest that a node signs for an entry's word and the hash there: of the node in four bytes, the word in
-- eight, and the hash.
unfoldable pub signed_digest : (node entry_word : ℕ) (hash : List ℕ) → List ℕ
signed_digest node entry_word hash =
    sha256 (number_spelling 4 node ++ number_spelling 8 entry_word ++ hash)

-- An authenticator's signature is a member's.
abbrev pub IsSignedBy : Member → Authenticator → Type 0
IsSignedBy m a = Signed m.root m.height (signed_digest a.node a.word a.hash) a.signature

-- It is that of the member of a roster that it names.
abbrev pub IsSignedIn : List Member → Authenticator → Type 0
IsSignedIn ms a = IsSomeAnd (member_of ms a.node) (λ m. IsSignedBy m a)

-- An authenticator in a text (RFC 4506): node, word, hash and signature.
abbrev pub authenticator_item : Item
authenticator_item = pair word (pair number_item (pair (fixed 32) signature_item))

-- what the text says
abbrev pub authenticator_value : Authenticator → Value authenticator_item
authenticator_value a = (a.node, (a.word, (a.hash, signature_value a.signature)))

-- its text, after which nothing may follow
abbrev pub authenticator_text : Text
authenticator_text = record { item = authenticator_item; test = λ _. true }
