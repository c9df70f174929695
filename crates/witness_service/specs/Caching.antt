-- What a cache of signatures keeps.
use Rattle.std.specs.Prelude.{◌≡◌, ◌⊎◌, ◌<◌, ℕ, ◌-◌, Bool, false, ◌||◌, if◌then◌else◌, List, [], ◌∷◌, ◌++◌}
use Rattle.std.specs.Prelude.{map}
use Rattle.std.specs.Prelude.{take, nat_eq, Contains, Option, Some, None, IfSome, Result, Ok, Err}
use Rattle.std.specs.Cmp.Lexicographic.{pointwise}
use Rattle.lru.specs.LruCache.{LruCache}
use Rattle.xdr.specs.Item.{Item, Value, Fits, fixed, number_spelling, pair, spelling, word}
use Rattle.merkle_keys.specs.Signing.{Signed}
use Rattle.authenticator.specs.Roster.{member_of}
use Rattle.authenticator.specs.Signed.{authenticator_item, authenticator_value, signed_digest}
use Rattle.authenticator.specs.declared.authenticator.Authenticator.{Authenticator}
use Rattle.authenticator.specs.declared.member.Member.{Member}
use Rattle.authenticator.specs.declared.refusal.Refusal.{Refusal}
use Rattle.packets.specs.Packet.{Delivery, delivery_shows}

-- ---- keys

-- What a signature is kept by (RFC 4506): the root and the height under which it was checked, and the whole
-- authenticator.
abbrev pub key_item : Item
key_item = pair (fixed 32) (pair word authenticator_item)

-- what a key says
abbrev pub key_value : (root : List ℕ) → (height : ℕ) → Authenticator → Value key_item
key_value root height a = (root, (height, authenticator_value a))

-- the bytes of a key
abbrev pub key_text : (root : List ℕ) → (height : ℕ) → Authenticator → List ℕ
key_text root height a = spelling key_item (key_value root height a)

-- the bytes of the key of what may be an authenticator's text
abbrev pub key_bytes : (root : List ℕ) → (height : ℕ) → (text : List ℕ) → List ℕ
key_bytes root height text = root ++ number_spelling 4 height ++ text

-- the authenticator's signature is one under a root of a height
abbrev pub IsSignedUnder : (root : List ℕ) → (height : ℕ) → Authenticator → Type 0
IsSignedUnder root height a = Signed root height (signed_digest a.node a.word a.hash) a.signature

-- The bytes are the key of an authenticator whose signature is one under the key's root and height.
pub record IsSignedKey (bytes : List ℕ) : Type 0 where
  pub root : List ℕ
  pub height : ℕ
  pub authenticator : Authenticator
  pub text : bytes ≡ key_text root height authenticator
  pub fits : Fits key_item (key_value root height authenticator)
  pub signed : IsSignedUnder root height authenticator

-- ---- what is kept

-- What a caller sees of a cache: how many keys it may keep, and the bytes of those that it keeps, the one
-- that was used last first.
pub record CacheParts : Type 0 where
  pub capacity : ℕ
  pub keys : List (List ℕ)

-- what is kept, each key seen as its bytes
abbrev pub Entries : Type 0
Entries = LruCache (List ℕ) (Unit {0})

-- the bytes of the keys
abbrev pub bytes_of : List (List ℕ × Unit {0}) → List (List ℕ)
bytes_of entries = map (λ e. e.0) entries

abbrev pub keys_of : Option Entries → List (List ℕ)
keys_of None = []
keys_of (Some kept) = bytes_of kept.entries

-- each key that is kept is that of a signature
abbrev pub AreSigned : List (List ℕ × Unit {0}) → Type 0
AreSigned entries = (e : List ℕ × Unit {0}) → Contains entries e → IsSignedKey e.0

-- So many keys may be kept, and each that is kept is that of a signature.
pub record Holds (capacity : ℕ) (kept : Entries) : Type 0 where
  pub some : 0 < capacity
  pub room : kept.cap ≡ capacity
  pub signed : AreSigned kept.entries

-- The same, where nothing may be kept yet.
abbrev pub MayHold : (capacity : ℕ) → Option Entries → Type 0
MayHold capacity kept = IfSome kept (Holds capacity)

-- ---- how it is used

-- whether these bytes are kept
abbrev pub is_kept : List (List ℕ) → List ℕ → Bool
is_kept [] bytes = false
is_kept (key ∷ keys) bytes = pointwise nat_eq bytes key || is_kept keys bytes

-- the keys without this one
abbrev pub without : (key : List ℕ) → List (List ℕ) → List (List ℕ)
without key [] = []
without key (k ∷ keys) = if pointwise nat_eq key k then keys else k ∷ without key keys

-- A key that is used goes first. One that wasn't kept is put there, and the last one goes
-- where there are too many.
abbrev pub used : (capacity : ℕ) → (key : List ℕ) → List (List ℕ) → List (List ℕ)
used capacity key keys =
    key ∷ (if is_kept keys key then without key keys else take (capacity - 1) keys)

-- A key may have been used: the cache is as before, or the key goes first.
abbrev pub MayUse : (key : List ℕ) → (old new : CacheParts) → Type 0
MayUse key old new =
    (new ≡ old) ⊎
    ((0 < old.capacity) × (new ≡ record { capacity = old.capacity; keys = used old.capacity key old.keys }))

-- What a cache holds after a packet is taken or refused: where it is refused, what it held; else the
-- key of the authenticator that the packet shows may have been used, under the root and the height of
-- the member that signs it.
abbrev pub MayKeep : List Member → Result Delivery Refusal → (old new : CacheParts) → Type 0
MayKeep ms (Ok d) old new =
    IfSome (member_of ms (delivery_shows d).node)
    (λ m. MayUse (key_text m.root m.height (delivery_shows d)) old new)
MayKeep ms (Err refusal) old new = new ≡ old
