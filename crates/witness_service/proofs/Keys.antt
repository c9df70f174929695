-- Keys of signatures, and those that are kept.
-- Serves: is_promoted, put, is_there, SignatureCache::is_signed, SignatureCache::is_signed_text,
-- SignatureCache::keep_signed, check.
use Rattle.std.proofs.Common.{◌≡◌, ◌⊎◌, ◌-◌, ℕ, Bool, true, false, if◌then◌else◌, List, [], ◌∷◌, ◌++◌}
use Rattle.std.proofs.Common.{nat_eq, Option, Some, None, Result, Ok, Err, OnOk, OnErr, is_some}
use Rattle.std.proofs.Common.{inl, inr, refl, sym, ap, ◌∙◌, subst, append-nil, append_assoc}
use Rattle.std.proofs.lemmas.List.{take-map}
use Rattle.std.specs.Cmp.Lexicographic.{pointwise}
use Rattle.std.specs.Map.{lookup, lookup_entry, remove_entry}
use Rattle.lru.specs.LruCache.{lru_cache, promoted, put_entries}
use Rattle.lru.proofs.CallerLemmas.{Contains-lookup, Contains-lookup_entry, Contains-promoted}
use Rattle.lru.proofs.CallerLemmas.{Contains-put_entries}
use Rattle.xdr.specs.Item.{Fits, Value, number_spelling, spelling}
use Rattle.xdr.specs.Texts.Text.{IsText}
use Rattle.authenticator.specs.Signed.{authenticator_item, authenticator_text, authenticator_value}
use Rattle.authenticator.specs.declared.authenticator.Authenticator.{Authenticator}
use Rattle.authenticator.proofs.Signed.{same_list}
use Rattle.witness_service.specs.Caching.{AreSigned, Entries, Holds, IsSignedKey, IsSignedUnder}
use Rattle.witness_service.specs.Caching.{bytes_of, is_kept, key_bytes, key_item, key_text, key_value}
use Rattle.witness_service.specs.Caching.{used, without}

abbrev Entry : Type 0
Entry = List ℕ × Unit {0}

-- whether a key has these bytes
abbrev has : (bytes key : List ℕ) → Bool
has = pointwise nat_eq

-- ---- what is found

-- a look-up says whether bytes are kept
pub kept_as : (bytes : List ℕ) (es : List Entry)
    → is_some (lookup (has bytes) es) ≡ is_kept (bytes_of es) bytes
kept_as bytes [] = refl
kept_as bytes (e ∷ es) = at (kept_as bytes es) (has bytes e.0) refl
  where
    at : is_some (lookup (has bytes) es) ≡ is_kept (bytes_of es) bytes → (b : Bool) → has bytes e.0 ≡ b
        → is_some (lookup (has bytes) (e ∷ es)) ≡ is_kept (bytes_of (e ∷ es)) bytes
    at rest true is = rw is refl
    at rest false is = rw is rest

-- so does one for the entry
entry_as : (bytes : List ℕ) (es : List Entry)
    → is_some (lookup_entry (has bytes) es) ≡ is_kept (bytes_of es) bytes
entry_as bytes [] = refl
entry_as bytes (e ∷ es) = at (entry_as bytes es) (has bytes e.0) refl
  where
    at : is_some (lookup_entry (has bytes) es) ≡ is_kept (bytes_of es) bytes → (b : Bool) → has bytes e.0 ≡ b
        → is_some (lookup_entry (has bytes) (e ∷ es)) ≡ is_kept (bytes_of (e ∷ es)) bytes
    at rest true is = rw is refl
    at rest false is = rw is rest

-- a key that was found is that of a signature
pub found_key : (bytes : List ℕ) (es : List Entry) → AreSigned es → is_some (lookup (has bytes) es) ≡ true
    → IsSignedKey bytes
found_key bytes es signed found = at (lookup (has bytes) es) refl found
  where
    at : (o : Option (Unit {0})) → lookup (has bytes) es ≡ o → is_some o ≡ true → IsSignedKey bytes
    at None is some = absurd (never some)
      where
        never : false ≡ true → ⊥
        never h = cc
    at (Some v) is some =
        let c = Contains-lookup (has bytes) es v is in
        subst IsSignedKey (sym (same_list bytes c.0 c.2)) (signed (c.0, v) c.1)

-- ---- what is kept

-- what is left without an entry
removed : (bytes : List ℕ) (es : List Entry)
    → bytes_of (remove_entry (has bytes) es) ≡ without bytes (bytes_of es)
removed bytes [] = refl
removed bytes (e ∷ es) = at (removed bytes es) (has bytes e.0) refl
  where
    at : bytes_of (remove_entry (has bytes) es) ≡ without bytes (bytes_of es) → (b : Bool) → has bytes e.0 ≡ b
        → bytes_of (remove_entry (has bytes) (e ∷ es)) ≡ without bytes (bytes_of (e ∷ es))
    at rest true is = rw is refl
    at rest false is = rw is (ap (λ (l : List (List ℕ)). e.0 ∷ l) rest)

-- the keys after one was looked up and went first
pub promoted_keys : (capacity : ℕ) (bytes : List ℕ) (es : List Entry) (there : Bool)
    → there ≡ is_some (lookup (has bytes) es)
    → bytes_of (promoted (has bytes) es) ≡ (if there then used capacity bytes (bytes_of es) else bytes_of es)
promoted_keys capacity bytes es there is = at (lookup_entry (has bytes) es) refl
  where
    is_there : there ≡ is_kept (bytes_of es) bytes
    is_there = is ∙ kept_as bytes es

    at : (o : Option Entry) → lookup_entry (has bytes) es ≡ o
        → bytes_of (promoted (has bytes) es) ≡
        (if there then used capacity bytes (bytes_of es) else bytes_of es)
    at None none =
        let not_there : is_kept (bytes_of es) bytes ≡ false = sym (entry_as bytes es)
        ∙ ap (λ (o : Option Entry). is_some o) none in
        rw (none, is_there, not_there) refl
    at (Some e) some =
        let is_among : is_kept (bytes_of es) bytes ≡ true = sym (entry_as bytes es)
        ∙ ap (λ (o : Option Entry). is_some o) some in
        let own : bytes ≡ e.0 =
        same_list bytes e.0 (Contains-lookup_entry (has bytes) es e some).1 in
        rw (some, is_there, is_among, removed bytes es, ← own) refl

-- the keys after another one was put
put_keys : (c : Entries) (key : List ℕ) → is_kept (bytes_of c.entries) key ≡ false
    → bytes_of (put_entries has c key tt) ≡ used c.cap key (bytes_of c.entries)
put_keys c key absent = at (lookup_entry (has key) c.entries) refl
  where
    at : (o : Option Entry) → lookup_entry (has key) c.entries ≡ o
        → bytes_of (put_entries has c key tt) ≡ used c.cap key (bytes_of c.entries)
    at None none =
        rw (none, absent)
        (ap (λ (l : List (List ℕ)). key ∷ l)
        (sym (take-map (λ (e : Entry). e.0) (c.cap - 1) c.entries)))
    at (Some e) some = absurd (never (sym absent
        ∙ (sym (entry_as key c.entries) ∙ ap (λ (o : Option Entry). is_some o) some)))
      where
        never : false ≡ true → ⊥
        never h = cc

-- ---- calls of the map

-- what is held after a key went first
pub promoted_holds : (capacity : ℕ) (bytes : List ℕ) (old new : Entries) → Holds capacity old
    → new ≡ lru_cache (promoted (has bytes) old.entries) old.cap → Holds capacity new
promoted_holds capacity bytes old new holds is =
    subst (Holds capacity) (sym is) (record {
      some = holds.some;
      room = holds.room;
      signed = λ e in_new. holds.signed e (Contains-promoted (has bytes) old.entries e in_new);
    })

-- what is held after a key was put
pub put_holds : {E : Type 0} (r : Result (Option (Unit {0})) E) (capacity : ℕ) (old new : Entries)
    (key : List ℕ) → Holds capacity old → IsSignedKey key
    → OnOk r (new ≡ lru_cache (put_entries has old key tt) old.cap) → OnErr r (new ≡ old)
    → Holds capacity new
put_holds (Ok x) capacity old new key holds own put same =
    subst (Holds capacity) (sym put) (record {
      some = holds.some;
      room = holds.room;
      signed = λ e in_new. elim (Contains-put_entries has old key tt e in_new) [
        | inl in_old ↦ holds.signed e in_old
        | inr p ↦ elim p.1 [
          | inl q ↦ subst IsSignedKey (sym q) own
          | inr q ↦ holds.signed (e.0, q.0) q.1
        ]
      ];
    })
put_holds (Err x) capacity old new key holds own put same = subst (Holds capacity) (sym same) holds

-- the keys after a key was put, or memory was refused for it
pub put_uses : {E : Type 0} (r : Result (Option (Unit {0})) E) (capacity : ℕ) (old new : Entries)
    (key : List ℕ) → Holds capacity old → is_kept (bytes_of old.entries) key ≡ false
    → OnOk r (new ≡ lru_cache (put_entries has old key tt) old.cap) → OnErr r (new ≡ old)
    → (bytes_of new.entries ≡ bytes_of old.entries)
    ⊎ (bytes_of new.entries ≡ used capacity key (bytes_of old.entries))
put_uses (Ok x) capacity old new key holds absent put same =
    inr (ap (λ (c : Entries). bytes_of c.entries) put ∙ (put_keys old key absent
    ∙ ap (λ (n : ℕ). used n key (bytes_of old.entries)) holds.room))
put_uses (Err x) capacity old new key holds absent put same =
    inl (ap (λ (c : Entries). bytes_of c.entries) same)

-- ---- what a key says

-- the authenticator of a text's value
abbrev said : Value authenticator_item → Authenticator
said v = record {
  node = v.0;
  word = v.1.0;
  hash = v.1.1.0;
  signature = record { leaf = v.1.1.1.0; shown = v.1.1.1.1.0; other = v.1.1.1.1.1.0; path = v.1.1.1.1.1.1 };
}

-- a key that is kept says that its authenticator is signed
pub signed_here : (bytes root : List ℕ) (height : ℕ) (a : Authenticator) → IsSignedKey bytes
    → bytes ≡ key_text root height a → Fits key_item (key_value root height a)
    → ((v w : Value key_item) (x y : List ℕ) → Fits key_item v → Fits key_item w
    → spelling key_item v ++ x ≡ spelling key_item w ++ y → (v ≡ w) × (x ≡ y))
    → IsSignedUnder root height a
signed_here bytes root height a k text fits one =
    let v : key_value k.root k.height k.authenticator ≡ key_value root height a =
    (one (key_value k.root k.height k.authenticator) (key_value root height a) [] [] k.fits fits
    (ap (λ (x : List ℕ). x ++ []) (sym k.text ∙ text))).0 in
    subst (λ (w : Value key_item). IsSignedUnder w.0 w.1.0 (said w.1.1)) v k.signed

-- the key of an authenticator's text is the authenticator's
pub text_key : (root : List ℕ) (height : ℕ) (a : Authenticator) (text : List ℕ)
    → IsText authenticator_text (authenticator_value a) text
    → key_bytes root height text ≡ key_text root height a
text_key root height a text is =
    rw (is.2, append-nil root)
    (append_assoc root (number_spelling 4 height) (spelling authenticator_item (authenticator_value a)))
