-- An entry is told by its kind and the digest of its content, where no two texts have one digest.
-- Serves: contents_give_entries_back, what_is_shown_is_of_the_log.
use Rattle.std.proofs.Common.{◌≡◌, ℕ, ◌^◌, ◌<◌, List, [], ◌∷◌, ◌++◌, inl, inr, refl, sym, ap, ap₂, ◌∙◌, arith}
use Rattle.std.proofs.Common.{append_assoc}
use Rattle.std.proofs.lemmas.List.{append-nil}
use Rattle.sha2.specs.Sha256.{sha256}
use Rattle.sha2.proofs.Facts256.{length-sha256}
use Rattle.xdr.specs.Item.{Item, Value, Fits, word, hyper, fixed, pair, spelling}
use Rattle.xdr.proofs.Exact.{one_meaning}
use Rattle.merkle_keys.specs.Signing.{SignatureParts, signature_item, signature_value}
use Rattle.replay_spec.specs.secure_log.LogEntries.Signatures.{signature_digest}
use Rattle.replay_spec.specs.secure_log.declared.log_entries.entry.Entry.{Entry}
use Rattle.replay_spec.specs.secure_log.declared.log_entries.entry.Entry.TheVariants.{Send, Recv, Ack, Clock}
use Rattle.replay_spec.specs.secure_log.declared.log_entries.entry.Entry.TheVariants.{Check}
use Rattle.replay_spec.specs.secure_log.LogEntries.Entry.{entry_item, entry_value, content}
use Rattle.replay_spec.specs.secure_log.LogEntries.Chain.{NoCollision}
use Rattle.evidence_spec.specs.Proving.{signature_text, entry_texts}
use Rattle.evidence_spec.specs.Laws.{SameContent}
use Rattle.replay_spec.proofs.secure_log.OfLogEntries.FewerTexts.{Within}

-- values with one spelling are one
one_value : (a : Item) (v w : Value a) → Fits a v → Fits a w → spelling a v ≡ spelling a w → v ≡ w
one_value a v w f g e = (one_meaning a v w [] [] f g (ap (λ t. t ++ []) e)).0

-- ---- contents, as what stands in them with digests of bodies and signatures

abbrev send_seen : Item
send_seen = pair word (fixed 32)

abbrev send_value : (to : ℕ) (body : List ℕ) → Value send_seen
send_value to body = (to, sha256 body)

send_content_is : (to : ℕ) (body : List ℕ) → content (Send to body) ≡ spelling send_seen (send_value to body)
unfolding content
send_content_is to body = simp (append-nil)

abbrev recv_seen : Item
recv_seen = pair word (pair hyper (pair (fixed 32) (pair (fixed 32) (fixed 32))))

abbrev recv_value : (from seq : ℕ) (prev body : List ℕ) → SignatureParts → Value recv_seen
recv_value from seq prev body signature =
    (from, (seq, (prev, (sha256 body, sha256 (signature_text signature)))))

recv_content_is : (from seq : ℕ) (prev body : List ℕ) (signature : SignatureParts)
    → content (Recv from seq prev body signature) ≡ spelling recv_seen
    (recv_value from seq prev body signature)
unfolding content signature_digest
recv_content_is from seq prev body signature = simp (append-nil, append_assoc)

abbrev ack_seen : Item
ack_seen = pair word (pair hyper (pair (fixed 32) (pair hyper (pair (fixed 32) (fixed 32)))))

abbrev ack_value : (to seq : ℕ) (mine : List ℕ) (number : ℕ) (prev : List ℕ) → SignatureParts → Value ack_seen
ack_value to seq mine number prev signature =
    (to, (seq, (mine, (number, (prev, sha256 (signature_text signature))))))

ack_content_is : (to seq : ℕ) (mine : List ℕ) (number : ℕ) (prev : List ℕ) (signature : SignatureParts)
    → content (Ack to seq mine number prev signature)
    ≡ spelling ack_seen (ack_value to seq mine number prev signature)
unfolding content signature_digest
ack_content_is to seq mine number prev signature = simp (append-nil, append_assoc)

signature_of : Value signature_item → SignatureParts
signature_of v = record { leaf = v.0; shown = v.1.0; other = v.1.1.0; path = v.1.1.1 }

-- ---- one entry

module _ (all : List (List ℕ)) (unlike : NoCollision all) where
  one_signature : (s t : SignatureParts) → Fits signature_item (signature_value s)
      → Fits signature_item (signature_value t) → Within (signature_text s ∷ []) all
      → Within (signature_text t ∷ []) all → sha256 (signature_text s) ≡ sha256 (signature_text t) → s ≡ t
  unfolding signature_of
  one_signature s t f g i j e =
      ap signature_of
      (one_value signature_item (signature_value s) (signature_value t) f g
      (unlike (signature_text s) (signature_text t) (i _ (inl refl)) (j _ (inl refl)) e))

  one_send : (to to' : ℕ) (body body' : List ℕ) → to < 2 ^ 32 → to' < 2 ^ 32
      → Within (body ∷ []) all → Within (body' ∷ []) all
      → content (Send to body) ≡ content (Send to' body') → Send to body ≡ Send to' body'
  one_send to to' body body' f g i j e =
      let same = one_value send_seen (send_value to body) (send_value to' body')
      (f, length-sha256 body) (g, length-sha256 body')
      (sym (send_content_is to body) ∙ e ∙ send_content_is to' body') in
      let bodies : body ≡ body' =
      unlike body body' (i _ (inl refl)) (j _ (inl refl)) (ap (λ (v : Value send_seen). v.1) same) in
      ap₂ Send (ap (λ (v : Value send_seen). v.0) same) bodies

  one_recv : (from from' seq seq' : ℕ) (prev prev' body body' : List ℕ) (s t : SignatureParts)
      → Fits entry_item (entry_value (Recv from seq prev body s))
      → Fits entry_item (entry_value (Recv from' seq' prev' body' t))
      → Within (body ∷ signature_text s ∷ []) all → Within (body' ∷ signature_text t ∷ []) all
      → content (Recv from seq prev body s) ≡ content (Recv from' seq' prev' body' t)
      → Recv from seq prev body s ≡ Recv from' seq' prev' body' t
  one_recv from from' seq seq' prev prev' body body' s t f g i j e =
      let a = f.2 in
      let b = g.2 in
      let same = one_value recv_seen (recv_value from seq prev body s) (recv_value from' seq' prev' body' t)
      (a.0, (a.1.0.0, (a.1.1.0, (length-sha256 body, length-sha256 (signature_text s)))))
      (b.0, (b.1.0.0, (b.1.1.0, (length-sha256 body', length-sha256 (signature_text t)))))
      (sym (recv_content_is from seq prev body s) ∙ e ∙ recv_content_is from' seq' prev' body' t) in
      let bodies : body ≡ body' =
      unlike body body' (i _ (inl refl)) (j _ (inl refl)) (ap (λ (v : Value recv_seen). v.1.1.1.0) same) in
      let signatures : s ≡ t =
      one_signature s t a.1.1.1.1 b.1.1.1.1 (λ x k. i x (inr k)) (λ x k. j x (inr k))
      (ap (λ (v : Value recv_seen). v.1.1.1.1) same) in
      ap (λ (v : Value recv_seen). Recv v.0 v.1.0 v.1.1.0 body s) same
      ∙ ap₂ (λ x y. Recv from' seq' prev' x y) bodies signatures

  one_ack : (to to' seq seq' : ℕ) (mine mine' : List ℕ) (number number' : ℕ) (prev prev' : List ℕ)
      (s t : SignatureParts)
      → Fits entry_item (entry_value (Ack to seq mine number prev s))
      → Fits entry_item (entry_value (Ack to' seq' mine' number' prev' t))
      → Within (signature_text s ∷ []) all → Within (signature_text t ∷ []) all
      → content (Ack to seq mine number prev s) ≡ content (Ack to' seq' mine' number' prev' t)
      → Ack to seq mine number prev s ≡ Ack to' seq' mine' number' prev' t
  one_ack to to' seq seq' mine mine' number number' prev prev' s t f g i j e =
      let a = f.2 in
      let b = g.2 in
      let same = one_value ack_seen (ack_value to seq mine number prev s)
      (ack_value to' seq' mine' number' prev' t)
      (a.0, (a.1.0.0, (a.1.1.0, (a.1.1.1.0.0, (a.1.1.1.1.0, length-sha256 (signature_text s))))))
      (b.0, (b.1.0.0, (b.1.1.0, (b.1.1.1.0.0, (b.1.1.1.1.0, length-sha256 (signature_text t))))))
      (sym (ack_content_is to seq mine number prev s) ∙ e ∙ ack_content_is to' seq' mine' number' prev' t) in
      let signatures : s ≡ t =
      one_signature s t a.1.1.1.1.1 b.1.1.1.1.1 i j (ap (λ (v : Value ack_seen). v.1.1.1.1.1) same) in
      ap (λ (v : Value ack_seen). Ack v.0 v.1.0 v.1.1.0 v.1.1.1.0 v.1.1.1.1.0 s) same
      ∙ ap (Ack to' seq' mine' number' prev') signatures

  one_clock : (a a' b b' : ℕ) → a < 2 ^ 32 → a' < 2 ^ 32 → b < 2 ^ 32 → b' < 2 ^ 32
      → content (Clock a b) ≡ content (Clock a' b') → Clock a b ≡ Clock a' b'
  unfolding content
  one_clock a a' b b' f f' g g' e =
      ap (λ (v : Value (pair word word)). Clock v.0 v.1)
      (one_value (pair word word) (a, b) (a', b') (f, g) (f', g') e)

  one_check : (a b : List ℕ) → content (Check a) ≡ content (Check b) → Check a ≡ Check b
  unfolding content
  one_check a b e = ap Check e

  -- entries of one kind, whose contents have one digest, are the same
  pub one_entry : (e f : Entry) → Fits entry_item (entry_value e) → Fits entry_item (entry_value f)
      → Within (entry_texts e) all → Within (entry_texts f) all → SameContent e f → e ≡ f
  one_entry (Send to body) (Send to' body') f g i j same =
      one_send to to' body body' f.2.0 g.2.0 (λ x k. i x (inr k)) (λ x k. j x (inr k))
      (unlike _ _ (i _ (inl refl)) (j _ (inl refl)) same.digest)
  one_entry (Send to body) (Recv from' seq' prev' body' s') f g i j same = absurd (omega (arith, same.kind))
  one_entry (Send to body) (Ack to' seq' mine' number' prev' s') f g i j same =
      absurd (omega (arith, same.kind))
  one_entry (Send to body) (Clock a' b') f g i j same = absurd (omega (arith, same.kind))
  one_entry (Send to body) (Check d') f g i j same = absurd (omega (arith, same.kind))
  one_entry (Recv from seq prev body s) (Send to' body') f g i j same = absurd (omega (arith, same.kind))
  one_entry (Recv from seq prev body s) (Recv from' seq' prev' body' s') f g i j same =
      one_recv from from' seq seq' prev prev' body body' s s' f g (λ x k. i x (inr k)) (λ x k. j x (inr k))
      (unlike _ _ (i _ (inl refl)) (j _ (inl refl)) same.digest)
  one_entry (Recv from seq prev body s) (Ack to' seq' mine' number' prev' s') f g i j same =
      absurd (omega (arith, same.kind))
  one_entry (Recv from seq prev body s) (Clock a' b') f g i j same = absurd (omega (arith, same.kind))
  one_entry (Recv from seq prev body s) (Check d') f g i j same = absurd (omega (arith, same.kind))
  one_entry (Ack to seq mine number prev s) (Send to' body') f g i j same = absurd (omega (arith, same.kind))
  one_entry (Ack to seq mine number prev s) (Recv from' seq' prev' body' s') f g i j same =
      absurd (omega (arith, same.kind))
  one_entry (Ack to seq mine number prev s) (Ack to' seq' mine' number' prev' s') f g i j same =
      one_ack to to' seq seq' mine mine' number number' prev prev' s s' f g (λ x k. i x (inr k))
      (λ x k. j x (inr k)) (unlike _ _ (i _ (inl refl)) (j _ (inl refl)) same.digest)
  one_entry (Ack to seq mine number prev s) (Clock a' b') f g i j same = absurd (omega (arith, same.kind))
  one_entry (Ack to seq mine number prev s) (Check d') f g i j same = absurd (omega (arith, same.kind))
  one_entry (Clock a b) (Send to' body') f g i j same = absurd (omega (arith, same.kind))
  one_entry (Clock a b) (Recv from' seq' prev' body' s') f g i j same = absurd (omega (arith, same.kind))
  one_entry (Clock a b) (Ack to' seq' mine' number' prev' s') f g i j same = absurd (omega (arith, same.kind))
  one_entry (Clock a b) (Clock a' b') f g i j same =
      one_clock a a' b b' f.2.0 g.2.0 f.2.1 g.2.1 (unlike _ _ (i _ (inl refl)) (j _ (inl refl)) same.digest)
  one_entry (Clock a b) (Check d') f g i j same = absurd (omega (arith, same.kind))
  one_entry (Check d) (Send to' body') f g i j same = absurd (omega (arith, same.kind))
  one_entry (Check d) (Recv from' seq' prev' body' s') f g i j same = absurd (omega (arith, same.kind))
  one_entry (Check d) (Ack to' seq' mine' number' prev' s') f g i j same = absurd (omega (arith, same.kind))
  one_entry (Check d) (Clock a' b') f g i j same = absurd (omega (arith, same.kind))
  one_entry (Check d) (Check d') f g i j same =
      one_check d d' (unlike _ _ (i _ (inl refl)) (j _ (inl refl)) same.digest)
