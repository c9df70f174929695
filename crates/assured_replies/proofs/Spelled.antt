-- The text that is hashed for an entry tells its kind and the digest of its content.
-- Serves: audited_replies_are_owed.
use Rattle.std.proofs.Common.{◌≡◌, ℕ, ◌^◌, ◌<◌, List, [], ◌++◌, length, sym, ap, ◌∙◌, append_assoc}
use Rattle.std.proofs.lemmas.List.{append-nil}
use Rattle.xdr.specs.Item.{Item, Value, word, fixed, pair, number_spelling, spelling}
use Rattle.xdr.proofs.Exact.{one_meaning}
use Rattle.xdr.proofs.Front.{length-number_spelling}
use Rattle.secure_log.specs.LogEntries.Chain.{entry_text}

-- such a text, its word as eight bytes
abbrev text_item : Item
text_item = pair (fixed 32) (pair (fixed 8) (pair word (fixed 32)))

abbrev text_value : (before : List ℕ) (entry_word kind : ℕ) (content : List ℕ) → Value text_item
text_value before entry_word kind content = (before, (number_spelling 8 entry_word, (kind, content)))

spelled : (before : List ℕ) (entry_word kind : ℕ) (content : List ℕ)
    → entry_text before entry_word kind content ≡ spelling text_item (text_value before entry_word kind content)
spelled before entry_word kind content = simp (append-nil, append_assoc)

-- texts that are the same are of one kind, and of one digest of a content
pub one_kind : (g h : List ℕ) (v w k m : ℕ) (c d : List ℕ) → length g ≡ 32 → length h ≡ 32
    → k < 2 ^ 32 → m < 2 ^ 32 → length c ≡ 32 → length d ≡ 32
    → entry_text g v k c ≡ entry_text h w m d → (k ≡ m) × (c ≡ d)
one_kind g h v w k m c d lg lh lk lm lc ld e =
    let whole : spelling text_item (text_value g v k c) ++ [] ≡ spelling text_item (text_value h w m d) ++ [] =
    ap (λ t. t ++ []) (sym (spelled g v k c) ∙ e ∙ spelled h w m d) in
    let same : text_value g v k c ≡ text_value h w m d =
    (one_meaning text_item (text_value g v k c) (text_value h w m d) [] []
    (lg, (length-number_spelling 8 v, (lk, lc))) (lh, (length-number_spelling 8 w, (lm, ld))) whole).0 in
    (ap (λ (x : Value text_item). x.1.1.0) same, ap (λ (x : Value text_item). x.1.1.1) same)
