-- A text is read exactly where it is spelled, with nothing after it; and what follows of a call that reads
-- one.
-- Serves: read_text, text_of, reads_each_text; in crates above the laws of their texts (nfs_items,
-- secure_log).
use Rattle.std.proofs.Common.{◌≡◌, ◌==◌, ℕ, length, Bool, true, false, cond, List, [], ◌∷◌, ◌++◌, Result, Ok}
use Rattle.std.proofs.Common.{Err, Some, None, refl, sym, ap, ◌∙◌, arith}
use Rattle.std.specs.Prelude.{◌↔◌, IfOk, MatchResult}
use Rattle.std.specs.Bool.{OnTrue}
use Rattle.std.proofs.lemmas.Bool.{eqb-true}
use Rattle.std.proofs.lemmas.List.{append-nil}
use Rattle.xdr.specs.declared.fault.XdrFault.{XdrFault}
use Rattle.xdr.specs.Item.{Value, spelling, IsBytes}
use Rattle.xdr.specs.Reading.{Read, read_at}
use Rattle.xdr.specs.Texts.Text.{Text, IsText, whole, text_at, GivesText}
use Rattle.xdr.proofs.Front.{done}
use Rattle.xdr.proofs.Exact.{takes, again, one_meaning}

-- a whole text was read to its end and passed its test
whole_some : {A : Type 0} (test : A → Bool) (read : Read A) (v : A) → whole test read ≡ Some v
    → (read ≡ Ok (v, [])) × (test v ≡ true)
whole_some {A = A} test (Ok (w, [])) v e = by_test (test w) refl e
  where
    by_test : (b : Bool) → test w ≡ b → cond b (Some w) None ≡ Some v
        → (done (w, []) ≡ Ok (v, [])) × (test v ≡ true)
    by_test true h e = let same : w ≡ v = cc in (ap (λ (u : A). done (u, [])) same, sym (ap test same) ∙ h)
    by_test false h e = absurd cc
whole_some test (Ok (w, x ∷ xs)) v e = absurd cc
whole_some test (Err d) v e = absurd cc

-- a text is read exactly where it is spelled
pub is_text : (t : Text) (v : Value t.item) (bytes : List ℕ) → IsBytes bytes
    → (text_at t bytes ≡ Some v) ↔ IsText t v bytes
unfolding text_at
is_text t v bytes bound = (
  (λ e.
      let h = whole_some t.test (read_at t.item bytes) v e in
      let s = takes t.item bytes (v, []) bound h.0 in
      (s.1, h.1, s.0.parts ∙ append-nil (spelling t.item v))),
  (λ h.
      let e : read_at t.item bytes
      ≡ Ok (v, []) =
      ap (read_at t.item) (h.2 ∙ sym (append-nil (spelling t.item v))) ∙ again t.item v [] h.0 in
      rw (e, h.1) refl),
)

-- A text has one value.
pub one_text : (t : Text) (v w : Value t.item) (bytes : List ℕ) → IsText t v bytes → IsText t w bytes → v ≡ w
one_text t v w bytes h k = let e : spelling t.item v ++ [] ≡ spelling t.item w ++ [] =
    rw (← h.2, ← k.2) refl in (one_meaning t.item v w [] [] h.0 k.0 e).0

-- What a call gave is the value of the text.
pub text_found : {X E : Type 0} (is_no_text : E → Bool) (t : Text) (view : X → Value t.item) (bytes : List ℕ)
    (r : Result X E) → IsBytes bytes → GivesText is_no_text t view bytes r
    → IfOk r (λ x. IsText t (view x) bytes)
text_found is_no_text t view bytes (Ok x) bound given = (is_text t (view x) bytes bound).0 given
text_found is_no_text t view bytes (Err e) bound given = tt

-- The value of the text is what a call gives, unless it has another fault, such as being out of memory.
pub text_only : {X E : Type 0} (is_no_text : E → Bool) (t : Text) (view : X → Value t.item) (bytes : List ℕ)
    (r : Result X E) → IsBytes bytes → GivesText is_no_text t view bytes r
    → (v : Value t.item) → IsText t v bytes → MatchResult r (λ x. view x ≡ v) (λ e. is_no_text e ≡ false)
text_only is_no_text t view bytes (Ok x) bound given v h = let e = (is_text t v bytes bound).1 h in cc
text_only is_no_text t view bytes (Err e) bound given v h =
    never (is_no_text e) given ((is_text t v bytes bound).1 h)
  where
    never : (b : Bool) → OnTrue b (text_at t bytes ≡ None) → text_at t bytes ≡ Some v → b ≡ false
    never true n s = absurd cc
    never false n s = refl

-- ---- what text_of finds, step by step

-- bytes that don't begin with the item are no text
pub text_err : (t : Text) (bytes : List ℕ) (d : XdrFault) → read_at t.item bytes ≡ Err d
    → text_at t bytes ≡ None
unfolding text_at
text_err t bytes d e = rw e refl

-- neither are bytes with something after the item
pub text_more : (t : Text) (bytes : List ℕ) (v : Value t.item) (rest : List ℕ)
    → read_at t.item bytes ≡ Ok (v, rest) → (length rest == 0) ≡ false → text_at t bytes ≡ None
unfolding text_at
text_more t bytes v [] e more = absurd cc
text_more t bytes v (x ∷ rest) e more = rw e refl

-- where the item is all of the bytes, its test decides
pub text_end : (t : Text) (bytes : List ℕ) (v : Value t.item) (rest : List ℕ)
    → read_at t.item bytes ≡ Ok (v, rest) → (length rest == 0) ≡ true
    → text_at t bytes ≡ cond (t.test v) (Some v) None
unfolding text_at
text_end t bytes v [] e end = rw e refl
text_end t bytes v (x ∷ rest) e end = let zero_long : length (x ∷ rest) ≡ 0 = eqb-true _ _ end in
    absurd (omega arith)
