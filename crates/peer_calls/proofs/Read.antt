-- What is read of arguments is what they spell.
-- Serves: node_requests_have_one_text, witness_requests_have_one_text.
use Rattle.std.proofs.Common.{◌≡◌, ℕ, Bool, true, false, cond, eqb, List, [], ◌∷◌, ◌++◌, Result, Ok, Err, Option}
use Rattle.std.proofs.Common.{Some, None, refl, sym, ap, subst, ◌∙◌}
use Rattle.std.specs.Prelude.{◌<◌, ◌^◌, option_and_then, option_map}
use Rattle.std.proofs.lemmas.Bool.{eq-eqb, eqb-true}
use Rattle.std.proofs.lemmas.List.{append-nil}
use Rattle.xdr.specs.Item.{Fits, IsBytes, Item, Value, number_spelling, spelling, word_where}
use Rattle.xdr.specs.Reading.{Read, read_at}
use Rattle.xdr.specs.Texts.Text.{text_at, whole}
use Rattle.xdr.proofs.Exact.{again, takes}
use Rattle.xdr.proofs.Front.{done}
use Rattle.rpc.specs.declared.reply.ReplyBody.{ReplyBody}
use Rattle.peer_calls.specs.Arguments.{after_word, nothing_in, or_garbage, rest_of, text_of}

-- a number is the same as itself
pub eqb-same : (n : ℕ) → eqb n n ≡ true
eqb-same n = eq-eqb n n refl

-- what is read by a number: if it is that one, by the first, and else by the second
pub by_number : {A P : Type 0} (n k : ℕ) (x y : Result A ReplyBody) (a : A) → (n ≡ k → x ≡ Ok a → P)
    → (y ≡ Ok a → P) → cond (eqb n k) x y ≡ Ok a → P
by_number {A} {P} n k x y a first other e = at (eqb n k) refl e
  where
    at : (b : Bool) → eqb n k ≡ b → cond b x y ≡ Ok a → P
    at true same e = first (eqb-true n k same) e
    at false same e = other e

-- arguments that decode had a value
pub decoded : {A B : Type 0} (f : A → B) (o : Option A) (b : B) → or_garbage (option_map f o) ≡ Ok b
    → (a : A) × (o ≡ Some a) × (b ≡ f a)
decoded f (Some a) b e = (a, refl, cc)
decoded f None b e = absurd cc

-- any value of an item has its spelling for its text
pub text_again : (i : Item) (v : Value i) → Fits i v → text_at (text_of i) (spelling i v) ≡ Some v
unfolding text_at
text_again i v fits =
    let e : read_at i (spelling i v) ≡ Ok (v, []) =
    ap (read_at i) (sym (append-nil (spelling i v))) ∙ again i v [] fits in
    rw e refl

-- what was read to the end
at_end : {A : Type 0} (read : Read A) (v : A) → whole (λ _. true) read ≡ Some v → read ≡ Ok (v, [])
at_end {A} (Ok (w, [])) v e = let same : w ≡ v = cc in ap (λ (u : A). done (u, [])) same
at_end (Ok (w, x ∷ xs)) v e = absurd cc
at_end (Err d) v e = absurd cc

-- and only that
pub text_only : (i : Item) (v : Value i) (bytes : List ℕ) → IsBytes bytes → text_at (text_of i) bytes ≡ Some v
    → (bytes ≡ spelling i v) × Fits i v
unfolding text_at
text_only i v bytes bound e =
    let t = takes i bytes (v, []) bound (at_end (read_at i bytes) v e) in
    (t.0.parts ∙ append-nil (spelling i v), t.1)

-- what follows a word is read after it
pub word_again : (n : ℕ) (rest : List ℕ) → n < 2 ^ 32 → after_word n (number_spelling 4 n ++ rest) ≡ Some rest
word_again n rest small =
    ap rest_of (again (word_where (λ w. eqb w n)) n rest (small, rw (eqb-same n) refl))

-- and only after it, and it is of bytes
pub word_front : (n : ℕ) (bytes rest : List ℕ) → IsBytes bytes → after_word n bytes ≡ Some rest
    → (bytes ≡ number_spelling 4 n ++ rest) × IsBytes rest
word_front n bytes rest bound e = at (read_at (word_where (λ w. eqb w n)) bytes) refl e
  where
    at : (r : Read ℕ) → read_at (word_where (λ w. eqb w n)) bytes ≡ r → rest_of r ≡ Some rest
        → (bytes ≡ number_spelling 4 n ++ rest) × IsBytes rest
    at (Ok x) is e =
        let t = takes (word_where (λ w. eqb w n)) bytes x bound is in
        let same : x.0 ≡ n = eqb-true x.0 n t.1.1 in
        let left : x.1 ≡ rest = cc in (
          t.0.parts ∙ ap (λ (m : ℕ). number_spelling 4 m ++ x.1) same
              ∙ ap (λ (r : List ℕ). number_spelling 4 n ++ r) left,
          subst IsBytes left t.0.rest_fits,
        )
    at (Err d) is e = absurd cc

pub word_only : (n : ℕ) (bytes rest : List ℕ) → IsBytes bytes → after_word n bytes ≡ Some rest
    → bytes ≡ number_spelling 4 n ++ rest
word_only n bytes rest bound e = (word_front n bytes rest bound e).0

-- a packet of an item is its number and its spelling
pub packet_only : (n : ℕ) (i : Item) (v : Value i) (bytes : List ℕ) → IsBytes bytes
    → option_and_then (text_at (text_of i)) (after_word n bytes) ≡ Some v
    → (bytes ≡ number_spelling 4 n ++ spelling i v) × Fits i v
packet_only n i v bytes bound e = at (after_word n bytes) refl e
  where
    at : (o : Option (List ℕ)) → after_word n bytes ≡ o → option_and_then (text_at (text_of i)) o ≡ Some v
        → (bytes ≡ number_spelling 4 n ++ spelling i v) × Fits i v
    at (Some rest) is e =
        let f = word_front n bytes rest bound is in
        let t = text_only i v rest f.1 e in
        (f.0 ∙ ap (λ (r : List ℕ). number_spelling 4 n ++ r) t.0, t.1)
    at None is e = absurd cc

-- no bytes are none
pub nothing_only : (bytes : List ℕ) (u : Unit {0}) → nothing_in bytes ≡ Some u → bytes ≡ []
nothing_only [] u e = refl
nothing_only (b ∷ bytes) u e = absurd cc
