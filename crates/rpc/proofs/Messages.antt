-- Reading a call and spelling it are the same.
-- Serves: reads_what_is_said, says_one_call, read_call (its clauses found and only); Service::answer and the
-- laws on replies in service.
use Rattle.std.proofs.Common.{◌≡◌, ◌≢◌, ℕ, Bool, true, false, cond, eqb, List, ◌++◌, Result, Ok, Err, refl}
use Rattle.std.proofs.Common.{sym, ap, subst, ◌∙◌, append_assoc, arith}
use Rattle.std.specs.Prelude.{◌↔◌, IfOk, IsOkAnd}
use Rattle.std.proofs.lemmas.Bool.{eqb-true, eqb-false, ne_eqb}
use Rattle.xdr.specs.Item.{Value, IsBytes, Fits, spelling}
use Rattle.xdr.specs.Reading.{Read, ◌>>=◌, read_at}
use Rattle.xdr.proofs.Front.{bind_ok, done, ok_is, InFront, InFront-then}
use Rattle.xdr.proofs.Exact.{takes, again}
use Rattle.rpc.specs.Call.{call_start, call_header, header_value, header_from, Message, OtherVersion}
use Rattle.rpc.specs.Call.{Version2, message_at, Says}
use Rattle.rpc.specs.CallValues.{IsCallOf, IsCallIn, GivesCall}
use Rattle.rpc.specs.declared.call.Call.{Call}
use Rattle.rpc.specs.declared.call.CallFault.{CallFault}

-- the first words of a call, and what follows them
abbrev Start : Type 0
Start = Value call_start × List ℕ

-- what is read after them
abbrev header_read : Start → Read Message
header_read s = read_at call_header s.1 >>= λ h. Ok (Version2 s.0.0 (header_from h.0), h.1)

-- the first words with the numbers that they have
start_is : (v : Value call_start) (n m : ℕ) → v.1.0 ≡ n → v.1.1 ≡ m
    → spelling call_start v ≡ spelling call_start (v.0, (n, m))
start_is v n m e e' =
    ap (λ (k : ℕ). spelling call_start (v.0, (k, v.1.1))) e
    ∙ ap (λ (k : ℕ). spelling call_start (v.0, (n, k))) e'

-- what is said, by cases on the version
behind : (b : Bool) (bytes : List ℕ) (s : Start) (x : Message × List ℕ)
    → InFront bytes (spelling call_start s.0) s.1 → Fits call_start s.0 → s.0.1.0 ≡ 0
    → (b ≡ true → s.0.1.1 ≡ 2) → (b ≡ false → s.0.1.1 ≢ 2)
    → cond b (header_read s) (Ok (OtherVersion s.0.0 s.0.1.1, s.1)) ≡ Ok x → Says bytes x.0 x.1
behind true bytes s x t fits zero two other e =
    let q = bind_ok (read_at call_header s.1) (λ h. Ok (Version2 s.0.0 (header_from h.0), h.1)) x e in
    let u = takes call_header s.1 q.0 t.rest_fits q.1 in
    let both = InFront-then bytes (spelling call_start s.0) s.1 (spelling call_header q.0.0) q.0.1 t u.0 in
    let words : spelling call_start s.0 ≡ spelling call_start (s.0.0, (0, 2)) =
    start_is s.0 0 2 zero (two refl) in
    let P : Message × List ℕ → Type 0 = λ y. Says bytes y.0 y.1 in
    subst P (ok_is (Version2 s.0.0 (header_from q.0.0), q.0.1) x q.2) (record {
      is_message = ((fits.0, ((omega arith, refl), omega arith)), u.1);
      bytes_are = both.parts ∙ ap (λ (text : List ℕ). (text ++ spelling call_header q.0.0) ++ q.0.1) words;
    })
behind false bytes s x t fits zero two other e =
    let words : spelling call_start s.0 ≡ spelling call_start (s.0.0, (0, s.0.1.1)) =
    start_is s.0 0 s.0.1.1 zero refl in
    let P : Message × List ℕ → Type 0 = λ y. Says bytes y.0 y.1 in
    subst P (ok_is (OtherVersion s.0.0 s.0.1.1, s.1) x e) (record {
      is_message = ((fits.0, ((omega arith, refl), fits.1.1)), other refl);
      bytes_are = t.parts ∙ ap (λ (text : List ℕ). text ++ s.1) words;
    })

-- what is read is said
pub read_is_said : (bytes : List ℕ) (x : Message × List ℕ) → IsBytes bytes → message_at bytes ≡ Ok x
    → Says bytes x.0 x.1
read_is_said bytes x bound e =
    let p = bind_ok (read_at call_start bytes)
    (λ s. cond (eqb s.0.1.1 2) (header_read s) (Ok (OtherVersion s.0.0 s.0.1.1, s.1))) x e in
    let t = takes call_start bytes p.0 bound p.1 in
    behind (eqb p.0.0.1.1 2) bytes p.0 x t.0 t.1 (eqb-true _ _ t.1.1.0.1) (eqb-true _ _) (eqb-false _ _) p.2

-- what is said is read
pub said_is_read : (bytes : List ℕ) (m : Message) (rest : List ℕ) → Says bytes m rest
    → message_at bytes ≡ Ok (m, rest)
said_is_read bytes (OtherVersion xid version) rest s =
    let other : eqb version 2 ≡ false = ne_eqb _ _ s.is_message.1 in
    ap message_at s.bytes_are ∙ rw (again call_start (xid, (0, version)) rest s.is_message.0, other) refl
said_is_read bytes (Version2 xid h) rest s =
    let regrouped = append_assoc (spelling call_start (xid, (0, 2)))
    (spelling call_header (header_value h)) rest in
    ap message_at (s.bytes_are ∙ regrouped)
    ∙ rw (
      again call_start (xid, (0, 2)) (spelling call_header (header_value h) ++ rest) s.is_message.0,
      again call_header (header_value h) rest s.is_message.1,
    ) refl

-- the law: both
pub reads_what_is_said : (bytes : List ℕ) (m : Message) (rest : List ℕ) → IsBytes bytes
    → (message_at bytes ≡ Ok (m, rest)) ↔ Says bytes m rest
reads_what_is_said bytes m rest bound = (read_is_said bytes (m, rest) bound, said_is_read bytes m rest)

-- the law: bytes say one call at most
pub says_one_call : (bytes : List ℕ) (m n : Message) (x y : List ℕ) → Says bytes m x → Says bytes n y
    → (m ≡ n) × (x ≡ y)
says_one_call bytes m n x y s t =
    let same : done (m, x) ≡ done (n, y) = sym (said_is_read bytes m x s) ∙ said_is_read bytes n y t in
    let both = ok_is (m, x) (n, y) same in
    (ap (λ (p : Message × List ℕ). p.0) both, ap (λ (p : Message × List ℕ). p.1) both)

-- ---- what a call over bytes gave

-- found: what it gave is said
pub call_found : (bytes : List ℕ) (r : Result Call CallFault) (read : Read Message) → IsBytes bytes
    → message_at bytes ≡ read → GivesCall r read → IfOk r (IsCallIn bytes)
call_found bytes (Ok c) (Ok x) bound e given = (x.0, x.1, read_is_said bytes x bound e, given)
call_found bytes (Ok c) (Err f) bound e given = absurd given
call_found bytes (Err e') read bound e given = tt

-- only: what is said is what it gave
pub call_only : (bytes : List ℕ) (r : Result Call CallFault) (read : Read Message) (m : Message)
    (rest : List ℕ) → message_at bytes ≡ read → GivesCall r read → Says bytes m rest
    → IsOkAnd r (λ c. IsCallOf c m rest)
call_only bytes r read m rest e given said =
    let same : read ≡ Ok (m, rest) = sym e ∙ said_is_read bytes m rest said in
    at_that r (subst (λ (t : Read Message). GivesCall r t) same given)
  where
    at_that : (r : Result Call CallFault) → GivesCall r (Ok (m, rest)) → IsOkAnd r (λ c. IsCallOf c m rest)
    at_that (Ok c) given = given
    at_that (Err f) given = absurd given
