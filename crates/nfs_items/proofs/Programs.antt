-- What reading a remote program's calls gives is what their bytes say: found, and nothing else.
-- Serves: in nfs_types and mount_types the readers of arguments and the law `arguments_are_read_as_spelled`;
-- in nfs_types::result_texts and mount_types the laws `answers_are_spelled` and `answers_have_one_meaning`.
use Rattle.std.proofs.Common.{◌≡◌, ℕ, ◌≤◌, length, List, ◌++◌, Some, None, Ok, Err, refl, sym, ap, subst, ◌∙◌}
use Rattle.std.proofs.Common.{⊎_elim}
use Rattle.std.specs.Prelude.{◌↔◌, Result, IfOk, IsOkAnd}
use Rattle.std.proofs.lemmas.List.{take_at, drop_at}
use Rattle.std.proofs.lemmas.Option.{slice_get_past, slice_get-get_or}
use Rattle.std.proofs.lemmas.Bool.{cases_lt}
use Rattle.xdr.specs.declared.fault.XdrFault.{XdrFault}
use Rattle.xdr.specs.Item.{Value, Fits, IsBytes, spelling}
use Rattle.xdr.specs.Reading.{Read, ◌>>=◌, read_at}
use Rattle.xdr.proofs.Front.{IsBytes-take, IsBytes-drop, bind_ok, done, ok_is}
use Rattle.xdr.proofs.Exact.{takes, again, is_spelled}
use Rattle.nfs_items.specs.Programs.{Program, procedure_at, said, call_at, SaysCall, GivesCall, answer_text}
use Rattle.nfs_items.specs.Programs.{ReadsWhatIsSaid, HasFaultsOfItems, SaysOneCall, SaysOwnCalls}
use Rattle.nfs_items.specs.Programs.{KeepsBounds, SpellsAnswers}

-- A value of a procedure's arguments says a call of that procedure.
abbrev pub OwnValues : {P Call Answer : Type 0} → Program P Call Answer → Type 0
OwnValues {P = P} program =
    (procedure : P) (v : Value (program.procedure_of procedure).arguments)
    → program.procedure_in ((program.procedure_of procedure).says v) ≡ procedure

-- A value of a procedure's arguments that fits, and is spelled by bytes, says a call that keeps a bound.
abbrev pub BoundedValues : {P Call Answer : Type 0} → Program P Call Answer → (Call → Type 0) → Type 0
BoundedValues {P = P} program HasBounds =
    (procedure : P) (v : Value (program.procedure_of procedure).arguments)
    → Fits (program.procedure_of procedure).arguments v
    → IsBytes (spelling (program.procedure_of procedure).arguments v)
    → HasBounds ((program.procedure_of procedure).says v)

-- both parts of bytes are bytes
pub front_bytes : (a b : List ℕ) → IsBytes (a ++ b) → IsBytes a
front_bytes a b h = subst IsBytes (take_at a b (length a) refl) (IsBytes-take (length a) (a ++ b) h)

-- the end of a list of bytes is a list of bytes
pub back_bytes : (a b : List ℕ) → IsBytes (a ++ b) → IsBytes b
back_bytes a b h = subst IsBytes (drop_at a b (length a) refl) (IsBytes-drop (length a) (a ++ b) h)

module _ {P Call Answer : Type 0} (program : Program P Call Answer) where
  -- a call that was read is said by the bytes
  pub read_is_said : (procedure : P) (bytes rest : List ℕ) (call : Call) → IsBytes bytes
      → call_at program procedure bytes ≡ Ok (call, rest) → SaysCall program procedure bytes call rest
  read_is_said procedure bytes rest call bound e =
      let p = program.procedure_of procedure in
      let r = bind_ok (read_at p.arguments bytes) (λ x. done (p.says x.0, x.1)) (call, rest) e in
      let t = takes p.arguments bytes r.0 bound r.1 in
      let both = ok_is (p.says r.0.0, r.0.1) (call, rest) r.2 in (
        r.0.0,
        t.1,
        sym (ap (λ (x : Call × List ℕ). x.0) both),
        t.0.parts ∙ ap (λ (x : Call × List ℕ). spelling p.arguments r.0.0 ++ x.1) both,
      )

  -- a call that the bytes say is read
  pub said_is_read : (procedure : P) (bytes rest : List ℕ) (call : Call)
      → SaysCall program procedure bytes call rest → call_at program procedure bytes ≡ Ok (call, rest)
  said_is_read procedure bytes rest call s =
      let p = program.procedure_of procedure in
      ap (said p.arguments p.says) s.3
      ∙ ap (λ (r : Read (Value p.arguments)). r >>= λ x. done (p.says x.0, x.1))
      (again p.arguments s.0 rest s.1)
      ∙ ap (λ (c : Call). done (c, rest)) (sym s.2)

  -- reading is what the bytes say, in both directions
  pub read_as_said : ReadsWhatIsSaid program
  read_as_said procedure bytes rest call bound =
      (read_is_said procedure bytes rest call bound, said_is_read procedure bytes rest call)

  -- the fault of a call is that of its item
  pub fault_is : HasFaultsOfItems program
  fault_is procedure bytes fault = (
    (λ h. failed (read_at (program.procedure_of procedure).arguments bytes) h),
    (λ e. ap (λ (r : Read (Value (program.procedure_of procedure).arguments)). r >>= λ x. done
        ((program.procedure_of procedure).says x.0, x.1)) e),
  )
    where
      failed : (r : Read (Value (program.procedure_of procedure).arguments))
          → (r >>= λ x. done ((program.procedure_of procedure).says x.0, x.1)) ≡ Err fault → r ≡ Err fault
      failed (Ok x) h = absurd cc
      failed (Err e) h = cc

  -- bytes say one call
  pub one_call : SaysOneCall program
  one_call procedure bytes x y a b s t =
      let both =
      ok_is (a, x) (b, y) (sym (said_is_read procedure bytes x a s) ∙ said_is_read procedure bytes y b t) in
      (ap (λ (z : Call × List ℕ). z.0) both, ap (λ (z : Call × List ℕ). z.1) both)

  -- bytes after a procedure's header say calls of it
  pub own_call : OwnValues program → SaysOwnCalls program
  own_call own procedure bytes rest call s = ap program.procedure_in s.2 ∙ own procedure s.0

  -- the numbers of procedures are those below their count
  pub no_procedure : P → (n : ℕ) → (procedure_at program n ≡ None) ↔ (length program.numbered ≤ n)
  no_procedure some n = (
    (λ h. ⊎_elim
        (λ small. absurd (never (sym (slice_get-get_or program.numbered n some small) ∙ h)))
        (λ large. large)
        (cases_lt n (length program.numbered))),
    (λ large. slice_get_past program.numbered n large),
  )
    where
      never : {A : Type 0} {a : A} → Some a ≡ None → ⊥
      never h = cc

  -- a call that is read keeps a bound that the values of arguments keep
  pub read_is_bounded : (HasBounds : Call → Type 0) → BoundedValues program HasBounds
      → KeepsBounds program HasBounds
  read_is_bounded HasBounds values procedure bytes rest call bound e =
      let s = read_is_said procedure bytes rest call bound e in
      let p = program.procedure_of procedure in
      subst HasBounds (sym s.2)
      (values procedure s.0 s.1 (front_bytes (spelling p.arguments s.0) rest (subst IsBytes s.3 bound)))

  -- an answer's text is read back exactly where its value fits
  pub answer_is_spelled : SpellsAnswers program
  answer_is_spelled a rest bound =
      let both =
      is_spelled (program.answer_item a) (program.answer_value a)
      (answer_text program a ++ rest) rest bound in
      ((λ e. (both.0 e).0), (λ f. both.1 (f, refl)))

  -- texts of answers that are read back with what stands after them: neither begins the other
  pub read_back_is_one : (answer_at : List ℕ → Read Answer) (a b : Answer) (x y : List ℕ)
      → answer_at (answer_text program a ++ x) ≡ Ok (a, x)
      → answer_at (answer_text program b ++ y) ≡ Ok (b, y)
      → answer_text program a ++ x ≡ answer_text program b ++ y → (a ≡ b) × (x ≡ y)
  read_back_is_one answer_at a b x y first second e =
      let both = ok_is (a, x) (b, y) (sym first ∙ ap answer_at e ∙ second) in
      (ap (λ (p : Answer × List ℕ). p.0) both, ap (λ (p : Answer × List ℕ). p.1) both)

-- ---- what a reader gave

module _ {P Call Answer X : Type 0} (program : Program P Call Answer) (call_of : X → Call) (procedure : P)
    (bytes : List ℕ) where
  -- what was read from bytes is said by them
  pub given_is_said : (result : Result X XdrFault) (new : List ℕ) → IsBytes bytes
      → GivesCall program call_of procedure bytes result new
      → IfOk result (λ a. (rest : List ℕ) × SaysCall program procedure bytes (call_of a) rest)
  given_is_said (Ok a) new bound given =
      (new, read_is_said program procedure bytes new (call_of a) bound given)
  given_is_said (Err e) new bound given = tt

  -- what bytes say is what was read
  pub said_is_given : (result : Result X XdrFault) (new : List ℕ)
      → GivesCall program call_of procedure bytes result new
      → (call : Call) (rest : List ℕ) → SaysCall program procedure bytes call rest
      → IsOkAnd result (λ a. call_of a ≡ call)
  said_is_given (Ok a) new given call rest s =
      let both =
      ok_is (call_of a, new) (call, rest) (sym given ∙ said_is_read program procedure bytes rest call s) in
      ap (λ (x : Call × List ℕ). x.0) both
  said_is_given (Err e) new given call rest s =
      let e = sym given ∙ said_is_read program procedure bytes rest call s in absurd cc

  -- what was read is of the procedure
  pub given_is_own : OwnValues program → (result : Result X XdrFault) (new : List ℕ) → IsBytes bytes
      → GivesCall program call_of procedure bytes result new
      → IfOk result (λ a. program.procedure_in (call_of a) ≡ procedure)
  given_is_own own (Ok a) new bound given =
      own_call program own procedure bytes new (call_of a)
      (read_is_said program procedure bytes new (call_of a) bound given)
  given_is_own own (Err e) new bound given = tt

  -- what was read keeps a bound that the values of arguments keep
  pub given_is_bounded : (HasBounds : Call → Type 0) → BoundedValues program HasBounds
      → (result : Result X XdrFault) (new : List ℕ) → IsBytes bytes
      → GivesCall program call_of procedure bytes result new
      → IfOk result (λ a. HasBounds (call_of a))
  given_is_bounded HasBounds values (Ok a) new bound given =
      read_is_bounded program HasBounds values procedure bytes new (call_of a) bound given
  given_is_bounded HasBounds values (Err e) new bound given = tt
