-- A result after its stat: read back from its value, and its bytes told by what it is.
-- Serves: the laws `answers_have_one_meaning`, and by their `answers_say` the writers of answers, in
-- nfs_types::result_texts and mount_types.
use Rattle.std.proofs.Common.{◌≡◌, ℕ, zero, suc, cond, eqb, List, ◌++◌, Result, Ok, Err, refl, ap}
use Rattle.std.proofs.lemmas.List.{append-nil}
use Rattle.xdr.specs.Item.{Item, word, Value, Fits, spelling}
use Rattle.xdr.specs.Reading.{Read, ◌>>=◌, read_at}
use Rattle.xdr.proofs.Exact.{again}
use Rattle.nfs_items.specs.Attributes.{stat_or, stat_value, stat_number, outcome_of, outcome_value}
use Rattle.nfs_items.specs.Attributes.{outcome_text}
use Rattle.nfs_items.specs.declared.stat.Stat.{Stat}
use Rattle.nfs_items.specs.declared.stat.Stat.TheVariants as stats

-- the stat of a number
stat_at : ℕ → Stat
stat_at n =
    cond (eqb n 1) stats.Perm
    (cond (eqb n 2) stats.NoEnt
    (cond (eqb n 5) stats.Io
    (cond (eqb n 6) stats.NxIo
    (cond (eqb n 13) stats.Acces
    (cond (eqb n 17) stats.Exist
    (cond (eqb n 19) stats.NoDev
    (cond (eqb n 20) stats.NotDir
    (cond (eqb n 21) stats.IsDir
    (cond (eqb n 27) stats.FBig
    (cond (eqb n 28) stats.NoSpc
    (cond (eqb n 30) stats.RoFs
    (cond (eqb n 63) stats.NameTooLong
    (cond (eqb n 66) stats.NotEmpty
    (cond (eqb n 69) stats.DQuot (cond (eqb n 70) stats.Stale stats.WFlush)))))))))))))))

-- an outcome back from its value
outcome_at : {X : Type 0} (a : Item) → (Value a → X) → Value (stat_or a) → Result X Stat
outcome_at a back (zero, v) = Ok (back v)
outcome_at a back (suc n, v) = Err (stat_at (suc n))

outcome_is : {X : Type 0} (a : Item) (view : X → Value a) (back : Value a → X) (r : Result X Stat)
    → ((x : X) → r ≡ Ok x → back (view x) ≡ x)
    → outcome_at a back (outcome_value a view r) ≡ r
unfolding outcome_at stat_at
outcome_is a view back (Ok x) same = ap Ok (same x refl)
outcome_is a view back (Err stats.Perm) same = refl
outcome_is a view back (Err stats.NoEnt) same = refl
outcome_is a view back (Err stats.Io) same = refl
outcome_is a view back (Err stats.NxIo) same = refl
outcome_is a view back (Err stats.Acces) same = refl
outcome_is a view back (Err stats.Exist) same = refl
outcome_is a view back (Err stats.NoDev) same = refl
outcome_is a view back (Err stats.NotDir) same = refl
outcome_is a view back (Err stats.IsDir) same = refl
outcome_is a view back (Err stats.FBig) same = refl
outcome_is a view back (Err stats.NoSpc) same = refl
outcome_is a view back (Err stats.RoFs) same = refl
outcome_is a view back (Err stats.NameTooLong) same = refl
outcome_is a view back (Err stats.NotEmpty) same = refl
outcome_is a view back (Err stats.DQuot) same = refl
outcome_is a view back (Err stats.Stale) same = refl
outcome_is a view back (Err stats.WFlush) same = refl

-- an outcome, read as its stat and what stands after OK
pub read_outcome : {X Answer : Type 0} (a : Item) → (Value a → X) → (Result X Stat → Answer) → List ℕ
    → Read Answer
read_outcome a back make bytes = read_at (stat_or a) bytes >>= λ x. Ok (make (outcome_at a back x.0), x.1)

-- an outcome that fits is read back from its spelling
pub outcome_again : {X Answer : Type 0} (a : Item) (view : X → Value a) (back : Value a → X)
    (make : Result X Stat → Answer) (r : Result X Stat) (rest : List ℕ)
    → ((x : X) → r ≡ Ok x → back (view x) ≡ x) → Fits (stat_or a) (outcome_value a view r)
    → read_outcome a back make (spelling (stat_or a) (outcome_value a view r) ++ rest) ≡ Ok (make r, rest)
unfolding read_outcome
outcome_again a view back make r rest same fits =
    let read = again (stat_or a) (outcome_value a view r) rest fits in
    rw (read, outcome_is a view back r same) refl

-- a refusal's spelling is its stat alone
stat_says : (a : Item) (e : Stat) → spelling (stat_or a) (stat_value a e) ≡ spelling word (stat_number e)
stat_says a stats.Perm = append-nil _
stat_says a stats.NoEnt = append-nil _
stat_says a stats.Io = append-nil _
stat_says a stats.NxIo = append-nil _
stat_says a stats.Acces = append-nil _
stat_says a stats.Exist = append-nil _
stat_says a stats.NoDev = append-nil _
stat_says a stats.NotDir = append-nil _
stat_says a stats.IsDir = append-nil _
stat_says a stats.FBig = append-nil _
stat_says a stats.NoSpc = append-nil _
stat_says a stats.RoFs = append-nil _
stat_says a stats.NameTooLong = append-nil _
stat_says a stats.NotEmpty = append-nil _
stat_says a stats.DQuot = append-nil _
stat_says a stats.Stale = append-nil _
stat_says a stats.WFlush = append-nil _

-- an outcome's spelling is OK and what was answered, or the stat; what was answered is seen by a function
pub outcome_says : {X Y : Type 0} (a : Item) (of : X → Y) (view : Y → Value a) (r : Result X Stat)
    → spelling (stat_or a) (outcome_value a view (outcome_of of r))
    ≡ outcome_text (λ x. spelling a (view (of x))) r
outcome_says a of view (Ok x) = refl
outcome_says a of view (Err e) = stat_says a e

-- the same of what is answered as it is
pub plain_says : {X : Type 0} (a : Item) (view : X → Value a) (r : Result X Stat)
    → spelling (stat_or a) (outcome_value a view r) ≡ outcome_text (λ x. spelling a (view x)) r
plain_says a view (Ok x) = refl
plain_says a view (Err e) = stat_says a e
