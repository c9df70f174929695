-- An answer's spelling, read back, is the answer: so no answer of a procedure begins another.
-- Serves: the law `answers_have_one_meaning`.
use Rattle.std.proofs.Common.{◌≡◌, ℕ, List, ◌++◌, Ok, refl}
use Rattle.nfs_items.specs.xdr.Item.{Fits}
use Rattle.nfs_items.specs.xdr.Reading.{Read, ◌>>=◌, read_at}
use Rattle.nfs_items.proofs.xdr.Exact.{again}
use Rattle.nfs_items.specs.Handle.{fhandle}
use Rattle.nfs_items.proofs.Outcomes.{read_outcome, outcome_again}
use Rattle.nfs_items.proofs.Programs.{read_back_is_one}
use Rattle.mount_types.specs.declared.arguments.MountProcedure.{MountProcedure}
use Rattle.mount_types.specs.declared.arguments.MountProcedure.TheVariants as procedures
use Rattle.mount_types.specs.Items.{mountlist, exportlist}
use Rattle.mount_types.specs.Calls as calls
use Rattle.mount_types.specs.Calls.{MountAnswer}
use Rattle.mount_types.specs.Texts.{mount_program, answer_item, answer_value, answer_text, procedure_of}
use Rattle.mount_types.specs.Texts.{IsAnswerTo}

-- the answer of a procedure that stands at the front
answer_at : MountProcedure → List ℕ → Read MountAnswer
answer_at procedures.Null bytes = Ok (calls.Nothing, bytes)
answer_at procedures.Mnt bytes = read_outcome fhandle (λ v. v) calls.Mounted bytes
answer_at procedures.Dump bytes = read_at mountlist bytes >>= λ x. Ok (calls.Mounts x.0, x.1)
answer_at procedures.Umnt bytes = Ok (calls.Nothing, bytes)
answer_at procedures.Umntall bytes = Ok (calls.Nothing, bytes)
answer_at procedures.Export bytes = read_at exportlist bytes >>= λ x. Ok (calls.Exports x.0, x.1)

answer_again : (procedure : MountProcedure) (a : MountAnswer) (rest : List ℕ) → IsAnswerTo procedure a
    → Fits (answer_item a) (answer_value a)
    → answer_at procedure (answer_text a ++ rest) ≡ Ok (a, rest)
unfolding answer_at
answer_again procedures.Null calls.Nothing rest of h = refl
answer_again procedures.Mnt (calls.Mounted r) rest of h =
    outcome_again fhandle (λ handle. handle) (λ v. v) calls.Mounted r rest (λ x _. refl) h
answer_again procedures.Dump (calls.Mounts mounts) rest of h =
    let read = again mountlist mounts rest h in rw read refl
answer_again procedures.Umnt calls.Nothing rest of h = refl
answer_again procedures.Umntall calls.Nothing rest of h = refl
answer_again procedures.Export (calls.Exports exports) rest of h =
    let read = again exportlist exports rest h in rw read refl
answer_again _ _ rest of h = absurd of

-- no answer of a procedure begins another
pub one_meaning : (procedure : MountProcedure) (a b : MountAnswer) (x y : List ℕ) → IsAnswerTo procedure a
    → IsAnswerTo procedure b
    → Fits (answer_item a) (answer_value a) → Fits (answer_item b) (answer_value b)
    → answer_text a ++ x ≡ answer_text b ++ y → (a ≡ b) × (x ≡ y)
one_meaning procedure a b x y i j h k e =
    read_back_is_one mount_program (answer_at procedure) a b x y (answer_again procedure a x i h)
    (answer_again procedure b y j k) e

-- an answer of a procedure is of its results
pub own_item : (procedure : MountProcedure) (a : MountAnswer) → IsAnswerTo procedure a
    → answer_item a ≡ (procedure_of procedure).results
own_item procedures.Null calls.Nothing of = refl
own_item procedures.Mnt (calls.Mounted r) of = refl
own_item procedures.Dump (calls.Mounts mounts) of = refl
own_item procedures.Umnt calls.Nothing of = refl
own_item procedures.Umntall calls.Nothing of = refl
own_item procedures.Export (calls.Exports exports) of = refl
own_item _ _ of = absurd of
