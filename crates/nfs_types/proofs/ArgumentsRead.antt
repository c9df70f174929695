-- The values of a procedure's arguments say calls of it, and the numbers of procedures are 0 to 17.
-- Serves: `read_args`, and the law `arguments_are_read_as_spelled`.
use Rattle.std.proofs.Common.{◌≡◌, ℕ, ◌≤◌, ◌<◌, None, refl, arith}
use Rattle.std.specs.Prelude.{◌↔◌}
use Rattle.nfs_items.proofs.Programs as programs
use Rattle.nfs_types.specs.Texts.{nfs_program, procedure_at}
use Rattle.nfs_types.specs.declared.arguments.NfsProcedure.TheVariants as procedures

-- a value of a procedure's arguments says a call of that procedure
pub own_value : programs.OwnValues nfs_program
own_value procedures.Null v = refl
own_value procedures.Getattr v = refl
own_value procedures.Setattr v = refl
own_value procedures.Root v = refl
own_value procedures.Lookup v = refl
own_value procedures.Readlink v = refl
own_value procedures.Read v = refl
own_value procedures.Writecache v = refl
own_value procedures.Write v = refl
own_value procedures.Create v = refl
own_value procedures.Remove v = refl
own_value procedures.Rename v = refl
own_value procedures.Link v = refl
own_value procedures.Symlink v = refl
own_value procedures.Mkdir v = refl
own_value procedures.Rmdir v = refl
own_value procedures.Readdir v = refl
own_value procedures.Statfs v = refl

-- the numbers of procedures are 0 to 17
pub no_procedure : (n : ℕ) → (procedure_at n ≡ None) ↔ (17 < n)
no_procedure n =
    let all = programs.no_procedure nfs_program procedures.Null n in
    ((λ none. let le : 18 ≤ n = all.0 none in omega (arith, le)), (λ large. all.1 (omega (arith, large))))
