-- The values of a procedure's arguments say calls of it, and the numbers of procedures are 0 to 5.
-- Serves: `read_mount_args`, and the law `arguments_are_read_as_spelled`.
use Rattle.std.proofs.Common.{◌≡◌, ℕ, ◌≤◌, ◌<◌, None, refl, arith}
use Rattle.std.specs.Prelude.{◌↔◌}
use Rattle.nfs_items.proofs.Programs as programs
use Rattle.mount_types.specs.Texts.{mount_program, procedure_at}
use Rattle.mount_types.specs.declared.arguments.MountProcedure.TheVariants as procedures

-- a value of a procedure's arguments says a call of that procedure
pub own_value : programs.OwnValues mount_program
own_value procedures.Null v = refl
own_value procedures.Mnt v = refl
own_value procedures.Dump v = refl
own_value procedures.Umnt v = refl
own_value procedures.Umntall v = refl
own_value procedures.Export v = refl

-- the numbers of procedures are 0 to 5
pub no_procedure : (n : ℕ) → (procedure_at n ≡ None) ↔ (5 < n)
no_procedure n =
    let all = programs.no_procedure mount_program procedures.Null n in
    ((λ none. let le : 6 ≤ n = all.0 none in omega (arith, le)), (λ large. all.1 (omega (arith, large))))
