use Rattle.std.proofs.Common.{⊎_elim, arith}
use Rattle.nfs_laws.specs.Frames.Runs.{files_after}
use Rattle.nfs_laws.proofs.OfFrames.Runs.{anew, none_since}
use Rattle.nfs_laws.proofs.frames.laws.runs_give_nothing_again.Goals as goal

pub returns-clause-anew : goal.returns-clause-anew
returns-clause-anew c w requests tree bounded = anew w requests tree bounded

pub returns-clause-number : goal.returns-clause-number
returns-clause-number c w requests n tree bounded given none =
    none_since w (files_after w requests) n (anew w requests tree bounded) given none

pub returns-clause-cookie : goal.returns-clause-cookie
returns-clause-cookie c w requests n k b name tree bounded is given at =
    ⊎_elim (λ h. h) (λ late. absurd (omega (arith, late, given)))
    ((anew w requests tree bounded).entries n name k b is at)
