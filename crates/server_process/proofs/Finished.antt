-- An answer that was left to be written is written.
-- Serves: LockedServer::finish.
use Rattle.std.proofs.Common.{◌≡◌, ℕ, List, subst}
use Rattle.hosting.specs.Hosting.{IsFinished, OnceFinished}
use Rattle.hosting.specs.declared.unwritten.Progress.{Progress}
use Rattle.hosting.specs.declared.unwritten.Progress.TheVariants as progress
use Rattle.hosting.specs.declared.unwritten.Unwritten.{Unwritten}
use Rattle.request_streams.specs.declared.answerer.Outcome.{Outcome}

pub finished : (Holds : Outcome → List ℕ → Type 0) (p : Progress) (u : Unwritten) (before : List ℕ)
    (outcome : Outcome) (text : List ℕ) → p ≡ progress.Unwritten u → IsFinished u outcome text
    → OnceFinished Holds p before → Holds outcome text
finished Holds p u before outcome text is written holds =
    (subst (λ (q : Progress). OnceFinished Holds q before) is holds) outcome text written
