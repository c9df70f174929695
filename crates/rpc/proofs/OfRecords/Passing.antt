-- Bytes that a reader has at hand, passed over.
-- Serves: `pass` of BufReader.
use Rattle.std.proofs.Common.{◌≡◌, ℕ, ◌≤◌, List, ◌++◌, length, take, drop, sym, ap, ◌∙◌, take-append-drop}
use Rattle.std.specs.Prelude.{Option, Some, None, IfSome}
use Rattle.std.specs.Io.{StartsWith}
use Rattle.std.specs.Io.KnownBytes.{Consumes}
use Rattle.std.specs.Io.BufRead.{DropsConsumable}
use Rattle.std.proofs.KnownBytes.{starts_with_rest}
use lib.Seq.{take-append-le}

-- what stood in front leaves the known bytes
pub passed : (old new : Option (List ℕ)) (ahead : List ℕ) (amount : ℕ)
    → IfSome old (λ xs. StartsWith xs ahead) → amount ≤ length ahead
    → DropsConsumable old new (Some (length ahead)) amount → Consumes old new (take amount ahead)
passed None new ahead amount front fits drops = tt
passed (Some xs) new ahead amount front fits drops =
    let same : take amount xs ≡ take amount ahead =
    ap (take amount) (starts_with_rest xs ahead front)
    ∙ take-append-le amount ahead (drop (length ahead) xs) fits in
    rw (drops fits) (rw (← same) (sym (take-append-drop amount xs)))
