use Rattle.std.proofs.Common.{◌≡◌, refl, rules}
use Rattle.std.proofs.KnownBytes.{Consumes-whole}
use Rattle.console.proofs.Reading.{front_of}
use Rattle.console.proofs.input.read_contents.Goals as goal

pub returns-then-not-may_hold-clause-found : goal.returns-then-not-may_hold-clause-found
returns-then-not-may_hold-clause-found g c =
    front_of _ _ c.loop.bytes.items c.deref.result.now _ c.loop.invariant.1 (search rules)
    (c.may_hold.ensures (search rules))

pub returns-then-not-branch-clause-found : goal.returns-then-not-branch-clause-found
returns-then-not-branch-clause-found g c =
    Consumes-whole _ _ c.read_piece.new.bytes.items (λ input. c.read_piece.new.bytes.items ≡ input)
    (c.in_ok-read_piece.ensures.taken _ c.loop.invariant.1) (c.in_ok-read_piece.ensures.end (search rules)) refl
