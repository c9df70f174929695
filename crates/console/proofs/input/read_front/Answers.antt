use Rattle.std.proofs.Common.{refl, rules, inl, inr}
use Rattle.std.proofs.KnownBytes.{Consumes-whole}
use Rattle.console.specs.Contents.{IsFront}
use Rattle.console.proofs.Reading.{front_of}
use Rattle.console.proofs.input.read_front.Goals as goal

-- more than so many bytes
pub returns-then-len-most-clause-found : goal.returns-then-len-most-clause-found
returns-then-len-most-clause-found g c =
    front_of _ _ c.loop.bytes.items c.loop.bytes.items (IsFront c.args.most c.loop.bytes.items) c.loop.invariant.1 refl
    (λ more. inr (record { rest = more; many = search rules; begins = refl }))

-- all
pub returns-then-not-branch-clause-found : goal.returns-then-not-branch-clause-found
returns-then-not-branch-clause-found g c =
    Consumes-whole _ _ c.read_piece.new.bytes.items (IsFront c.args.most c.read_piece.new.bytes.items)
    (c.in_ok-read_piece.ensures.taken _ c.loop.invariant.1) (c.in_ok-read_piece.ensures.end (search rules)) (inl refl)
