use Rattle.std.proofs.Common.{◌≡◌, true, false, refl, sym, ◌∙◌, inr}
use Rattle.secure_log.specs.LogEntries.Chain.{zeros}
use Rattle.secure_log.specs.Marks.{mark_in}
use Rattle.challenge.proofs.Found.{no_hash, same_zeros, accepts_one}
use Rattle.challenge.proofs.find.find_in_one.Goals as goal

pub returns-in_default : goal.returns-in_default
returns-in_default c =
    let a = c.args.fork.now.a in
    inr (c.requires, (refl, no_hash c.args.fork.now.at a (c.in_default.ensures.exact c.requires.closed.first c.requires.closed.skips)))

pub returns-then-is_same : goal.returns-then-is_same
unfolding zeros
returns-then-is_same c =
    inr (
      c.requires,
      (refl, same_zeros c.args.fork.now.at c.args.fork.now.a (mark_in c.in-Some.one) (c.in-Some.ensures.exact c.requires.closed.first c.requires.closed.skips) (c.is_same.ensures.0 c.if-is_same.true)),
    )

-- a hash at 0 that isn't zeros is accepted
pub returns : goal.returns
unfolding zeros
returns c =
    let differs : ¬ (mark_in c.in-Some.one ≡ zeros) = λ e. let is : c.is_same.result ≡ true = c.is_same.ensures.1 e in let both : true ≡ false = sym is ∙ c.if-is_same.false in absurd cc in (
      c.requires.version,
      c.is_mark.ensures,
      refl,
      (c.new.ensures, refl, accepts_one c.args.fork.now.log_version c.args.roster.now c.args.node c.args.fork.now.a (mark_in c.in-Some.one) c.requires (c.in-Some.ensures.exact c.requires.closed.first c.requires.closed.skips) differs),
    )
