use Rattle.std.proofs.Common.{◌≡◌, true, false, refl, sym, ◌∙◌, inr}
use Rattle.secure_log.specs.Marks.{mark_in}
use Rattle.challenge.proofs.Found.{no_first, no_second, same_marks, accepts_two}
use Rattle.challenge.proofs.find.find_in_two.Goals as goal

pub returns-in_default-mark_at : goal.returns-in_default-mark_at
returns-in_default-mark_at c =
    inr (c.requires, inr (c.in_default.ensures.none, refl, no_first c.args.fork.now.at c.args.fork.now.a c.args.b.now (rw c.get.ensures.value at (c.in_default-mark_at.ensures.exact c.requires.closed.first c.requires.closed.skips))))

pub returns-in_default-mark_at-2 : goal.returns-in_default-mark_at-2
returns-in_default-mark_at-2 c =
    inr (c.requires, inr (c.in_default.ensures.none, refl, no_second c.args.fork.now.at c.args.fork.now.a c.args.b.now (rw c.get-2.ensures.value at (c.in_default-mark_at-2.ensures.exact c.in_default.ensures.none.closed.first c.in_default.ensures.none.closed.skips))))

pub returns-then-is_same : goal.returns-then-is_same
returns-then-is_same c =
    inr (
      c.requires,
      inr (
        c.in_default.ensures.none,
        refl,
        same_marks c.args.fork.now.at c.args.fork.now.a c.args.b.now (mark_in c.in-Some-mark_at.one) (mark_in c.in-Some-mark_at-2.other)
            (rw c.get.ensures.value at (c.in-Some-mark_at.ensures.exact c.requires.closed.first c.requires.closed.skips))
            (rw c.get-2.ensures.value at (c.in-Some-mark_at-2.ensures.exact c.in_default.ensures.none.closed.first c.in_default.ensures.none.closed.skips))
            (c.is_same.ensures.0 c.if-is_same.true),
      ),
    )

-- two marks at the number that differ are accepted
pub returns : goal.returns
returns c =
    let differ : ¬ (mark_in c.in-Some-mark_at.one ≡ mark_in c.in-Some-mark_at-2.other) = λ e. let is : c.is_same.result ≡ true = c.is_same.ensures.1 e in let both : true ≡ false = sym is ∙ c.if-is_same.false in absurd cc in (
      c.requires.version,
      c.is_mark.ensures,
      c.is_mark-2.ensures,
      (
        refl,
        accepts_two c.args.fork.now.log_version c.args.roster.now c.args.node c.args.fork.now.at c.args.fork.now.a c.args.b.now (mark_in c.in-Some-mark_at.one) (mark_in c.in-Some-mark_at-2.other) c.requires c.in_default.ensures.none
            (rw c.get.ensures.value at (c.in-Some-mark_at.ensures.exact c.requires.closed.first c.requires.closed.skips))
            (rw c.get-2.ensures.value at (c.in-Some-mark_at-2.ensures.exact c.in_default.ensures.none.closed.first c.in_default.ensures.none.closed.skips))
            differ,
      ),
    )
