use Rattle.std.proofs.Common.{sym, ◌∙◌, arith}
use Rattle.std.proofs.lemmas.List.{length-map}
use Rattle.authenticator.specs.Roster.{member_value}
use Rattle.authenticator.proofs.Forms.{adds_first, adds_second}
use Rattle.authenticator.proofs.roster.add_members.Goals as goal

-- the members' texts stand after the word of the second form and their count
pub returns-then-has_gaps : goal.returns-then-has_gaps
returns-then-has_gaps c =
    adds_second c.args.members.now c.args.out.now.items _ _ _ c.add_each_versioned.result
    (sym c.has_gaps.ensures ∙ c.if-has_gaps.true) c.in_ok-put_u32.ensures.writes
    c.in_ok-put_u32-2.ensures.writes c.add_each_versioned.ensures

-- or after their count alone
pub returns : goal.returns
returns c =
    let ms = c.args.members.now in
    adds_first ms c.args.out.now.items _ _ c.add_each.result
    (omega (arith, length-map ms member_value, c.requires.0.1)) (sym c.has_gaps.ensures ∙ c.if-has_gaps.false)
    c.in_ok-put_u32-3.ensures.writes c.add_each.ensures
