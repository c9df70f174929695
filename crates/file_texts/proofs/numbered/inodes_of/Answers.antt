use Rattle.std.proofs.Common.{arith}
use Rattle.file_texts.proofs.NumberedFiles.{none_read, next_is, read_more, read_all}
use Rattle.file_texts.proofs.numbered.inodes_of.Goals as goal

pub loop-part-init : goal.loop-part-init
loop-part-init c = rw c.new-inodes.ensures.items (none_read c.args.next c.args.parts.now)

pub returns-in_default : goal.returns-in_default
returns-in_default c = λ h.
    let asked = next_is c.loop-part.part-index c.args.next c.loop-part.low c.args.parts.now
    c.loop-part.inodes.items c.loop-part.invariant c.part-item.result c.loop-part-test.true
    c.part-item.is h in
    (rw c.in_default.is at c.in_ok-inode.ensures) asked.2

pub returns-then-part-low : goal.returns-then-part-low
returns-then-part-low c = λ h.
    let asked = next_is c.loop-part.part-index c.args.next c.loop-part.low c.args.parts.now
    c.loop-part.inodes.items c.loop-part.invariant c.part-item.result c.loop-part-test.true
    c.part-item.is h in
    absurd (omega (arith, asked.0, c.if-part-low.true))

pub loop-part-preserved : goal.loop-part-preserved
loop-part-preserved c =
    let i = c.loop-part.part-index in
    let kept = rw c.in-Some.is at c.in_ok-inode.ensures in
    rw c.in_ok-push.ensures.items (read_more i c.args.next c.loop-part.low c.args.parts.now
    c.loop-part.inodes.items c.loop-part.invariant c.part-item.result c.loop-part-test.true
    c.part-item.is c.in-Some.inode kept.0 c.if-part-low.false c.if-next-part.false kept.1)

-- after the last part all files were read, each one by itself
pub returns : goal.returns
returns c = read_all c.loop-part.part-index c.args.next c.loop-part.low c.args.parts.now
    c.loop-part.inodes.items c.loop-part.invariant c.loop-part-test.false
