use Rattle.file_texts.proofs.NumberedFiles.{AreRead}
use Rattle.file_texts.proofs.numbered.inodes_of.Given as goal

abbrev pub invariant-loop-part : goal.invariant-loop-part
invariant-loop-part l = AreRead l.part-index l.next l.low l.parts l.inodes.items
