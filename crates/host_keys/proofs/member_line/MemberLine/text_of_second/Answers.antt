use Rattle.std.proofs.Common.{append_assoc}
use Rattle.host_keys.proofs.member_line.MemberLine.text_of_second.Goals as goal

pub returns : goal.returns
returns c = simp (c.word_of-kind.ensures, append_assoc) at c.format.ensures.ok
