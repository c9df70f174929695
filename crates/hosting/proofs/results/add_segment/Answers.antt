use Rattle.std.proofs.Common.{refl}
use Rattle.hosting.specs.Hosting.{IsAudited, audited_text, is_answer}
use Rattle.hosting.proofs.Chosen.{chosen}
use Rattle.hosting.proofs.results.add_segment.Goals as goal

pub returns-in-Ok : goal.returns-in-Ok
returns-in-Ok c =
    chosen (IsAudited c.args.server.now c.args.numbers.now.first c.args.numbers.now.last)
    (audited_text c.args.server.now.log_version c.in-Ok.text.items) c.args.out.now.items c.add_answer.new.out.items
    c.add_answer.result (is_answer c.in-Ok.text.items c.in-Ok.ensures.answer refl)
    (rw (c.log_version.ensures, c.deref.ensures.value) at c.add_answer.ensures)
