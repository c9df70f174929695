use Rattle.nfs_types.proofs.OfResultTexts.AnswersSaid.{list_ends}
use Rattle.nfs_types.proofs.result_texts.writing.add_list.Goals as goal

-- FALSE after the entries ends the list
pub returns : goal.returns
returns c =
    list_ends c.args.entries.now c.args.out.now.items c.add_entries.new.out.items c.put_u32.new.self.items
    c.put_u32.result c.in_ok-add_entries.ensures c.put_u32.ensures.writes
