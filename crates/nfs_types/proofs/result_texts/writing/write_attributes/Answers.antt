use Rattle.std.proofs.Common.{List, ℕ, sym, subst, ◌∙◌}
use Rattle.nfs_items.specs.xdr.Writing.{Appends}
use Rattle.nfs_types.specs.Results.{answer_bytes}
use Rattle.nfs_types.specs.declared.results.NfsResult.TheVariants as code
use Rattle.nfs_types.proofs.OfResultTexts.AnswersSaid.{answers_say}
use Rattle.nfs_types.proofs.result_texts.writing.write_attributes.Goals as goal

-- the bytes are those of the answer that has it
pub returns-clause-appends : goal.returns-clause-appends
returns-clause-appends c =
    subst (λ (t : List ℕ). Appends t c.args.out.now.items
    c.all_or_nothing.result c.all_or_nothing.new.out.items)
    (sym (answers_say (code.Attributes c.args.attributes.now)))
    (c.all_or_nothing.ensures.text (answer_bytes (code.Attributes c.args.attributes.now))
    c.args.out.now.items (sym (c.len-start.ensures ∙ c.args.out.now.ok.0))
    c.add_attrstat-written.ensures.adds)
