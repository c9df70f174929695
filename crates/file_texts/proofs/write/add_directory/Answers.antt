use Rattle.std.proofs.lemmas.Result.{err_from_is_err_and}
use Rattle.file_texts.proofs.PartsAdded.{further, unchanged}
use Rattle.file_texts.proofs.write.add_directory.Goals as goal

pub returns-in_err-put_u32-clause-text : goal.returns-in_err-put_u32-clause-text
returns-in_err-put_u32-clause-text c =
    let p = err_from_is_err_and c.from_residual.result c.from_residual.ensures.1 in
    rw p.1 (unchanged _ _ c.in_err-put_u32.ensures.writes)

pub returns-in_err-add_attributes-clause-text : goal.returns-in_err-add_attributes-clause-text
returns-in_err-add_attributes-clause-text c =
    let residual = c.from_residual-in_err-add_attributes in
    let p = err_from_is_err_and residual.result residual.ensures.1 in
    rw p.1 (further _ _ _ _ c.in_ok-put_u32.ensures.writes c.in_err-add_attributes.ensures.text)

pub returns-in_err-put_u32-2-clause-text : goal.returns-in_err-put_u32-2-clause-text
returns-in_err-put_u32-2-clause-text c =
    let residual = c.from_residual-in_err-put_u32-2 in
    let p = err_from_is_err_and residual.result residual.ensures.1 in
    rw p.1 (further _ _ _ _ c.in_ok-put_u32.ensures.writes (further _ _ _ _
    c.in_ok-add_attributes.ensures.text (unchanged _ _ c.in_err-put_u32-2.ensures.writes)))
