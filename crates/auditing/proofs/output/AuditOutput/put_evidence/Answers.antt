use Rattle.std.proofs.Common.{◌∙◌}
use Rattle.auditing.proofs.Putting.{evidence-put}
use Rattle.auditing.proofs.output.AuditOutput.put_evidence.Goals as goal

pub returns-in-Ok-clause-put : goal.returns-in-Ok-clause-put
returns-in-Ok-clause-put g c h =
    evidence-put _ _ c.args.folder.now c.args.roster.now _ c.args.evidence.now _ _
    (c.deref.ensures ∙ c.in-Ok.ensures.name)
    (c.deref-in-Ok.ensures.value ∙ c.in-Ok.ensures.text) (c.put_file.ensures.put h)
