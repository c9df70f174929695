use Rattle.mount.proofs.mount_call.Goals as goal

pub returns-in-Dump-clause-text : goal.returns-in-Dump-clause-text
returns-in-Dump-clause-text c = rw (c.in-Dump.is) c.dump.ensures

pub returns-in-Export-clause-text : goal.returns-in-Export-clause-text
returns-in-Export-clause-text c = rw (c.in-Export.is) c.export.ensures
