use Rattle.nfs_procs.proofs.reading.answer_read.Goals as goal

pub returns-in-Getattr-clause-text : goal.returns-in-Getattr-clause-text
returns-in-Getattr-clause-text c = rw (c.in-Getattr.is) c.add_attributes.ensures

pub returns-in-Lookup-clause-text : goal.returns-in-Lookup-clause-text
returns-in-Lookup-clause-text c = rw (c.in-Lookup.is) c.add_found.ensures

pub returns-in-Readlink-clause-text : goal.returns-in-Readlink-clause-text
returns-in-Readlink-clause-text c = rw (c.in-Readlink.is) c.add_target.ensures

pub returns-in-Read-clause-text : goal.returns-in-Read-clause-text
returns-in-Read-clause-text c = rw (c.in-Read.is) c.add_bytes.ensures

pub returns-in-Readdir-clause-text : goal.returns-in-Readdir-clause-text
returns-in-Readdir-clause-text c = rw (c.in-Readdir.is) c.add_entries.ensures

pub returns-in-Statfs-clause-text : goal.returns-in-Statfs-clause-text
returns-in-Statfs-clause-text c = rw (c.in-Statfs.is) c.add_figures.ensures
