use Rattle.nfs_laws.proofs.OfFrames.LastName.{last, more_left, directory}
use Rattle.nfs_laws.proofs.frames.laws.the_last_name_takes_the_file.Goals as goal

pub returns-clause-last : goal.returns-clause-last
returns-clause-last c w after who now dir name n b tree time at single h =
    last now time w after tree who dir name n b at single h

pub returns-clause-more : goal.returns-clause-more
returns-clause-more c w after who now dir name n b tree time at more h =
    more_left now time w after tree who dir name n b at more h

pub returns-clause-directory : goal.returns-clause-directory
returns-clause-directory c w after who now dir name n b tree time at h =
    directory now time w after tree who dir name n b at h
