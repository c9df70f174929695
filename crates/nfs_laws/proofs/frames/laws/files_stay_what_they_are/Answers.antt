use Rattle.nfs_laws.proofs.OfFrames.KeptParts.{kinds, attributes, bytes}
use Rattle.nfs_laws.proofs.frames.laws.files_stay_what_they_are.Goals as goal

pub returns-clause-kinds : goal.returns-clause-kinds
returns-clause-kinds c w who now call n tree = kinds w who now tree call n

pub returns-clause-attributes : goal.returns-clause-attributes
returns-clause-attributes c w who now call n tree h = attributes w who now tree call n h

pub returns-clause-bytes : goal.returns-clause-bytes
returns-clause-bytes c w who now call n tree h = bytes w who now tree call n h
