use Rattle.nfs_laws.proofs.RoomBefore.{to_make, to_link, to_write}
use Rattle.nfs_laws.proofs.laws.room_is_told_before.Goals as goal

pub returns-clause-make : goal.returns-clause-make
returns-clause-make c w now dir name d f tree before there is free empty low =
    to_make now w tree before dir name d there is free f empty low

pub returns-clause-link : goal.returns-clause-link
returns-clause-link c w now from dir name d before there is free =
    to_link now w before dir name d there is free from

pub returns-clause-write : goal.returns-clause-write
returns-clause-write c w n change f before there lists = to_write w before n change f there lists
