-- The text of a state up to its files, and its files: what is written one after the other.
use Rattle.std.specs.Prelude.{ℕ, List, [], ◌++◌, map}
use Rattle.std.specs.FinMap as finite
use Rattle.xdr.specs.Item.{Item, Value, array, spelling, number_spelling}
use Rattle.nfs_items.specs.Timeval.{timeval, timeval_value}
use Rattle.mount_types.specs.Mounts.{max_mounts}
use Rattle.nfs_laws.specs.fs_spec.Maxima.{max_files}
use Rattle.nfs_laws.specs.fs_spec.Files.{File}
use Rattle.state_spec.specs.Limits.{max_received, max_sends}
use Rattle.state_spec.specs.State.{Machine, Server, Client, clock_in, State}
use Rattle.state_spec.specs.StateItems.{received_item, received_value, sent_item, sent_value, stage_item}
use Rattle.state_spec.specs.StateItems.{stage_value, mount_item}

-- a server is 1, a client 2
abbrev pub kind_of : Machine → ℕ
kind_of (Server w stage) = 1
kind_of (Client clock) = 2

-- what stands after the messages, up to the files: a server's stage, next number and mounts; a client's
-- stage
abbrev pub rest_front : Machine → List ℕ
rest_front (Server w stage) =
    spelling stage_item (stage_value stage)
    ++ (number_spelling 4 w.files.next ++ spelling (array max_mounts mount_item) w.mounts)
rest_front (Client clock) = number_spelling 4 0

-- all up to the files
abbrev pub front_text : State → List ℕ
front_text s =
    number_spelling 4 1
    ++ (number_spelling 4 s.node
    ++ (number_spelling 4 (kind_of s.machine)
    ++ (spelling timeval (timeval_value (clock_in s.machine))
    ++ (spelling (array max_received received_item) (map received_value (finite.keys s.received))
    ++ (spelling (array max_sends sent_item) (map sent_value (finite.entries s.sends))
    ++ rest_front s.machine)))))

-- a server's files after their count, where `value` is said of each
abbrev pub files_text : (file : Item) → (ℕ × File → Value file) → Machine → List ℕ
files_text file value (Server w stage) =
    spelling (array max_files file) (map value (finite.entries w.files.files))
files_text file value (Client clock) = []
