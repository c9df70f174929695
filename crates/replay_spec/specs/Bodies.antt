-- The bodies of entries.
use Rattle.nfs_items.specs.xdr.Item.{IsBytes}
use Rattle.secure_log.specs.declared.log_entries.entry.Entry.{Entry}
use Rattle.secure_log.specs.declared.log_entries.entry.Entry.TheVariants.{Send, Recv}

-- The body of a SEND or a RECV is bytes.
abbrev pub HasBytes : Entry → Type 0
HasBytes (Send to body) = IsBytes body
HasBytes (Recv from seq prev body signature) = IsBytes body
HasBytes _ = Unit {0}
