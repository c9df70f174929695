-- What the parts of a file's text say.
use Rattle.std.specs.Prelude.{List, map}
use Rattle.fs_spec.specs.nfs_items.Terms.{FileNumber}
use Rattle.xdr.specs.Item.{Value, choice}
use Rattle.fs_spec.specs.nfs_items.Timeval.{Timeval, timeval}
use Rattle.fs_spec.specs.Files.{Body, File}
use Rattle.fs_spec.specs.Files as files
use Rattle.tree_rules.specs.GivenListing.{said_entries}
use Rattle.server_spec.specs.FileItems.{is_file_kind, kind_item, attributes_item, file_item}
use Rattle.file_texts.specs.declared.parts.TimePart.{TimePart}
use Rattle.file_texts.specs.declared.parts.AttributesPart.{AttributesPart}
use Rattle.file_texts.specs.declared.parts.BodyPart.{BodyPart}
use Rattle.file_texts.specs.declared.parts.BodyPart.TheVariants.{Regular, Symlink, Directory}
use Rattle.file_texts.specs.declared.parts.FilePart.{FilePart}

-- what a time says
abbrev pub time_said : TimePart → Value timeval
time_said t = (t.seconds, t.microseconds)

-- what attributes say
abbrev pub attributes_said : AttributesPart → Value attributes_item
attributes_said a = (a.mode, (a.uid, (a.gid, (time_said a.atime, (time_said a.mtime, time_said a.ctime)))))

-- what stands after a file's number
abbrev pub kind_said : AttributesPart → BodyPart → Value (choice is_file_kind kind_item)
kind_said a (Regular bytes) = (1, (attributes_said a, bytes.now))
kind_said a (Symlink target) = (5, (attributes_said a, target.now))
kind_said a (Directory next entries) = (2, (attributes_said a, (next, said_entries entries.items)))

-- what the parts of a file's text say together
abbrev pub file_said : FilePart → Value file_item
file_said f = (f.number, kind_said f.attributes f.body)

-- ---- the file that parts give

-- the time that a part gives
abbrev pub time_of : TimePart → Timeval
time_of t = record { seconds = t.seconds; microseconds = t.microseconds }

-- the body that a part gives
abbrev pub body_of : BodyPart → Body
body_of (Regular bytes) = files.Regular bytes.now
body_of (Symlink target) = files.Symlink target.now
body_of (Directory next entries) =
    files.Directory (record { next = next; entries = said_entries entries.items })

-- the file that parts give, without its number
abbrev pub file_of : FilePart → File
file_of f = record {
  mode = f.attributes.mode;
  uid = f.attributes.uid;
  gid = f.attributes.gid;
  atime = time_of f.attributes.atime;
  mtime = time_of f.attributes.mtime;
  ctime = time_of f.attributes.ctime;
  body = body_of f.body;
}

-- the files that the parts of several give, with their numbers
abbrev pub files_given : List FilePart → List (FileNumber × File)
files_given parts = map (λ (p : FilePart). (p.number, file_of p)) parts
