-- Lemmas on what calls do to the files that they name and to the others. Serves: `changes` and `frames`.
pub mod OtherFiles
pub mod DirectoryEntries
pub mod NamedFiles
pub mod RenamedFiles
pub mod BytesWritten
