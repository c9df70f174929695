-- Files that are well each by itself, and what it takes that they are a server's tree.
-- Serves: `tree_of`.
use Rattle.std.proofs.Common.{◌≡◌, ℕ, ◌<◌, ◌≤◌, ◌^◌, Bool, false, List, length, get_or, Result, Ok, Err, IfOk}
use Rattle.std.proofs.Common.{sym, subst, ◌∙◌}
use Rattle.std.specs.Prelude.{IsTrue, ◌↔◌}
use Rattle.std.specs.List.{All}
use Rattle.std.proofs.lemmas.List.Elements.{All-nil, All-map, All-from_recursion}
use Rattle.nfs_laws.specs.fs_spec.Listing.{NamedEntry, entry_name}
use Rattle.nfs_laws.specs.fs_spec.Maxima.{max_name}
use Rattle.nfs_laws.specs.fs_spec.Names.{is_name}
use Rattle.nfs_laws.specs.fs_spec.Files.{Body, Regular, Symlink, Directory, File, listing_in}
use Rattle.nfs_laws.specs.fs_spec.Trees.{IsBody, IsFile}
use Rattle.nfs_laws.specs.Sizes.Bounds.{HasWords, AreWords}
use Rattle.file_tree.specs.tree_rules.FileRules.Rules.{AreFiles, AreNames, AreRising, numbers_of}
use Rattle.file_tree.proofs.tree_rules.OfFileRules.Listed.{holds_at, place_of_file}
use Rattle.file_tree.proofs.tree_rules.OfFileRules.Decided.{tree_files}
use Rattle.inodes.specs.Inodes.{file_in, files_of}
use Rattle.inodes.specs.declared.inode.Inode.{Inode}
use Rattle.file_tree.specs.tree_rules.Listed.{files_in}
use Rattle.file_tree.proofs.tree_rules.Seen.{at_inode, inode_of_place, same_numbers}
use Rattle.std.proofs.lemmas.Bool.{false≢true}
use Rattle.state_machine.specs.file_texts.Alone.{AreAlone, IsBodyAlone, IsFileAlone}
use Rattle.state_machine.specs.file_texts.Bounds.{IsWritable}
use Rattle.state_machine.specs.file_texts.Parts.{body_of, file_of, files_given}
use Rattle.state_machine.specs.file_texts.declared.parts.FilePart.{FilePart}
use Rattle.checkpoint.specs.Trees.ServedTrees.{IsServedTree}

-- ---- a file by itself

-- the names of a file that keeps its rules and that a text holds are names within their limit
are_names : (b : Body) → IsWritable b → IsBodyAlone b → AreNames (listing_in b).entries
are_names (Regular bytes) w h = All-nil (λ (e : NamedEntry). IsTrue (is_name (entry_name e))
    × (length (entry_name e) ≤ max_name))
are_names (Symlink target) w h = All-nil (λ (e : NamedEntry). IsTrue (is_name (entry_name e))
    × (length (entry_name e) ≤ max_name))
are_names (Directory l) w h = λ i d lt.
    (h.names i d lt, All-from_recursion (λ (e : NamedEntry). length e.0 ≤ max_name) l.entries w.1 i d lt)

-- a file that keeps its rules is one
is_file : (f : File) → IsFileAlone f → IsFile f
is_file f h = record { mode = h.mode; atime = h.atime; mtime = h.mtime; ctime = h.ctime; body = h.body.body }

-- a file whose names are names keeps its rules
is_alone : (f : File) → IsFile f → AreNames (listing_in f.body).entries → IsFileAlone f
is_alone f h names = record {
  mode = h.mode;
  atime = h.atime;
  mtime = h.mtime;
  ctime = h.ctime;
  body = record { body = h.body; names = λ i d lt. (names i d lt).0 };
}

-- ---- files of parts

-- the files of parts that a text can hold are such files
given_writable : (parts : List FilePart) → All (λ (p : FilePart). IsWritable (body_of p.body)) parts
    → All (λ (e : ℕ × File). IsWritable e.1.body) (files_given parts)
given_writable parts h = All-map (λ (e : ℕ × File). IsWritable e.1.body)
    (λ (p : FilePart). (p.number, file_of p)) parts h

-- files that are well each by itself, as the rules of a tree ask it
pub are_files : (next : ℕ) (parts : List FilePart)
    → All (λ (p : FilePart). IsWritable (body_of p.body)) parts → AreAlone next (files_given parts)
    → AreFiles next (files_given parts)
are_files next parts w h = record {
  rising = h.rising;
  numbers = h.numbers;
  files = λ i d lt. is_file (get_or (files_given parts) i d).1 (h.files i d lt);
  names = λ i d lt. are_names (get_or (files_given parts) i d).1.body (given_writable parts w i d lt)
      (h.files i d lt).body;
}

-- the files of a tree are well each by itself
pub tree_alone : (node next : ℕ) (es : List (ℕ × File)) → IsServedTree node next es → AreAlone next es
tree_alone node next es h =
    let each = tree_files node next es h.rising h.tree in
    record {
      rising = h.rising;
      numbers = each.numbers;
      files = λ i d lt. is_alone (get_or es i d).1 (each.files i d lt) (each.names i d lt);
    }

-- ---- inodes

-- each body is within its limit
pub bodies : (next : ℕ) (inodes : List (ℕ × Inode)) → AreFiles next (files_in inodes)
    → All (λ (e : ℕ × Inode). IsBody (file_in e.1).body) inodes
bodies next inodes each = λ k d lt.
    let e = get_or inodes k d in
    (holds_at (files_in inodes) (λ e. IsFile e.1) each.files k (e.0, file_in e.1)
    (at_inode inodes k d lt)).body

-- owners, groups and seconds of files are words where those of the inodes are
pub words : (node next : ℕ) (inodes : List (ℕ × Inode)) → AreRising (numbers_of (files_in inodes))
    → node < 2 ^ 32 → All (λ (e : ℕ × Inode). HasWords (file_in e.1)) inodes
    → AreWords (files_of node next inodes)
words node next inodes up low all = record {
  fsid = low;
  files = λ n f there.
      let p = place_of_file node next (files_in inodes) up n f there in
      let e = inode_of_place inodes p.0 n f p.1 in
      subst HasWords e.4 (holds_at inodes (λ (e : ℕ × Inode). HasWords (file_in e.1)) all p.0 e.0 e.2);
}

-- their numbers rise
pub rising : (next : ℕ) (inodes : List (ℕ × Inode)) → AreFiles next (files_in inodes)
    → AreRising (numbers_of inodes)
rising next inodes each = subst AreRising (sym (same_numbers inodes)) each.rising

-- ---- answers

-- a tree that has room, where it is known that it has
pub with_room : {E : Type 0} (A B : Type 0) (r : Result Bool E) → IfOk r (λ is. IsTrue is ↔ A) → B
    → IfOk r (λ is. IsTrue is ↔ (A × B))
with_room A B (Ok is) decided room = (λ h. (decided.0 h, room), λ h. decided.1 h.0)
with_room A B (Err e) decided room = tt

-- a refusal, where there is a tree with room
pub not_refused : (A B : Type 0) (is : Bool) → IsTrue is ↔ (A × B) → is ≡ false → A → B → ⊥
not_refused A B is decided refused a b = false≢true (sym refused ∙ decided.1 (a, b))
