use Rattle.std.proofs.Common.{◌≡◌, ⊎_elim, ◌+◌, ◌<◌, ◌≤◌, ℕ, List, length, get_or, false, arith, sym, ap}
use Rattle.std.proofs.Common.{subst, ◌∙◌}
use Rattle.std.proofs.lemmas.List.{get_or_default}
use Rattle.fs_spec.specs.Files.{Body, Directory, File, is_directory, listing_in}
use Rattle.fs_spec.specs.Listing.{Listing}
use Rattle.fs_spec.proofs.Walks.{some_same}
use Rattle.tree_rules.specs.inodes.Inodes.{body_in, file_in, files_of}
use Rattle.tree_rules.specs.inodes.declared.inode.Inode.{Inode}
use Rattle.tree_rules.specs.FileRules.Rules.{AreRising, IsAt}
use Rattle.tree_rules.specs.Listed.{entries_among, files_in}
use Rattle.inode_table.specs.Links.Linked.{IsLinks}
use Rattle.tree_rules.proofs.Seen.{at_inode, length_files, length_numbers, same_numbers}
use Rattle.tree_rules.proofs.Counted.{are_ways, few_names_at, few_entries_at}
use Rattle.inode_table.proofs.OfLinks.Linking.{names_are, parent_is, plain_links}
use Rattle.inode_table.proofs.links.links.links_of.Goals as goal

-- the file at a place has the body of the inode there
body_at : (inodes : List (ℕ × Inode)) (k : ℕ) (d : ℕ × Inode) (n : ℕ) (f : File) → k < length inodes
    → IsAt (files_in inodes) k n f → f.body ≡ body_in (get_or inodes k d).1.body
body_at inodes k d n f h at = ap (λ (e : ℕ × File). e.1.body) (some_same (sym at ∙ at_inode inodes k d h))

-- a directory has no more entries than there are
few_listed : (inodes : List (ℕ × Inode)) (k : ℕ) (d : ℕ × Inode) (l : Listing) → k < length inodes
    → body_in (get_or inodes k d).1.body ≡ Directory l → length l.entries ≤ entries_among (files_in inodes)
few_listed inodes k d l h is =
    let few =
    few_entries_at (files_in inodes) k (get_or inodes k d).0 (file_in (get_or inodes k d).1)
    (at_inode inodes k d h) in
    omega (arith, few, ap (λ b. length (listing_in b).entries) is)

pub overflow_cast-result : goal.overflow_cast-result
overflow_cast-result c =
    let few =
    few_listed c.args.inodes.now c.args.place c.index-inodes-place.result c.in-Directory.listing
    c.requires.inside (ap body_in c.in-Directory.is) in
    omega (arith, few, c.requires.few, c.count_subdirectories.ensures.bound)

pub overflow_add-result : goal.overflow_add-result
overflow_add-result c =
    let few =
    few_listed c.args.inodes.now c.args.place c.index-inodes-place.result c.in-Directory.listing
    c.requires.inside (ap body_in c.in-Directory.is) in
    omega (arith, few, c.requires.few, c.count_subdirectories.ensures.bound)

pub number_above-requires-clause-place : goal.number_above-requires-clause-place
number_above-requires-clause-place c =
    omega (
      arith,
      c.requires.inside,
      c.requires.counted.long_above,
      length_files c.args.inodes.now,
      ap length c.deref.ensures.value,
    )

pub number_above-requires-clause-above : goal.number_above-requires-clause-above
number_above-requires-clause-above c =
    let above = c.args.counts.now.above.items in
    let way =
    are_ways (files_in c.args.inodes.now) c.args.counts.now.names.items above c.requires.counted
    c.args.place 0 (omega (
      arith,
      c.requires.inside,
      c.requires.counted.long_above,
      length_files c.args.inodes.now,
    )) in
    omega (
      arith,
      way,
      ap (λ (l : List ℕ). get_or l c.args.place 0) c.deref.ensures.value,
      c.requires.counted.long_above,
      length_files c.args.inodes.now,
      ap length c.requires.numbers,
      length_numbers c.args.inodes.now,
    )

pub overflow_cast-result-in-Regular : goal.overflow_cast-result-in-Regular
overflow_cast-result-in-Regular c =
    let inodes = c.args.inodes.now in
    let e : ℕ × Inode = get_or inodes c.args.place c.index-inodes-place.result in
    let few =
    few_names_at (files_in inodes) c.args.place e.0 (file_in e.1)
    (at_inode inodes c.args.place c.index-inodes-place.result c.requires.inside)
    c.args.counts.now.names.items c.args.counts.now.above.items c.requires.counted in
    let same =
    get_or_default c.args.counts.now.names.items c.args.place c.index.result.now 0
    (omega (arith, c.requires.inside, c.requires.counted.long_names, length_files inodes)) in
    omega (arith, few, c.requires.few, c.index.ensures, same)

pub returns-in-Directory : goal.returns-in-Directory
returns-in-Directory c = λ fsid next n f at.
    let inodes = c.args.inodes.now in
    let es = files_in inodes in
    let k = c.args.place in
    let above = c.args.counts.now.above.items in
    let numbers = c.requires.numbers ∙ same_numbers inodes in
    let body : f.body ≡ Directory c.in-Directory.listing =
    body_at inodes k c.index-inodes-place.result n f c.requires.inside at
    ∙ ap body_in c.in-Directory.is in
    let parent =
    parent_is c.requires.tree.0 c.requires.tree.1 es
    (subst AreRising numbers c.requires.rising) c.requires.tree.2 c.args.counts.now.names.items above
    c.requires.counted k n f at (ap is_directory body) in
    subst (λ (b : Body). IsLinks (files_of fsid next inodes) n b
    (record { nlink = 2 + c.count_subdirectories.result; parent = c.number_above.result })) (sym body)
    (record {
      nlink_is = ap (λ m. 2 + m) (c.count_subdirectories.ensures.value fsid next);
      parent_is =
          λ _. c.number_above.ensures ∙ ap (λ (l : List ℕ). get_or c.args.numbers.now (get_or l k 0) 0)
          c.deref.ensures.value ∙ ap (λ (l : List ℕ). get_or l (get_or above k 0) 0) numbers ∙ parent;
    })

pub returns-in-Regular : goal.returns-in-Regular
returns-in-Regular c = λ fsid next n f at.
    let inodes = c.args.inodes.now in
    let es = files_in inodes in
    let k = c.args.place in
    let names = c.args.counts.now.names.items in
    let numbers = c.requires.numbers ∙ same_numbers inodes in
    let are =
    names_are c.requires.tree.0 c.requires.tree.1 es
    (subst AreRising numbers c.requires.rising) c.requires.tree.2 names c.args.counts.now.above.items
    c.requires.counted k n f at in
    let same =
    get_or_default names k c.index.result.now 0
    (omega (arith, c.requires.inside, c.requires.counted.long_names, length_files inodes)) in
    let plain : is_directory f.body ≡ false =
    ap is_directory (body_at inodes k c.index-inodes-place.result n f c.requires.inside at)
    ∙ ⊎_elim (λ b. ap (λ s. is_directory (body_in s)) b.1)
    (λ b. ap (λ s. is_directory (body_in s)) b.1) c.in-Regular.is in
    plain_links (files_of fsid next inodes) n f.body (record { nlink = c.index.result.now; parent = 1 }) plain
    (c.index.ensures ∙ same ∙ are)
