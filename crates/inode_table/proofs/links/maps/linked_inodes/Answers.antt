use Rattle.std.proofs.Common.{◌≡◌, ◌++◌, ℕ, List, Result, Ok, Err, IfOk, length, take, drop, sym, ap, subst}
use Rattle.std.proofs.Common.{◌∙◌, arith}
use Rattle.std.proofs.lemmas.List.{take_at}
use Rattle.nfs_count_laws.specs.Counted.{AreCounted}
use Rattle.tree_rules.specs.inodes.Inodes.{files_of, above_at, links_at}
use Rattle.tree_rules.specs.inodes.declared.inode.Inode.{Inode}
use Rattle.tree_rules.specs.FileRules.Rules.{AreRising, files_listed, numbers_of}
use Rattle.tree_rules.specs.Listed.{files_in}
use Rattle.tree_rules.proofs.Seen.{length_files, same_numbers}
use Rattle.inode_table.proofs.OfLinks.Counting.{linked_counted}
use Rattle.inode_table.proofs.links.maps.linked_inodes.Goals as goal

-- what holds of each that is given back
if_ok : {X E : Type 0} (P Q : X → Type 0) (r : Result X E) → IfOk r P → ((x : X) → P x → Q x) → IfOk r Q
if_ok P Q (Ok x) h next = next x h
if_ok P Q (Err e) h next = tt

-- a vector whose slice was changed has what is in the slice
changed : (len : ℕ) (new old tail : List (ℕ × Inode)) → files_in new ≡ files_in old → length old ≡ len
    → take len (new ++ tail) ≡ new
changed len new old tail files long =
    take_at new tail len (omega (arith, long, ap length files, length_files new, length_files old))

pub by_number-requires : goal.by_number-requires
by_number-requires c =
    let new = c.set_links.new.inodes in
    let old = c.deref_mut.result.now in
    let numbers =
    same_numbers new ∙ ap numbers_of c.in_ok-set_links.ensures.files ∙ sym (same_numbers old)
    ∙ ap numbers_of c.deref_mut.ensures.value in
    let same =
    changed c.args.inodes.len new old (drop (length new) c.args.inodes.items)
    c.in_ok-set_links.ensures.files c.deref_mut.ensures.len in
    subst (λ (l : List (ℕ × Inode)). AreRising (numbers_of l)) (sym same)
    (subst AreRising (sym numbers) c.requires.rising)

pub returns-clause-files : goal.returns-clause-files
returns-clause-files c =
    let new = c.set_links.new.inodes in
    let old = c.deref_mut.result.now in
    let same =
    changed c.args.inodes.len new old (drop (length new) c.args.inodes.items)
    c.in_ok-set_links.ensures.files c.deref_mut.ensures.len in
    if_ok _ _ c.by_number.result c.by_number.ensures (λ map is fsid next.
    ap (files_listed fsid next) (ap files_in (is ∙ same) ∙ c.in_ok-set_links.ensures.files
    ∙ ap files_in c.deref_mut.ensures.value))

pub returns-clause-counted : goal.returns-clause-counted
returns-clause-counted c =
    let new = c.set_links.new.inodes in
    let old = c.deref_mut.result.now in
    let same =
    changed c.args.inodes.len new old (drop (length new) c.args.inodes.items)
    c.in_ok-set_links.ensures.files c.deref_mut.ensures.len in
    if_ok _ _ c.by_number.result c.by_number.ensures (λ map is fsid next.
    subst (λ (l : List (ℕ × Inode)). AreCounted (files_of fsid next l) (links_at l) (above_at l))
    (sym (is ∙ same)) (linked_counted fsid next new (c.in_ok-set_links.ensures.linked fsid next)))
