use Rattle.std.proofs.Common.{◌≡◌, ℕ, ◌<◌, List, Result, Ok, Err, IfOk, length, get_or, false, Bool, arith}
use Rattle.std.proofs.Common.{⊎_elim, Some, eqb, eqb-true, eq-eqb, sym, ap, subst, ◌∙◌}
use Rattle.std.specs.Prelude.{IsTrue, ◌↔◌}
use Rattle.std.proofs.lemmas.Bool.{cases_lt}
use Rattle.std.proofs.lemmas.Option.{get_or_from_slice_get}
use Rattle.std.proofs.lemmas.Bool.{false≢true}
use Rattle.nfs_laws.specs.fs_spec.Files.{File}
use Rattle.nfs_laws.specs.fs_spec.Trees.{IsFileTree}
use Rattle.inodes.specs.Inodes.{file_in}
use Rattle.inodes.specs.declared.inode.Inode.{Inode}
use Rattle.tree_rules.specs.FileRules.Climbs.{AreWays, TellsWays}
use Rattle.tree_rules.specs.FileRules.Rules.{files_listed, AreFiles, HaveNames, IsAt}
use Rattle.tree_rules.proofs.OfFileRules.Ways.{root_place}
use Rattle.tree_rules.proofs.OfFileRules.Decided.{rules_suffice, tree_known, tree_names, tree_leads}
use Rattle.tree_rules.specs.Listed.{files_in}
use Rattle.tree_rules.specs.Counting.{IsCount}
use Rattle.tree_rules.proofs.Counted.{are_ways}
use Rattle.tree_rules.proofs.Seen.{inode_of_place, an_inode, at_inode, length_files}
use Rattle.tree_rules.proofs.rules.is_tree.Goals as goal

-- a refusal, where the files can't be a tree
refused : {A : Type 0} → (A → ⊥) → (IsTrue false → A) × (A → IsTrue false)
refused not = (λ f. absurd (false≢true f), λ a. absurd (not a))

pub returns-then-is_empty : goal.returns-then-is_empty
returns-then-is_empty c = λ fsid next each. refused (λ tree.
    let r = root_place fsid next (files_in c.args.inodes.now) each tree in
    let n = inode_of_place c.args.inodes.now 0 1 r.0 r.1 in
    let none : length c.args.inodes.now ≡ 0 =
    eqb-true (length c.args.inodes.now) 0 (sym c.is_empty.ensures ∙ c.if-is_empty.true) in
    absurd (omega (arith, n.1, none)))

pub returns-then-inodes-ne1 : goal.returns-then-inodes-ne1
returns-then-inodes-ne1 c = λ fsid next each. refused (λ tree.
    let r = root_place fsid next (files_in c.args.inodes.now) each tree in
    let n = inode_of_place c.args.inodes.now 0 1 r.0 r.1 in
    c.if-inodes-ne1.true (ap (λ (e : ℕ × Inode). e.0)
    (get_or_from_slice_get c.args.inodes.now 0 n.0 c.index-inodes-0.result n.2) ∙ n.3))

pub returns-in_default : goal.returns-in_default
returns-in_default c =
    λ fsid next each. refused (λ tree. (rw c.in_default.is at c.in_ok-counts.ensures)
    (tree_known fsid next (files_in c.args.inodes.now) each tree))

pub returns-then-not-have_names : goal.returns-then-not-have_names
returns-then-not-have_names c = λ fsid next each. refused (λ tree.
    let found = rw c.in-Some.is at c.in_ok-counts.ensures in
    c.if-not-have_names.ensures (subst (HaveNames (files_in c.args.inodes.now)) (sym c.deref-2.ensures.value)
    (tree_names fsid next (files_in c.args.inodes.now) each c.in-Some.counts.names.items
    c.in-Some.counts.above.items found.counted tree)))

pub leads_up-requires : goal.leads_up-requires
leads_up-requires c =
    let found = rw c.in-Some.is at c.in_ok-counts.ensures in
    subst AreWays (sym c.deref-3.ensures.value)
    (are_ways (files_in c.args.inodes.now) c.in-Some.counts.names.items c.in-Some.counts.above.items found)

ne_zero : (n : ℕ) → eqb n 0 ≡ false → 0 < n
ne_zero n e = ⊎_elim (λ lt. lt) (λ le. absurd (false≢true (sym e ∙ eq-eqb n 0 (omega arith)))) (cases_lt 0 n)

module _ (inodes : List (ℕ × Inode)) (fsid next : ℕ) (each : AreFiles next (files_in inodes))
    (names above : List ℕ) (count : IsCount (files_in inodes) names above)
    (may : HaveNames (files_in inodes) names) (root : (f : File) × IsAt (files_in inodes) 0 1 f) where
  decided : (b : Bool) → TellsWays above b → IsTrue b ↔ IsFileTree (files_listed fsid next (files_in inodes))
  decided b t = (
    λ is. rules_suffice fsid next (files_in inodes) each names above count.counted root.0 root.1 count.known
        may t.0
        (λ k n f at. t.2.0 is k (let r = inode_of_place inodes k n f at in
        omega (arith, r.1, count.long_above, length_files inodes))),
    λ tree. t.2.1 (λ place h.
        let a = an_inode inodes place (omega (arith, h, count.long_above, length_files inodes)) in
        tree_leads fsid next (files_in inodes) each names above count.counted tree t.0
        (omega (arith, t.1, count.long_above)) place a.0.0 (file_in a.0.1) a.1),
  )

  if_decided : {E : Type 0} (r : Result Bool E) → IfOk r (TellsWays above)
      → IfOk r (λ b. IsTrue b ↔ IsFileTree (files_listed fsid next (files_in inodes)))
  if_decided (Ok b) t = decided b t
  if_decided (Err e) t = tt

-- where names and ways are as they may the files are decided by the rules
pub returns : goal.returns
returns c = λ fsid next each.
    let found = rw c.in-Some.is at c.in_ok-counts.ensures in
    let first : ℕ × Inode = get_or c.args.inodes.now 0 c.index-inodes-0.result in
    let one : first.0 ≡ 1 = c.if-inodes-ne1.false in
    if_decided c.args.inodes.now fsid next each c.in-Some.counts.names.items c.in-Some.counts.above.items
    found
    (subst (HaveNames (files_in c.args.inodes.now)) c.deref-2.ensures.value c.if-not-have_names.ensures) (
      file_in first.1,
      at_inode c.args.inodes.now 0 c.index-inodes-0.result
          (ne_zero (length c.args.inodes.now) (sym c.is_empty.ensures ∙ c.if-is_empty.false))
          ∙ ap (λ n. Some (n, file_in first.1)) one,
    )
    c.leads_up.result (rw c.deref-3.ensures.value at c.leads_up.ensures)
