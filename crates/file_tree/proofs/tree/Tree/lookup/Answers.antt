use Rattle.std.proofs.Common.{ℕ, Result, Ok, Err, IfOk, refl, sym, ap, subst, ◌≡◌, ◌∙◌}
use Rattle.nfs_spec.specs.nfs_items.CallerOf.{caller_of}
use Rattle.nfs_spec.specs.nfs_items.declared.stat.Stat.{Stat}
use Rattle.nfs_spec.specs.fs_spec.Trees.{IsFileTree}
use Rattle.nfs_spec.specs.Effects.{number_at_name}
use Rattle.file_tree.proofs.FilesSeen.{seen, unseen, number_none, number_some}
use Rattle.file_tree.proofs.LookUpPaths.{at_name, leads_on, leads_back}
use Rattle.file_tree.proofs.KeptDigests.{files_seen}
use Rattle.file_tree.proofs.tree.Tree.lookup.Goals as goal

pub returns-in-Some-clause-result : goal.returns-in-Some-clause-result
returns-in-Some-clause-result c =
    c.number_at.ensures
    ∙ sym (number_some c.self.inside.table c.args.dir
    (caller_of c.args.who.now) c.args.name.now c.in-Some.inode.now
    (seen c.self.inside.table c.args.dir c.get.result c.get.ensures.file c.in-Some.inode c.in-Some.is)
    c.in-Some.ensures.parent)
    ∙ ap (λ w. number_at_name w (caller_of c.args.who.now) c.args.dir c.args.name.now)
    (files_seen c.self.view_is)

pub returns-in-None-clause-result : goal.returns-in-None-clause-result
returns-in-None-clause-result c =
    sym (number_none c.self.inside.table c.args.dir (caller_of c.args.who.now) c.args.name.now
    (unseen c.self.inside.table c.args.dir c.get.result c.get.ensures.file c.in-None.is))
    ∙ ap (λ w. number_at_name w (caller_of c.args.who.now) c.args.dir c.args.name.now)
    (files_seen c.self.view_is)

if_ok : (r : Result ℕ Stat) (P : ℕ → Type 0) → ((k : ℕ) → r ≡ Ok k → P k) → IfOk r P
if_ok (Ok k) P h = h k refl
if_ok (Err e) P h = tt

pub returns-in-Some-clause-found : goal.returns-in-Some-clause-found
returns-in-Some-clause-found c = if_ok c.number_at.result _ (λ k is named.
    leads_on c.args.self.now.files (caller_of c.args.who.now) c.args.dir c.args.name.now named _
    ((at_name c.args.self.now.files (caller_of c.args.who.now) c.args.dir c.args.name.now named).found k
    (sym (returns-in-Some-clause-result c) ∙ is)))

pub returns-in-Some-clause-absent : goal.returns-in-Some-clause-absent
returns-in-Some-clause-absent c = λ is named.
    leads_on c.args.self.now.files (caller_of c.args.who.now) c.args.dir c.args.name.now named _
    ((at_name c.args.self.now.files (caller_of c.args.who.now) c.args.dir c.args.name.now named).absent
    (sym (returns-in-Some-clause-result c) ∙ is))

pub returns-in-Some-clause-above : goal.returns-in-Some-clause-above
returns-in-Some-clause-above c = λ is. if_ok c.number_at.result _ (λ k ok.
    leads_back c.args.self.now.files (caller_of c.args.who.now) c.args.dir k
    (subst IsFileTree (files_seen c.self.view_is) c.files_are_a_tree.ensures.tree)
    (ap (λ name. number_at_name c.args.self.now.files (caller_of c.args.who.now) c.args.dir name) (sym is)
    ∙ sym (returns-in-Some-clause-result c) ∙ ok))
