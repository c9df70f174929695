use Rattle.std.proofs.Common.{◌≡◌, option_map, None, nat_eq, ap, subst, ◌∙◌, ◌++◌, [], ◌∷◌}
use Rattle.std.specs.Cmp.Lexicographic.{pointwise}
use Rattle.std.specs.Map.{remove_entry, lookup}
use Rattle.indexmap.specs.IndexMap.{get_by}
use Rattle.indexmap.proofs.CallerLemmas.{insert_entry-new}
use Rattle.inodes.specs.Directories.Entries.{entries_of}
use Rattle.inodes.proofs.OfDirectories.Listings.{put-shown, lookup-shown, lookup-kept}
use Rattle.inodes.proofs.directories.directory.put_last.Goals as goal

pub returns-clause-ok : goal.returns-clause-ok
returns-clause-ok c =
    let none = subst (λ n. get_by (λ k. pointwise nat_eq n k.items) c.shift_remove.new.self
    ≡ None) c.as_slice.ensures.value c.shift_remove.ensures.updates.1 in
    let added = rw c.unwrap.ensures at c.insert.ensures.entries in
    let kept = c.shift_remove.ensures.entries
    ∙ ap (λ n. remove_entry
    (λ k. pointwise nat_eq n k.items) c.reserve.new.self.entries) c.as_slice.ensures.value
    ∙ ap (remove_entry (λ k. pointwise nat_eq c.args.name.items k.items)) c.reserve.ensures.entries in
    ap entries_of (added ∙ insert_entry-new _ c.shift_remove.new.self c.args.name c.args.entry none
    ∙ ap (λ es. es ++ (c.args.name, c.args.entry) ∷ []) kept)
    ∙ put-shown (λ k. k.items) (λ e. (e.number, e.cookie))
    (pointwise nat_eq c.args.name.items) c.args.entries.now.entries c.args.name c.args.entry

pub returns-clause-here : goal.returns-clause-here
returns-clause-here c =
    lookup-shown (λ k. k.items) (λ e. (e.number, e.cookie))
    (pointwise nat_eq c.args.name.items) c.insert.new.self.entries
    ∙ ap (option_map (λ e. (e.number, e.cookie))) (rw c.unwrap.ensures at c.insert.ensures.updates).1

pub returns-clause-others : goal.returns-clause-others
returns-clause-others c = λ q other.
    lookup-kept (λ k. k.items)
    (λ e. (
      e.number,
      e.cookie,
    )) c.args.name.items c.shift_remove.new.self.entries c.insert.new.self.entries
    (rw c.unwrap.ensures at c.insert.ensures.updates).3 q other
    ∙ lookup-kept (λ k. k.items)
    (λ e. (
      e.number,
      e.cookie,
    )) c.as_slice.result.now c.reserve.new.self.entries c.shift_remove.new.self.entries
    c.shift_remove.ensures.updates.3 q (λ e. other (e ∙ c.as_slice.ensures.value))
    ∙ ap (λ es. lookup (pointwise nat_eq q) (entries_of es)) c.reserve.ensures.entries
