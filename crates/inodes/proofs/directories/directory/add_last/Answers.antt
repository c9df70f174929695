use Rattle.std.proofs.Common.{◌≡◌, [], ◌∷◌, Option, Some, None, option_map, nat_eq, refl, sym, ap, ◌∙◌}
use Rattle.std.proofs.lemmas.List.{map-append}
use Rattle.std.specs.Cmp.Lexicographic.{pointwise}
use Rattle.std.specs.Map.{lookup}
use Rattle.indexmap.proofs.CallerLemmas.{insert_entry-new}
use Rattle.inodes.specs.Directories.Entries.{entries_of}
use Rattle.inodes.specs.declared.directories.directory.Entry.{Entry}
use Rattle.inodes.proofs.OfDirectories.Listings.{lookup-shown}
use Rattle.inodes.proofs.directories.directory.add_last.Goals as goal

none_of : {A B : Type 0} (f : A → B) (o : Option A) → option_map f o ≡ None → o ≡ None
none_of f None h = refl
none_of f (Some x) h = absurd (cc)

pub returns-clause-ok : goal.returns-clause-ok
returns-clause-ok c =
    let none = none_of (λ (e : Entry). (e.number, e.cookie))
    (lookup (λ k. pointwise nat_eq c.args.name.items k.items) c.args.entries.now.entries)
    (sym (lookup-shown (λ k. k.items) (λ (e : Entry). (e.number, e.cookie))
    (pointwise nat_eq c.args.name.items) c.args.entries.now.entries) ∙ c.requires) in
    ap entries_of (c.in_ok-insert.ensures.entries
    ∙ insert_entry-new _ c.args.entries.now c.args.name c.args.entry none)
    ∙ map-append (λ e. (e.0.items, (e.1.number, e.1.cookie))) c.args.entries.now.entries
    ((c.args.name, c.args.entry) ∷ [])
