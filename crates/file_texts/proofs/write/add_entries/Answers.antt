use Rattle.std.proofs.Common.{◌++◌, List, length, sym, subst, ap, ◌∙◌}
use Rattle.std.proofs.lemmas.List.{length-map}
use Rattle.xdr.specs.Item.{array, spelling, number_spelling}
use Rattle.xdr.specs.Writing.{Adds}
use Rattle.fs_spec.specs.Listing.{NamedEntry}
use Rattle.server_spec.specs.FileItems.{entry_item}
use Rattle.file_texts.specs.Stored.{entry_in}
use Rattle.tree_rules.specs.declared.limits.TheConstants.{MAX_DIRECTORY_ENTRIES}
use Rattle.file_texts.proofs.Arrays.{adds_counted}
use Rattle.file_texts.proofs.write.add_entries.Goals as goal

pub returns-clause-text : goal.returns-clause-text
returns-clause-text c =
    let count = c.len.ensures ∙ ap length (sym c.entries.ensures) ∙ length-map c.entries.result entry_in in
    subst (λ (es : List NamedEntry). Adds (spelling (array MAX_DIRECTORY_ENTRIES entry_item) es)
    c.args.out.now.items
    c.add_each.result c.add_each.new.out.items) c.entries.ensures
    (adds_counted entry_item entry_in MAX_DIRECTORY_ENTRIES c.entries.result c.args.out.now.items _ _
    c.add_each.result
    (c.in_ok-put_u32.ensures.writes ∙ ap (λ n. c.args.out.now.items ++ number_spelling 4 n) count)
    c.add_each.ensures.text)
