use Rattle.std.proofs.Common.{ℕ, List, ◌∷◌, map, ap, ◌∙◌}
use Rattle.nfs_spec.specs.fs_spec.Names.{dot}
use Rattle.nfs_spec.specs.nfs_types.Calls.{PageEntry, Page}
use Rattle.nfs_spec.specs.Readdir.{page_entry, page_of}
use Rattle.inodes.specs.Directories.Pages.{page_with}
use Rattle.inodes.proofs.directories.directory.Directory.page.Goals as goal

-- what was added step by step is the page of `.`, `..` and the entries, as its definition has it
pub returns : goal.returns
returns c =
    let listed = map page_entry c.args.self.now.entries in
    let own : List ℕ → PageEntry = λ name. record { fileid = c.args.own; name = name; cookie = 1 } in
    let above : List ℕ → PageEntry = λ name. record { fileid = c.args.above; name = name; cookie = 2 } in
    let page : List ℕ → List ℕ
    → Page = λ one two. page_of c.args.cookie c.args.count (own one ∷ above two ∷ listed) in
    c.finish.ensures ∙ c.in_ok-add_all.ensures ∙ ap (page_with c.add_above-2.new.self) c.entries_above.ensures
    ∙ c.in_ok-add_above-2.ensures listed ∙ c.in_ok-add_above.ensures (above c.as_slice-2.result.now ∷ listed)
    ∙ c.new-filling.ensures _
    ∙ ap (λ name. page name c.as_slice-2.result.now) c.as_slice.ensures ∙ ap (page dot) c.as_slice-2.ensures
