use Rattle.std.proofs.Common.{◌≡◌, ◌++◌, ◌∙◌, length, ap, sym, arith}
use Rattle.std.specs.FinMap as finite
use Rattle.xdr.specs.Item.{number_spelling}
use Rattle.state_spec.specs.server_spec.FileItems.{file_item, file_value}
use Rattle.file_tree.proofs.WritableFiles.{writable, few_files, as_many}
use Rattle.checkpoint.proofs.OfTrees.WrittenFiles.{files_fit, files_added}
use Rattle.checkpoint.proofs.trees.write.add_tree.Goals as goal

pub overflow_cast-len : goal.overflow_cast-len
overflow_cast-len c =
    let few = few_files c.args.tree.now.files c.files_are_a_tree.ensures.tree c.files_are_a_tree.ensures.room
    in
    let many = as_many c.inodes.result (finite.entries c.args.tree.now.files.files) c.inodes.ensures in
    omega (arith, c.len.ensures.value, few, many)

pub add_files-requires : goal.add_files-requires
add_files-requires c = writable c.args.tree.now.files c.files_are_a_tree.ensures.tree
    c.files_are_a_tree.ensures.room c.inodes-2.result c.inodes-2.ensures

pub returns-clause-fits : goal.returns-clause-fits
returns-clause-fits c =
    let few = few_files c.args.tree.now.files c.files_are_a_tree.ensures.tree c.files_are_a_tree.ensures.room
    in
    files_fit file_item file_value c.inodes-2.result (finite.entries c.args.tree.now.files.files)
    c.inodes-2.ensures c.add_files.result few c.add_files.ensures.fits

pub returns-clause-text : goal.returns-clause-text
returns-clause-text c =
    let es = finite.entries c.args.tree.now.files.files in
    let count : c.len.result ≡ length c.inodes-2.result = c.len.ensures.value
    ∙ as_many c.inodes.result es c.inodes.ensures
    ∙ sym (as_many c.inodes-2.result es c.inodes-2.ensures) in
    files_added file_item file_value c.inodes-2.result es c.inodes-2.ensures c.args.out.now.items _ _
    c.add_files.result
    (c.in_ok-put_u32.ensures.writes ∙ ap (λ n. c.args.out.now.items ++ number_spelling 4 n) count)
    c.add_files.ensures.text
