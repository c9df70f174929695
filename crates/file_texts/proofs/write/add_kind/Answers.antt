use Rattle.std.proofs.Common.{ℕ, List, sym, subst}
use Rattle.std.specs.Prelude.{OnOk}
use Rattle.xdr.specs.Item.{Fits, choice, spelling}
use Rattle.xdr.specs.Writing.{Adds}
use Rattle.tree_rules.specs.inodes.declared.inode.Body as stored
use Rattle.tree_rules.specs.inodes.Inodes.{body_in, file_in}
use Rattle.server_spec.specs.FileItems.{attributes_value, is_file_kind, kind_item, kind_value}
use Rattle.file_texts.proofs.write.add_kind.Goals as goal

pub returns-in-Regular-clause-fits : goal.returns-in-Regular-clause-fits
returns-in-Regular-clause-fits c =
    subst (λ (b : stored.Body). OnOk c.add_regular.result
    (Fits (choice is_file_kind kind_item) (kind_value (file_in c.args.inode.now) (body_in b))))
    (sym c.in-Regular.is)
    (subst (λ (bytes : List ℕ). OnOk c.add_regular.result
    (Fits (choice is_file_kind kind_item) (1, (attributes_value (file_in c.args.inode.now), bytes))))
    c.deref.ensures.value c.add_regular.ensures.fits)

pub returns-in-Regular-clause-text : goal.returns-in-Regular-clause-text
returns-in-Regular-clause-text c =
    subst (λ (b : stored.Body). Adds (spelling (choice is_file_kind kind_item)
    (kind_value (file_in c.args.inode.now) (body_in b))) c.args.out.now.items c.add_regular.result
    c.add_regular.new.out.items) (sym c.in-Regular.is)
    (subst (λ (bytes : List ℕ). Adds (spelling (choice is_file_kind kind_item)
    (1, (attributes_value (file_in c.args.inode.now), bytes))) c.args.out.now.items c.add_regular.result
    c.add_regular.new.out.items) c.deref.ensures.value c.add_regular.ensures.text)

pub returns-in-Symlink-clause-fits : goal.returns-in-Symlink-clause-fits
returns-in-Symlink-clause-fits c =
    subst (λ (b : stored.Body). OnOk c.add_symlink.result
    (Fits (choice is_file_kind kind_item) (kind_value (file_in c.args.inode.now) (body_in b))))
    (sym c.in-Symlink.is)
    (subst (λ (bytes : List ℕ). OnOk c.add_symlink.result
    (Fits (choice is_file_kind kind_item) (5, (attributes_value (file_in c.args.inode.now), bytes))))
    c.deref-in-Symlink.ensures.value c.add_symlink.ensures.fits)

pub returns-in-Symlink-clause-text : goal.returns-in-Symlink-clause-text
returns-in-Symlink-clause-text c =
    subst (λ (b : stored.Body). Adds (spelling (choice is_file_kind kind_item)
    (kind_value (file_in c.args.inode.now) (body_in b))) c.args.out.now.items c.add_symlink.result
    c.add_symlink.new.out.items) (sym c.in-Symlink.is)
    (subst (λ (bytes : List ℕ). Adds (spelling (choice is_file_kind kind_item)
    (5, (attributes_value (file_in c.args.inode.now), bytes))) c.args.out.now.items c.add_symlink.result
    c.add_symlink.new.out.items) c.deref-in-Symlink.ensures.value c.add_symlink.ensures.text)

pub returns-in-Directory-clause-fits : goal.returns-in-Directory-clause-fits
returns-in-Directory-clause-fits c =
    subst (λ (b : stored.Body). OnOk c.add_directory.result
    (Fits (choice is_file_kind kind_item) (kind_value (file_in c.args.inode.now) (body_in b))))
    (sym c.in-Directory.is) c.add_directory.ensures.fits

pub returns-in-Directory-clause-text : goal.returns-in-Directory-clause-text
returns-in-Directory-clause-text c =
    subst (λ (b : stored.Body). Adds (spelling (choice is_file_kind kind_item)
    (kind_value (file_in c.args.inode.now) (body_in b))) c.args.out.now.items c.add_directory.result
    c.add_directory.new.out.items) (sym c.in-Directory.is) c.add_directory.ensures.text
