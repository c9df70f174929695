use Rattle.std.proofs.Common.{◌≡◌, ◌<◌, ℕ, List, [], ◌∷◌, Some, Less, refl, sym, ap, ◌∙◌}
use Rattle.std.specs.Prelude.{slice_get}
use Rattle.std.specs.BTreeMap.{insert_entry}
use Rattle.std.specs.Ordering.{nat_cmp, match_ordering}
use Rattle.std.specs.Cmp.{nat_cmp_is}
use Rattle.tree_rules.specs.inodes.declared.inode.Inode.{Inode}
use Rattle.inode_table.proofs.links.maps.put_first.Goals as goal

-- an entry below the first goes first
put_below : (es : List (ℕ × Inode)) (n : ℕ) (i : Inode)
    → ((e : ℕ × Inode) → slice_get es 0 ≡ Some e → n < e.0) → insert_entry nat_cmp es n i ≡ (n, i) ∷ es
put_below [] n i h = refl
put_below (e ∷ es) n i h =
    ap (λ r. match_ordering r ((n, i) ∷ e ∷ es) ((e.0, i) ∷ es) (e ∷ insert_entry nat_cmp es n i))
    (sym (nat_cmp_is n e.0 Less (h e refl)))

-- a number below all others stands first
pub returns : goal.returns
returns c =
    c.in_ok-insert.ensures.entries ∙ put_below c.args.map.now.entries c.args.number c.args.inode c.requires
