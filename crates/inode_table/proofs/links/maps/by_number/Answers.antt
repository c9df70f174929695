use Rattle.std.proofs.Common.{◌≡◌, ◌++◌, ◌-◌, [], take, sym, ap, ◌∙◌}
use Rattle.inode_table.proofs.OfLinks.Whole.{moved, below_rest}
use Rattle.inode_table.proofs.links.maps.by_number.Goals as goal

pub put_first-requires : goal.put_first-requires
put_first-requires c = λ e first.
    below_rest c.args.inodes.items c.pop.new.self.items c.loop-number.inodes.items
    (c.in-Some.number, c.in-Some.inode) c.loop-number.map.entries c.in-Some.ensures.items
    c.loop-number.invariant c.requires e first

pub loop-number-preserved : goal.loop-number-preserved
loop-number-preserved c =
    ap (λ l. c.pop.new.self.items ++ l) c.in_ok-put_first.ensures
    ∙ moved c.args.inodes.items c.pop.new.self.items c.loop-number.inodes.items
    (c.in-Some.number, c.in-Some.inode) c.loop-number.map.entries c.in-Some.ensures.items
    c.loop-number.invariant

-- nothing is left to put, so the map has all the inodes
pub returns : goal.returns
returns c =
    let left = c.loop-number.inodes in
    let none : left.items ≡ [] =
    c.in_default.ensures.items ∙ ap (λ l. l ++ [])
    (c.in_default.ensures.rest ∙ ap (λ n. take (n - 1) left.items) c.in_default.ensures.cases.0) in
    ap (λ l. l ++ c.loop-number.map.entries) (sym none) ∙ c.loop-number.invariant
