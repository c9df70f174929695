use Rattle.std.proofs.Common.{rules, arith, ◌≡◌, ◌+◌, ◌-◌, length, take, replicate, ◌++◌, ℕ}
use Rattle.std.proofs.lemmas.Grind.{common_steps}
use Rattle.inodes.proofs.Contents.{written_back}
use Rattle.inodes.proofs.content.write_at.Goals as goal

pub returns-clause-ok : goal.returns-clause-ok
returns-clause-ok c =
    let m : ℕ = c.len-len.result + c.saturating_sub-missing.result in
    let count : c.len-len.result ≡ length c.args.bytes.now.items =
    first_of (search rules, grind (arith, common_steps)) in
    let grown : m ≡ length c.args.bytes.now.items
    + (c.args.offset + length c.args.new.now - length c.args.bytes.now.items) =
    omega (arith, count, c.saturating_sub-missing.ensures) in
    let filled : c.deref_mut.result.now ≡ take m c.args.bytes.now.items
    ++ replicate (m - length c.args.bytes.now.items) 0 =
    first_of (search rules, grind (arith, common_steps)) in
    let long : length c.overwrite.new.bytes ≡ c.resize.new.self.len =
    first_of (search rules, grind (arith, common_steps)) in
    written_back c.args.offset m c.args.new.now c.args.bytes.now.items c.deref_mut.result.now
    c.overwrite.new.bytes c.resize.new.self.items c.resize.new.self.len
    grown filled c.overwrite.ensures long
