use Rattle.std.proofs.Common.{◌≡◌, ◌++◌, ◌∷◌, [], arith}
use Rattle.std.proofs.lemmas.List.{map_push, length-append}
use Rattle.std.proofs.lemmas.Result.{err_from_is_err_and}
use Rattle.xdr.specs.ArraysAndUnions.{goes_on, fails, ends}
use Rattle.authenticator.specs.Roster.{member_value, member_values}
use Rattle.authenticator.proofs.Forms.{one_more}
use Rattle.authenticator.proofs.listed.read_members.Goals as goal

pub returns-in_err-read_member-clause-gives : goal.returns-in_err-read_member-clause-gives
returns-in_err-read_member-clause-gives c =
    let p = err_from_is_err_and c.from_residual.result c.from_residual.ensures.1 in
    rw (p.1, p.2) (fails _ _ _ _ _ _ _ c.loop-test.true c.in_err-read_member.ensures.gives c.loop.invariant.read)

pub loop-preserved : goal.loop-preserved
loop-preserved c =
    let ms = c.loop.members.items in
    let m = c.in_ok-read_member.field-0 in
    let items : c.push.new.self.items ≡ ms ++ m ∷ [] = c.in_ok-push.ensures.items in
    let values : member_values c.push.new.self.items ≡ member_values ms ++ member_value m ∷ [] =
    rw items (map_push _ ms m) in
    record {
      read = rw values
          (goes_on _ _ _ _ _ _ _ _ c.loop-test.true c.in_ok-read_member.ensures.gives c.loop.invariant.read);
      count = rw items (omega (arith, length-append ms (m ∷ []), c.loop.invariant.count));
      logs = rw items (one_more ms m c.loop.invariant.logs c.in_ok-read_member.ensures.log);
    }

-- after the last member
pub returns-clause-gives : goal.returns-clause-gives
returns-clause-gives c = ends _ _ _ _ _ _ c.loop-test.false c.loop.invariant.read
