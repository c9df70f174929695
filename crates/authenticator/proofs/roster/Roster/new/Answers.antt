use Rattle.std.proofs.Common.{refl, sym, arith}
use Rattle.std.proofs.lemmas.List.{length-map}
use Rattle.authenticator.specs.Roster.{member_value}
use Rattle.authenticator.proofs.Members.{no_fault_rises, rising_no_fault}
use Rattle.authenticator.proofs.roster.Roster.new.Goals as goal

pub invariant_of-result : goal.invariant_of-result
invariant_of-result c =
    let count = length-map c.args.members.items member_value in
    let fit = rw c.deref.ensures.value at c.in-None.ensures.fit in
    let none = rw c.deref.ensures.value at c.in-None.ensures.fault in
    ((omega (arith, count), omega (arith, count), fit), no_fault_rises 0 c.args.members.items (sym none))

pub returns-in-Some-clause-exact : goal.returns-in-Some-clause-exact
returns-in-Some-clause-exact c =
    let some = rw c.deref.ensures.value at c.in-Some.ensures.fault in (
      λ e. absurd cc,
      λ whole. let none = rising_no_fault 0 c.args.members.items whole.0.2 whole.1 in
          absurd cc,
    )

pub returns-in-None-clause-exact : goal.returns-in-None-clause-exact
returns-in-None-clause-exact c = (λ _. invariant_of-result c, λ _. refl)
