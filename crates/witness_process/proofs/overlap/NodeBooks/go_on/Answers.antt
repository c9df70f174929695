-- Books went on.
use Rattle.std.proofs.Common.{rules, refl, sym, subst}
use Rattle.watching.specs.Filed.{GoesOnBy}
use Rattle.watching.specs.Shown.{StandingParts}
use Rattle.witness_process.specs.Overlaps.{BeginsAt, IsSettled, WereLookedAt}
use Rattle.witness_process.proofs.overlap.NodeBooks.go_on.Goals as goal

-- those that were replaced are the ones that were settled, and filed the base's CHECK
pub returns-clause-went : goal.returns-clause-went
returns-clause-went c t =
    let same = sym c.replace-standing.ensures.value in
    let next = sym c.replace-standing.ensures.after in record {
      none = search rules;
      before = record {
        standing = c.replace-standing.result;
        at = c.get-at.result;
        since = c.args.time;
        unshown = c.in_ok-unshown.unshown;
      };
      stands = refl;
      settled = subst (λ (s : StandingParts). IsSettled c.args.self.now.node c.args.self.now.current.books s.books) same
          (c.in_ok-is_settled.ensures.settled (search rules));
      looked = subst (λ (s : StandingParts). WereLookedAt c.args.self.now.node c.args.self.now.current s) same
          c.is_settled.ensures.looked;
      base = c.args.base.value;
      goes = subst (λ (s : StandingParts). GoesOnBy s.books c.args.base.value) same
          (rw c.value.ensures.value at (c.in_ok-may_go_on.ensures (search rules)));
      at = search rules;
      begins = subst (λ (s : StandingParts). BeginsAt s c.args.base.value c.replace-standing.new.dest) same
          (subst (λ (s : StandingParts). BeginsAt c.is_settled.new.self.current c.args.base.value s) next
          (rw c.in-Some.is at c.in_ok-next.ensures));
      since = refl;
      unshown = search rules;
      node = search rules;
      begun = refl;
    }
