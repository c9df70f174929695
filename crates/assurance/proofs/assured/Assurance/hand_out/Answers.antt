use Rattle.std.proofs.Common.{ap, ◌∙◌, ◌++◌, ◌∷◌, []}
use Rattle.assurance.proofs.assured.Assurance.hand_out.Goals as goal

-- it waits after the others, and is left out of what comes now and of the last answer
pub returns-clause-goes_on : goal.returns-clause-goes_on
returns-clause-goes_on c = λ h s. record {
  waits = c.in_ok-push.ensures.items ∙ ap (λ xs. xs ++ c.args.number ∷ []) s.waits;
  out = c.lesser.ensures _ s.out;
  last = c.leave_out-self.ensures _ s.last;
}
