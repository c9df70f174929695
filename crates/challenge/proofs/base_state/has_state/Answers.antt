use Rattle.std.proofs.Common.{◌∙◌, ap, sym}
use Rattle.secure_log.specs.declared.log_entries.entry.Entry.TheVariants.{Check}
use Rattle.evidence_showings.specs.evidence_spec.Showing.{shown_logged}
use Rattle.challenge.specs.BaseStates.{IsStateOf}
use Rattle.challenge.proofs.BaseStates.{check_here, check_is}
use Rattle.challenge.proofs.base_state.has_state.Goals as goal

-- the link there is that of the state's CHECK
pub returns : goal.returns
returns c =
    let l = c.args.link.now in
    let s = c.args.state.now.state in
    let own : IsStateOf c.args.base.now s = c.in_ok-knows_few.ensures.0 c.if-not-branch.false in (
      (λ yes.
          let shown = c.is_check_of.ensures.0 yes
          ∙ ap (λ d. shown_logged (record { skipped = l.skipped; entry = Check d })) c.in_ok-digest.ensures in
          record {
            zero = c.requires.zero;
            check = check_is c.args.base.now l s c.requires.link shown;
            text = own.text;
            node = own.node;
            few_received = own.few_received;
            few_sends = own.few_sends;
            sends = own.sends;
          }),
      (λ h. c.is_check_of.ensures.1 (check_here c.args.base.now l s c.requires.link h.check
          ∙ ap (λ d. shown_logged (record { skipped = l.skipped; entry = Check d })) (sym c.in_ok-digest.ensures))),
    )
