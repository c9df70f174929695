use Rattle.std.proofs.Common.{◌≡◌, ◌∙◌, None, Some, ap, inr, sym, true}
use Rattle.authenticator.specs.Roster.{member_of}
use Rattle.evidence_showings.specs.evidence_spec.Showing.{ShowingParts}
use Rattle.challenge.proofs.good_base.state_under.Goals as goal

pub returns-in_default-clause-refused : goal.returns-in_default-clause-refused
returns-in_default-clause-refused c = λ bytes is.
    let node = c.node.ensures ∙ ap (λ (s : ShowingParts). s.node) c.showing.ensures in
    let stranger : member_of c.args.roster.now c.args.text.now.showing.node ≡ None =
    ap (member_of c.args.roster.now) (sym node) ∙ sym c.member.ensures ∙ c.in_default.is in
    record {
      base = c.args.text.now;
      state = c.args.state.now.state;
      is = is;
      sound = c.requires;
      stranger = stranger;
    }

pub returns-then-not-is_base_of-clause-refused : goal.returns-then-not-is_base_of-clause-refused
returns-then-not-is_base_of-clause-refused c = λ bytes is.
    let node = c.node.ensures ∙ ap (λ (s : ShowingParts). s.node) c.showing.ensures in
    let is_member : member_of c.args.roster.now c.args.text.now.showing.node ≡ Some c.in-Some.member =
    ap (member_of c.args.roster.now) (sym node) ∙ sym c.member.ensures ∙ c.in-Some.is in
    inr (inr (record {
      base = c.args.text.now;
      state = c.args.state.now.state;
      member = c.in-Some.member;
      is = is;
      sound = c.requires;
      is_member = is_member;
      differs = λ h. let yes : c.is_base_of.result ≡ true = c.is_base_of.ensures.1 h in absurd cc;
    }))

pub returns-then-not-is_signed_by-clause-refused : goal.returns-then-not-is_signed_by-clause-refused
returns-then-not-is_signed_by-clause-refused c = λ bytes is.
    let node = c.node.ensures ∙ ap (λ (s : ShowingParts). s.node) c.showing.ensures in
    let is_member : member_of c.args.roster.now c.args.text.now.showing.node ≡ Some c.in-Some.member =
    ap (member_of c.args.roster.now) (sym node) ∙ sym c.member.ensures ∙ c.in-Some.is in
    let closing = rw (c.closing.ensures, c.showing-2.ensures) at c.is_signed_by.ensures in
    record {
      base = c.args.text.now;
      state = c.args.state.now.state;
      member = c.in-Some.member;
      is = is;
      sound = c.requires;
      is_member = is_member;
      of_member = c.is_base_of.ensures.0 c.if-not-is_base_of.false;
      unsigned = λ h. let yes : c.is_signed_by.result ≡ true = closing.1 h in absurd cc;
    }
