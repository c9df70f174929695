use Rattle.std.proofs.Common.{◌≡◌, None, ap, subst, sym, ◌∙◌}
use Rattle.authenticator.specs.Roster.{roster_fault}
use Rattle.host_keys.specs.Rosters.{members_of}
use Rattle.host_keys.proofs.RosterLaws.{no_roster_fault, roster_is_made}
use Rattle.host_keys.proofs.member_lines.MemberLines.roster.Goals as goal

pub unwrap-requires : goal.unwrap-requires
unwrap-requires c =
    let same : c.in_ok-members.members.items ≡ members_of c.self.inside.lines.items c.args.epoch =
    c.in_ok-members.ensures ∙ ap (λ ls. members_of ls c.args.epoch) c.deref.ensures.value in
    roster_is_made c.in_ok-members.members.items c.new.result
    (subst (λ ms. roster_fault ms ≡ None) (sym same)
    (no_roster_fault c.self.inside.lines.items c.args.epoch c.self.invariant))
    c.new.ensures.fault
