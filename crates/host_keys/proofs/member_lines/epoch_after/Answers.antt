use Rattle.std.proofs.Common.{◌≡◌, Option, Some, None, IfSome, ℕ, List}
use Rattle.host_keys.specs.declared.member_line.MemberLine.{MemberLine}
use Rattle.host_keys.specs.Rosters.{HasEpoch, epoch_from}
use Rattle.host_keys.proofs.RosterLaws.{IsNearest, found_epoch, found_none, nearest_known}
use Rattle.host_keys.proofs.member_lines.epoch_after.Goals as goal

-- what holds of the nearest one holds of the answer
of_nearest : (n : ℕ) (ls : List MemberLine) (P : ℕ → Type 0) (r : Option ℕ) → r ≡ epoch_from n None ls
    → ((e : ℕ) → IsNearest n None ls e → P e) → IfSome r P
of_nearest n ls P None h says = tt
of_nearest n ls P (Some e) h says = says e (found_epoch n ls (Some e) h)

pub returns-clause-some : goal.returns-clause-some
returns-clause-some c =
    of_nearest c.args.number c.args.lines.now
    (HasEpoch c.args.lines.now) c.nearest_epoch.result c.nearest_epoch.ensures
    (λ e is. nearest_known c.args.number c.args.lines.now e is)

pub returns-clause-after : goal.returns-clause-after
returns-clause-after c =
    of_nearest c.args.number c.args.lines.now _ c.nearest_epoch.result c.nearest_epoch.ensures
    (λ e is. is.after)

pub returns-clause-least : goal.returns-clause-least
returns-clause-least c =
    of_nearest c.args.number c.args.lines.now _ c.nearest_epoch.result c.nearest_epoch.ensures
    (λ e is. is.least)

pub returns-clause-none : goal.returns-clause-none
returns-clause-none c = found_none c.args.number c.args.lines.now c.nearest_epoch.result
    c.nearest_epoch.ensures
