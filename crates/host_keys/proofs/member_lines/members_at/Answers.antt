use Rattle.std.proofs.Common.{◌≡◌, ◌++◌, [], ◌∷◌, List, Option, Some, None, sym, ap, ◌∙◌, arith, append-nil}
use Rattle.std.proofs.Common.{option_to_list}
use Rattle.authenticator.specs.declared.member.Member.{Member}
use Rattle.host_keys.specs.Rosters.{member_at, members_to}
use Rattle.host_keys.proofs.RosterLaws.{members_more, members_none}
use Rattle.host_keys.proofs.member_lines.members_at.Goals.{in-Some+in_ok-push, in_default}
use Rattle.host_keys.proofs.member_lines.members_at.Goals as goal

pub loop-node-init : goal.loop-node-init
loop-node-init c = c.new-members.ensures.items ∙ sym (members_none c.args.lines.now c.args.epoch)

-- a member is put where one has the number
with_one : {m : Member} {o : Option Member} (items new all : List Member) → o ≡ Some m
    → new ≡ items ++ (m ∷ [])
    → all ≡ items ++ option_to_list o → new ≡ all
with_one items new all said put more = put ∙ sym (more ∙ ap (λ o. items ++ option_to_list o) said)

-- none where none has
with_none : {o : Option Member} (items new all : List Member) → o ≡ None → new ≡ items
    → all ≡ items ++ option_to_list o → new ≡ all
with_none items new all said same more =
    same ∙ sym (more ∙ ap (λ o. items ++ option_to_list o) said ∙ append-nil items)

pub loop-node-preserved : goal.loop-node-preserved
loop-node-preserved c =
    let more = members_more c.args.lines.now c.args.epoch c.loop-node.node c.loop-node.auto.node
    ∙ ap (λ ms. ms ++ option_to_list (member_at c.args.lines.now c.args.epoch c.loop-node.node))
    (sym c.loop-node.invariant) in
    elim c.match-member_at.branch [
      | in-Some+in_ok-push w ↦ with_one c.loop-node.members.items _ _ (sym c.member_at.ensures ∙ w.in-Some.is)
          (ap (λ v. v.items) w.members-is ∙ w.in_ok-push.ensures.items) more
      | in_default w ↦ with_none c.loop-node.members.items _ _ (sym c.member_at.ensures ∙ w.in_default.is)
          (ap (λ v. v.items) w.members-is) more
    ]

pub returns : goal.returns
returns c = c.loop-node.invariant ∙ ap (members_to c.args.lines.now c.args.epoch) (omega arith)
